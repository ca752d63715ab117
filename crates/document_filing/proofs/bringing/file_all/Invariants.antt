use Rattle.std.proofs.Common.{◌≡◌, ◌+◌, take}
use Rattle.desk_core.specs.Words.{kept_desktop}
use Rattle.document_filing.specs.Bringing.{many_bytes}
use Rattle.document_filing.specs.Gathered.{IsGathered}
use Rattle.desk_core.proofs.Calm.{IsCalm}
use Rattle.document_filing.proofs.bringing.file_all.Given as goal

-- the documents so far were filed
abbrev pub invariant-loop-document : goal.invariant-loop-document
invariant-loop-document g l = record {
  gathered : IsGathered (g.S.CharSource.characters l.fn.source) (g.S.CharSource.characters l.source)
      (kept_desktop l.fn.desk) (kept_desktop l.desk) (take l.document-index l.documents);
  written : l.desk.written ≡ l.fn.desk.written + many_bytes (take l.document-index l.documents);
  calm : IsCalm g.S.CharSource l.fn.source l.source;
}
