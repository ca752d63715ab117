use Rattle.std.proofs.Common.{◌≡◌, take}
use Rattle.past_pages.specs.Page.{document_spellings, AreDocuments}
use Rattle.past_pages.proofs.documents.spelled_documents.Given as goal

-- the documents so far were spelled
abbrev pub invariant-loop-document : goal.invariant-loop-document
invariant-loop-document l = record {
  spelled : l.bytes.items ≡ document_spellings (take l.document-index l.documents);
  good : AreDocuments (take l.document-index l.documents);
}
