use Rattle.std.proofs.Common.{◌≡◌, ◌+◌, take}
use Rattle.document_filing.specs.Bringing.{many_bytes}
use Rattle.document_filing.proofs.sizes.documents_fit.Given as goal

-- what is left of the room, and the bytes so far
abbrev pub invariant-loop-document : goal.invariant-loop-document
invariant-loop-document l = l.left + many_bytes (take l.document-index l.documents) ≡ l.fn.room
