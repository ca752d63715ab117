use Rattle.std.proofs.Common.{take}
use Rattle.store_documents.specs.Handing.{AreTaken}
use Rattle.store_documents.proofs.handing.documents_of.Given as goal

abbrev pub invariant-loop-index : goal.invariant-loop-index
invariant-loop-index l = AreTaken l.width (take l.index l.files) l.documents.items
