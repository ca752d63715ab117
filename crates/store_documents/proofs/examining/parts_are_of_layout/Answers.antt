use Rattle.store_documents.proofs.PartLaws.{parts}
use Rattle.store_documents.proofs.examining.parts_are_of_layout.Goals as goal

pub returns : goal.returns
returns c = parts
