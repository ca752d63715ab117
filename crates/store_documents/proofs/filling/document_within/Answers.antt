use Rattle.std.proofs.Common.{rules}
use Rattle.store_documents.proofs.FillingLaws.{filled_plain}
use Rattle.store_documents.proofs.filling.document_within.Goals as goal

pub returns-in_ok-filled-in-Some-clause-plain : goal.returns-in_ok-filled-in-Some-clause-plain
returns-in_ok-filled-in-Some-clause-plain c =
    let plain = filled_plain c.in-Some.width 0 c.in_ok-text.text.items c.in_ok-text.ensures.plain in search rules
