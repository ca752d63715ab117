use Rattle.event_bytes.proofs.EventParts.{length_within}
use Rattle.event_bytes.proofs.laws.spelling_fits.Goals as goal

pub returns-clause-least : goal.returns-clause-least
returns-clause-least c event valid = (length_within event valid).0

pub returns-clause-most : goal.returns-clause-most
returns-clause-most c event valid = (length_within event valid).1
