use Rattle.document_filing.proofs.BringingLaws.{brought_sound}
use Rattle.document_filing.proofs.laws.bringing_keeps_sound.Goals as goal

pub returns : goal.returns
returns c = brought_sound
