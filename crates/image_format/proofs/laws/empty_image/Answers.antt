use Rattle.image_format.proofs.EmptyBytes.{empty_law}
use Rattle.image_format.proofs.laws.empty_image.Goals as goal

pub returns : goal.returns
returns c = empty_law
