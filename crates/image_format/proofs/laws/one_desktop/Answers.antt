use Rattle.image_format.proofs.OneImage.{one_image}
use Rattle.image_format.proofs.laws.one_desktop.Goals as goal

pub returns : goal.returns
returns c = one_image
