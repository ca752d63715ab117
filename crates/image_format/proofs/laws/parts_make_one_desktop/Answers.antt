use Rattle.image_format.proofs.OneDesktop.{same_desktop}
use Rattle.image_format.proofs.laws.parts_make_one_desktop.Goals as goal

pub returns : goal.returns
returns c = same_desktop
