use Rattle.std.proofs.Common.{refl}
use Rattle.desktop_image.proofs.imaging.all_in.Goals as goal

pub returns : goal.returns
returns c = c.cursor.ensures.whole refl
