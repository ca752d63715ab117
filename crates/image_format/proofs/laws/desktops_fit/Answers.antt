use Rattle.image_format.proofs.DesktopFits.{desktop_fits}
use Rattle.image_format.proofs.laws.desktops_fit.Goals as goal

pub returns : goal.returns
returns c = desktop_fits
