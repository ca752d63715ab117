use Rattle.desk_core.specs.Kept.{kept_desktop}
use Rattle.desktop_image.proofs.ImageLemmas.{short_pattern}
use Rattle.desk_core.proofs.ViewLemmas.{few}
use Rattle.desktop_image.proofs.image_size.image_len.Goals as goal

pub settings_len-requires : goal.settings_len-requires
settings_len-requires c = short_pattern (kept_desktop c.args.desk.now) c.requires.whole

pub display_len-requires-clause-marks : goal.display_len-requires-clause-marks
display_len-requires-clause-marks c = few (kept_desktop c.args.desk.now) c.requires.whole
