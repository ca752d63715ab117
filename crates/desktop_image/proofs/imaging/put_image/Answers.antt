use Rattle.desk_core.specs.Kept.{kept_desktop}
use Rattle.desktop_image.proofs.ImageLemmas.{are_ready}
use Rattle.desktop_image.proofs.imaging.put_image.Goals as goal

pub put_parts-requires : goal.put_parts-requires
put_parts-requires g c = are_ready (kept_desktop c.args.desk.now) c.requires
