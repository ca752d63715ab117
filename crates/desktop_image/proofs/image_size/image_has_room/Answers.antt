use Rattle.desk_core.specs.Kept.{kept_desktop}
use Rattle.desktop_image.proofs.ImageLemmas.{image_long, has_room}
use Rattle.desktop_image.proofs.image_size.image_has_room.Goals as goal

pub returns-clause-room : goal.returns-clause-room
returns-clause-room c =
    has_room (kept_desktop c.args.desk.now) c.requires.whole c.requires.spellable c.images_have_room.ensures

pub returns-clause-parts : goal.returns-clause-parts
returns-clause-parts c = image_long (kept_desktop c.args.desk.now)
