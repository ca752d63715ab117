use Rattle.image_format.proofs.Room.{room}
use Rattle.image_format.proofs.laws.images_have_room.Goals as goal

pub returns : goal.returns
returns c = room
