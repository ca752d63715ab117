use Rattle.store_slots.proofs.Counting.{no_content}
use Rattle.store_slots.proofs.live.LiveDesktop.put_image.Goals as goal

pub put_image-requires : goal.put_image-requires
put_image-requires g c = (c.requires.over no_content).whole
