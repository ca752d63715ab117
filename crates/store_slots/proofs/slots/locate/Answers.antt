use Rattle.store_slots.proofs.Choosing.{slot_with_head}
use Rattle.store_slots.proofs.slots.locate.Goals as goal

pub returns-clause-slot : goal.returns-clause-slot
returns-clause-slot g c = slot_with_head c.find_slot.result c.find_slot.ensures.two c.find_slot.ensures.good
