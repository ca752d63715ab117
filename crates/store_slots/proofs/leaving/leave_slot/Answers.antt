use Rattle.store_slots.proofs.Beside.{leaving, left}
use Rattle.store_slots.proofs.leaving.leave_slot.Goals as goal

pub returns-in_err-close_slot-clause-any_moment : goal.returns-in_err-close_slot-clause-any_moment
returns-in_err-close_slot-clause-any_moment g c = λ h s t at. leaving at (c.close_slot.ensures.kept.moments h)

pub returns-clause-any_moment : goal.returns-clause-any_moment
returns-clause-any_moment g c = λ h s t at. leaving at (c.close_slot.ensures.kept.moments h)

pub returns-clause-left : goal.returns-clause-left
returns-clause-left g c = λ h s t at. left at (c.close_slot.ensures.kept.moments h) (c.in_ok-close_slot.ensures.closed h)
