use Rattle.store_slots.proofs.TakingBack.{taking, taken}
use Rattle.store_slots.proofs.records.take_back.Goals as goal

pub returns-in_err-shut-clause-any_moment : goal.returns-in_err-shut-clause-any_moment
returns-in_err-shut-clause-any_moment g c = λ h s at. taking at (c.shut.ensures.kept.moments h)

pub returns-clause-any_moment : goal.returns-clause-any_moment
returns-clause-any_moment g c = λ h s at. taking at (c.shut.ensures.kept.moments h)

pub returns-clause-taken : goal.returns-clause-taken
returns-clause-taken g c = λ h s at.
    taken at (c.shut.ensures.kept.moments h) (c.in_ok-shut.ensures.closed h) (c.in_ok-shut.ensures.quiet h)
