use Rattle.press_plans.specs.Plans.{plan_of}
use Rattle.press_plans.proofs.pouring.pour_plan.Goals as goal

pub returns-in-Back : goal.returns-in-Back
unfolding plan_of
returns-in-Back g c = rw c.in-Back.is (record { exact = c.go_then.ensures.exact; looks = c.go_then.ensures.looks })
