use Rattle.std.proofs.Common.{◌∙◌, ap}
use Rattle.desk_past.specs.Deeds.{after_deeds}
use Rattle.past_steps.specs.Steps.{step_deeds}
use Rattle.past_steps.proofs.back.both_gathered.Goals as goal

pub returns : goal.returns
returns c = (
  c.in_ok-before.ensures.shown tt ∙ c.in_ok-copy.ensures.same tt,
  c.in_ok-after.ensures.shown tt ∙ c.in_ok-do_step.ensures
      ∙ ap (λ x. after_deeds x (step_deeds c.args.step.now)) (c.copy_of.ensures.desktop tt),
)
