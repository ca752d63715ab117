use Rattle.std.proofs.Common.{◌∙◌, ◌∷◌, [], ap, sym}
use Rattle.std.proofs.lemmas.Result.{on_ok_weaker}
use Rattle.desk_past.specs.Deeds.{all_posted, brought}
use Rattle.past_steps.specs.Steps.{step_deeds}
use Rattle.past_steps.proofs.Turned.{did_events, did_import}
use Rattle.past_steps.proofs.back.do_step.Goals as goal

pub returns-in-Events : goal.returns-in-Events
returns-in-Events c = on_ok_weaker c.post_all.result (λ led. did_events _ c.args.step.now c.as_slice.result.now
    (ap step_deeds c.in-Events.is ∙ ap all_posted (sym c.as_slice.ensures.value)) tt led) c.post_all.ensures.led

pub returns-in_ok-bring-in-Import : goal.returns-in_ok-bring-in-Import
returns-in_ok-bring-in-Import c = did_import _ c.args.step.now c.as_slice-in-Import.result.now
    (ap step_deeds c.in-Import.is ∙ ap (λ d. brought d ∷ []) (sym c.as_slice-in-Import.ensures.value)) tt
    c.in_ok-bring-in-Import.ensures.ok
