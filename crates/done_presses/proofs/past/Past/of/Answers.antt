use Rattle.std.proofs.Common.{◌∙◌, ap, arith}
use Rattle.std.proofs.lemmas.List.{take_all}
use Rattle.done_presses.specs.Past.{no_past, past_of}
use Rattle.done_presses.proofs.Steps.{done_more}
use Rattle.done_presses.proofs.past.Past.of.Goals as goal

pub loop-event-init : goal.loop-event-init
loop-event-init c = c.none-past.ensures

pub loop-event-preserved : goal.loop-event-preserved
loop-event-preserved c = done_more c.args.events.now c.loop-event.event-index c.loop-event.invariant
    c.loop-event-test.true c.event-item.is c.add.ensures

pub returns : goal.returns
returns c = c.loop-event.invariant
    ∙ ap (λ es. past_of es no_past)
    (take_all c.loop-event.event-index c.args.events.now (omega (arith, c.loop-event-test.false)))
