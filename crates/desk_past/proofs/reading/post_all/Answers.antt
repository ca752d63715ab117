use Rattle.std.proofs.Common.{arith, subst}
use Rattle.std.proofs.lemmas.List.{take_all}
use Rattle.desk_journal.specs.Undoing.{IsLedOn}
use Rattle.desk_journal.proofs.Behind.{none_led, next_led}
use Rattle.desk_past.proofs.reading.post_all.Goals as goal

pub loop-event-init : goal.loop-event-init
loop-event-init g c = record { usable = λ u. u; led = none_led g.E.Disk c.args.shown.now }

pub loop-event-preserved : goal.loop-event-preserved
loop-event-preserved g c = record {
  usable = λ u. c.in_ok-posted.ensures.ok.usable;
  led = next_led g.E.Disk c.args.events.now c.loop-event.event-index c.loop-event.invariant.led
      c.posted.ensures.device c.loop-event-test.true c.event-item.is c.in_ok-posted.ensures.ok;
}

pub returns-clause-led : goal.returns-clause-led
returns-clause-led g c = subst (λ l. IsLedOn g.E.Disk l c.args.shown.now c.loop-event.shown)
    (take_all c.loop-event.event-index c.args.events.now (omega (arith, c.loop-event-test.false)))
    c.loop-event.invariant.led
