use Rattle.std.proofs.Common.{arith, subst}
use Rattle.std.proofs.lemmas.List.{take_all}
use Rattle.desk_past.specs.Deeds.{all_posted}
use Rattle.told_pasts.specs.Telling.{IsToldOn}
use Rattle.told_pasts.proofs.Lines.{next_told, none_told}
use Rattle.told_pasts.proofs.telling.add_lines.Goals as goal

pub loop-event-init : goal.loop-event-init
loop-event-init g c = record { told = none_told g.E.Disk c.args.lines.now.items c.args.shown.now }

pub loop-event-preserved : goal.loop-event-preserved
loop-event-preserved g c = record {
  told = next_told g.E.Disk c.args.events.now c.loop-event.event-index c.loop-event.invariant.told
      c.line_of.ensures.left c.in_ok-line.ensures.is c.in_ok-push_line.ensures c.post.ensures.behaves.device
      c.loop-event-test.true c.event-item.is c.in_ok-_reply.ensures.ok;
}

pub returns-clause-told : goal.returns-clause-told
returns-clause-told g c =
    subst (λ l. IsToldOn g.E.Disk (all_posted l) c.args.lines.now.items c.loop-event.lines.items c.args.shown.now
    c.loop-event.shown)
    (take_all c.loop-event.event-index c.args.events.now (omega (arith, c.loop-event-test.false)))
    c.loop-event.invariant.told
