use Rattle.std.proofs.Common.{arith, subst}
use Rattle.std.proofs.lemmas.List.{take_all}
use Rattle.desk_journal.specs.Undoing.{IsBehind}
use Rattle.desk_journal.proofs.Behind.{none_behind, next_behind}
use Rattle.desk_journal.proofs.undone.post_each.Goals as goal

pub loop-event-init : goal.loop-event-init
loop-event-init g c = record {
  behind = none_behind g.D.Disk c.args.store.now c.standing_law.ensures (c.shows_what_crashes_leave.ensures.durable c.requires.usable)
      c.requires.newest;
}

pub loop-event-preserved : goal.loop-event-preserved
loop-event-preserved g c = record {
  behind = next_behind g.D.Disk c.args.events.now c.loop-event.event-index c.loop-event.invariant.behind
      c.post.ensures.behaves.device c.loop-event-test.true c.event-item.is c.requires.room c.in_ok-post.ensures.ok
      c.in_ok-post.ensures.added.done;
}

pub returns-clause-behind : goal.returns-clause-behind
returns-clause-behind g c =
    subst (λ l. IsBehind g.D.Disk l c.args.store.now c.loop-event.store)
    (take_all c.loop-event.event-index c.args.events.now (omega (arith, c.loop-event-test.false)))
    c.loop-event.invariant.behind
