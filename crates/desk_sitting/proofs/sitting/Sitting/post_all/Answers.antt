use Rattle.std.proofs.Common.{refl, true, false, Ok}
use Rattle.std.proofs.lemmas.Result.{err_from_is_err_and}
use Rattle.desk_sitting.proofs.Pressed.{all_next, next_posted, next_unposted, none_posted, not_all, press_told}
use Rattle.desk_sitting.proofs.Pressed.{stopped_at}
use Rattle.desk_sitting.proofs.sitting.Sitting.post_all.Goals as goal

pub loop-event-init : goal.loop-event-init
loop-event-init g c = record {
  takes = press_told g.D.Disk true (none_posted g.D.Disk c.args.self.now c.args.store.now c.requires);
  all = λ honest durable. refl;
}

pub loop-event-preserved : goal.loop-event-preserved
loop-event-preserved g c =
    let i = c.loop-event.invariant in
    record {
      takes = press_told g.D.Disk true (next_posted g.D.Disk c.args.events.now c.loop-event.event-index _ c.event-item.result
          c.loop-event-test.true c.event-item.is c.args.self.now _ _ c.args.store.now _ _ i.takes i.all (Ok _)
          c.in_ok-done.ensures.comes c.in_ok-done.ensures.past);
      all = all_next g.D.Disk c.args.events.now c.loop-event.event-index _ c.event-item.result c.loop-event-test.true
          c.event-item.is c.args.self.now _ c.post.new.self c.args.store.now _ c.post.new.store i.takes i.all
          c.in_ok-done.done c.in_ok-done.ensures.done c.if-not-done.false;
    }

pub returns-then-not-done-clause-does : goal.returns-then-not-done-clause-does
returns-then-not-done-clause-does g c =
    let i = c.loop-event.invariant in
    stopped_at g.D.Disk c.args.events.now c.loop-event.event-index _ c.event-item.result c.loop-event-test.true
    c.event-item.is c.args.self.now _ c.post.new.self c.args.store.now _ c.post.new.store i.takes i.all c.in_ok-done.done
    false c.in_ok-done.ensures.done c.if-not-done.true c.in_ok-done.ensures.comes c.in_ok-done.ensures.past

pub returns-then-not-done-clause-done : goal.returns-then-not-done-clause-done
returns-then-not-done-clause-done g c =
    let i = c.loop-event.invariant in
    not_all g.D.Disk c.args.events.now c.loop-event.event-index _ c.event-item.result c.loop-event-test.true
    c.event-item.is c.args.self.now _ c.post.new.self c.args.store.now _ c.post.new.store i.takes i.all c.in_ok-done.done
    c.in_ok-done.ensures.done c.if-not-done.true

pub returns-in_err-done-clause-does : goal.returns-in_err-done-clause-does
returns-in_err-done-clause-does g c =
    let p = err_from_is_err_and c.from_residual.result c.from_residual.ensures.1 in
    let i = c.loop-event.invariant in
    rw (p.1, p.2) (next_unposted g.D.Disk c.args.events.now c.loop-event.event-index _ c.event-item.result
    c.loop-event-test.true c.event-item.is c.args.self.now _ _ c.args.store.now _ _ i.takes i.all
    c.in_err-done.field-0.0 c.in_err-done.ensures.comes c.in_err-done.ensures.past)
