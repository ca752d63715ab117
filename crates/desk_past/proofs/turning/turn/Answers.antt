use Rattle.std.proofs.Common.{rules}
use Rattle.std.proofs.lemmas.Result.{IfOk-weaker, IfErr-weaker}
use Rattle.past_pages.proofs.StillReads.{still_both}
use Rattle.past_pages.specs.Page.{turn_of}
use Rattle.desk_past.proofs.Begun.{same_both}
use Rattle.desk_past.proofs.Sparing.{only_as_large, only_behind_read, only_read, uses_only}
use Rattle.desk_past.proofs.TurnWays.{err_then, none_left, none_shown, shown_behind}
use Rattle.desk_past.proofs.TurnedBack.{fails_behind, in_use_then, left_twice, lies_there, none_back, none_can, turned_back}
use Rattle.desk_past.proofs.TurnedBack.{turns_back}
use Rattle.desk_past.proofs.turning.turn.Goals as goal

pub returns-in_err-to-clause-any_moment : goal.returns-in_err-to-clause-any_moment
returns-in_err-to-clause-any_moment g c =
    none_back g.D.Disk c.desktop_at.new.store c.shows_what_crashes_leave.ensures.quiet c.desktop_at.ensures.left.disk
    c.args.k

pub returns-in_err-to-clause-any_store : goal.returns-in_err-to-clause-any_store
returns-in_err-to-clause-any_store g c = (
  c.args.store.now.desktop,
  none_left g.D.Disk c.args.store.now c.desktop_at.new.store c.shows_what_crashes_leave.ensures.durable
      c.shows_what_crashes_leave.ensures.quiet c.desktop_at.ensures.left.disk c.args.store.now.desktop,
)

pub returns-in_err-to-clause-left : goal.returns-in_err-to-clause-left
returns-in_err-to-clause-left g c = err_then c.from_residual.result (λ _. c.desktop_at.ensures.left)

pub returns-in_default-clause-any_moment : goal.returns-in_default-clause-any_moment
returns-in_default-clause-any_moment g c =
    none_back g.D.Disk c.desktop_at.new.store c.shows_what_crashes_leave.ensures.quiet c.desktop_at.ensures.left.disk
    c.args.k

pub returns-in_default-clause-any_store : goal.returns-in_default-clause-any_store
returns-in_default-clause-any_store g c = (
  c.args.store.now.desktop,
  none_shown g.D.Disk c.in_ok-to.ensures.still c.shows_what_crashes_leave.ensures.durable
      c.shows_what_crashes_leave.ensures.quiet c.args.store.now.desktop,
)

pub returns-in_default-clause-not_done : goal.returns-in_default-clause-not_done
returns-in_default-clause-not_done g c = λ _. record {
  still = c.in_ok-to.ensures.still;
  none = λ p. (rw c.in_default.is at c.in_ok-to.ensures.none) p.1.past
      (lies_there g.D.Disk (turn_of c.args.k p.0) p.1.add) p.1.was.there;
}

pub returns-clause-any_store : goal.returns-clause-any_store
returns-clause-any_store g c = (
  c.in-Some.to.desktop,
  shown_behind g.D.Disk c.in_ok-to.ensures.still c.shows_what_crashes_leave.ensures.durable
      c.shows_what_crashes_leave.ensures.quiet c.in-Some.to.desktop c.turn_to.new.store c.turn_to.ensures.any_store,
)

pub returns-clause-any_moment : goal.returns-clause-any_moment
returns-clause-any_moment g c =
    turns_back g.D.Disk c.in_ok-to.ensures.still c.shows_what_crashes_leave.ensures.quiet c.args.k
    c.in-Some.to.desktop c.turn_to.new.store (rw c.in-Some.is at c.in_ok-to.ensures.was)
    c.turn_to.ensures.any_moment

pub returns-clause-done : goal.returns-clause-done
returns-clause-done g c = IfOk-weaker c.turn_to.result _ _ (λ done has is.
    turned_back g.D.Disk c.in_ok-to.ensures.still c.shows_what_crashes_leave.ensures.quiet c.args.k
    c.in-Some.to.desktop c.turn_to.new.store (rw c.in-Some.is at c.in_ok-to.ensures.was) (has is).past)
    c.turn_to.ensures.done

pub returns-clause-not_done : goal.returns-clause-not_done
returns-clause-not_done g c = IfOk-weaker c.turn_to.result _ _ (λ done stays is. record {
  still = still_both g.D.Disk c.in_ok-to.ensures.still (stays is).still;
  none = λ p. none_can g.D.Disk c.in_ok-to.ensures.still c.shows_what_crashes_leave.ensures.quiet c.args.k
      c.in-Some.to.desktop c.turn_to.new.store (rw c.in-Some.is at c.in_ok-to.ensures.was) (stays is).none p.0 p.1;
}) c.turn_to.ensures.not_done

pub returns-clause-usable : goal.returns-clause-usable
returns-clause-usable g c = in_use_then g.D.Disk c.args.k c.in-Some.to c.desktop_at.new.store c.turn_to.new.store
    c.turn_to.result c.turn_to.ensures.done c.turn_to.ensures.not_done

pub returns-clause-left : goal.returns-clause-left
returns-clause-left g c = IfErr-weaker c.turn_to.result _ _ (λ e left usable.
    left_twice g.D.Disk c.desktop_at.ensures.left (left usable)) c.turn_to.ensures.left

pub returns-clause-device : goal.returns-clause-device
returns-clause-device g c = record {
  same = same_both g.D.Disk c.desktop_at.ensures.left.disk.device c.turn_to.ensures.device.same;
  faults = fails_behind c.desktop_at.result _ c.turn_to.result c.in_ok-to.was c.desktop_at.ensures.faults
      c.turn_to.ensures.device.faults;
  others = only_behind_read g.D.Disk c.turn_to.new.store c.desktop_at.ensures.left.disk
      c.shows_what_crashes_leave.ensures.quiet (λ _. c.in_ok-to.ensures.still.usable)
      (only_as_large g.D.Disk c.args.store.now c.desktop_at.ensures.left.disk.device c.turn_to.ensures.device.others);
}

pub returns-in_err-to-clause-device : goal.returns-in_err-to-clause-device
returns-in_err-to-clause-device g c = uses_only g.D.Disk (search rules)
    (only_read g.D.Disk c.desktop_at.ensures.left.disk c.shows_what_crashes_leave.ensures.quiet)

pub returns-in_default-clause-device : goal.returns-in_default-clause-device
returns-in_default-clause-device g c = uses_only g.D.Disk (search rules)
    (only_read g.D.Disk c.desktop_at.ensures.left.disk c.shows_what_crashes_leave.ensures.quiet)
