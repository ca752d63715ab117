use Rattle.std.proofs.Common.{◌∙◌, inl, inr, rules, sym}
use Rattle.std.proofs.lemmas.Result.{IfErr-weaker, IfOk-weaker}
use Rattle.past_pages.proofs.StillReads.{still_both, still_none, usable_of}
use Rattle.desk_past.proofs.Begun.{same_both}
use Rattle.desk_past.proofs.FarTurns.{far_behind, far_kept, none_far_can}
use Rattle.desk_past.proofs.ImportWays.{not_last, told_epoch}
use Rattle.desk_past.proofs.InMemory.{left_none}
use Rattle.desk_past.proofs.Sparing.{only_as_large, only_behind_read, only_none, only_read, uses_only}
use Rattle.desk_past.proofs.TurnWays.{err_then}
use Rattle.desk_past.proofs.TurnedBack.{fails_behind, left_twice}
use Rattle.desk_past.proofs.turning.turn_far.Goals as goal

pub turn_with-requires : goal.turn_with-requires
turn_with-requires g c =
    let usable = usable_of c.args.store.now.must_reopen c.info.ensures.reopen c.in_ok-info.was in
    let later = not_last c.in_ok-info.was (c.info.ensures.value usable) c.if-info.false in (
      rw c.in-Some.is at c.in_ok-to.ensures.page,
      (c.in_ok-to.ensures.still.usable, λ last. later (sym c.in_ok-to.ensures.still.left.epoch ∙ last)),
    )

-- ---- in the last epoch

pub returns-in_err-info-clause-any_moment : goal.returns-in_err-info-clause-any_moment
returns-in_err-info-clause-any_moment g c = inl (left_none g.D.Disk c.args.store.now)

pub returns-then-info-clause-any_moment : goal.returns-then-info-clause-any_moment
returns-then-info-clause-any_moment g c = inl (left_none g.D.Disk c.args.store.now)

pub returns-then-info-clause-not_done : goal.returns-then-info-clause-not_done
returns-then-info-clause-not_done g c = λ _.
    let usable = usable_of c.args.store.now.must_reopen c.info.ensures.reopen c.in_ok-info.was in
    record {
      still = still_none g.D.Disk c.args.store.now usable;
      none = λ can. can.0.1 (sym (told_epoch c.in_ok-info.was (c.info.ensures.value usable)) ∙ c.if-info.true);
    }

pub returns-in_err-info-clause-device : goal.returns-in_err-info-clause-device
returns-in_err-info-clause-device g c =
    uses_only g.D.Disk (search rules) (only_none g.D.Disk c.shows_what_crashes_leave.ensures.quiet)

pub returns-then-info-clause-device : goal.returns-then-info-clause-device
returns-then-info-clause-device g c =
    uses_only g.D.Disk (search rules) (only_none g.D.Disk c.shows_what_crashes_leave.ensures.quiet)

-- ---- no desktop was found

pub returns-in_err-to-clause-any_moment : goal.returns-in_err-to-clause-any_moment
returns-in_err-to-clause-any_moment g c = inl c.far_desktop.ensures.left

pub returns-in_err-to-clause-left : goal.returns-in_err-to-clause-left
returns-in_err-to-clause-left g c = err_then c.from_residual-in_err-to.result (λ _. c.far_desktop.ensures.left)

pub returns-in_err-to-clause-device : goal.returns-in_err-to-clause-device
returns-in_err-to-clause-device g c = uses_only g.D.Disk (search rules)
    (only_read g.D.Disk c.far_desktop.ensures.left.disk c.shows_what_crashes_leave.ensures.quiet)

pub returns-in_default-clause-any_moment : goal.returns-in_default-clause-any_moment
returns-in_default-clause-any_moment g c = inl c.far_desktop.ensures.left

pub returns-in_default-clause-not_done : goal.returns-in_default-clause-not_done
returns-in_default-clause-not_done g c = λ _. record {
  still = c.in_ok-to.ensures.still;
  none = λ can. (rw c.in_default.is at c.in_ok-to.ensures.none) can.1;
}

pub returns-in_default-clause-device : goal.returns-in_default-clause-device
returns-in_default-clause-device g c = uses_only g.D.Disk (search rules)
    (only_read g.D.Disk c.far_desktop.ensures.left.disk c.shows_what_crashes_leave.ensures.quiet)

-- ---- the desktop is exchanged

pub returns-clause-any_moment : goal.returns-clause-any_moment
returns-clause-any_moment g c = inr (far_behind g.D.Disk c.in_ok-to.ensures.still
    c.shows_what_crashes_leave.ensures.quiet c.args.k c.in-Some.to.desktop c.turn_with.new.store
    c.shows_what_crashes_leave.ensures.durable (rw c.in-Some.is at c.in_ok-to.ensures.was)
    c.turn_with.ensures.any_store c.turn_with.ensures.any_moment)

pub returns-clause-done : goal.returns-clause-done
returns-clause-done g c = IfOk-weaker c.turn_with.result _ _ (λ done has is.
    far_kept g.D.Disk c.in_ok-to.ensures.still c.shows_what_crashes_leave.ensures.quiet c.args.k c.in-Some.to
    c.turn_with.new.store (rw c.in-Some.is at c.in_ok-to.ensures.was) (has is).0 (has is).1)
    c.turn_with.ensures.done

pub returns-clause-not_done : goal.returns-clause-not_done
returns-clause-not_done g c = IfOk-weaker c.turn_with.result _ _ (λ done stays is. record {
  still = still_both g.D.Disk c.in_ok-to.ensures.still (stays is).still;
  none = λ can. none_far_can g.D.Disk c.in_ok-to.ensures.still c.shows_what_crashes_leave.ensures.quiet c.args.k
      c.in-Some.to.desktop (rw c.in-Some.is at c.in_ok-to.ensures.was) (stays is).none can.1;
}) c.turn_with.ensures.not_done

pub returns-clause-left : goal.returns-clause-left
returns-clause-left g c = IfErr-weaker c.turn_with.result _ _ (λ e left usable.
    left_twice g.D.Disk c.far_desktop.ensures.left (left usable)) c.turn_with.ensures.left

pub returns-clause-device : goal.returns-clause-device
returns-clause-device g c = record {
  same = same_both g.D.Disk c.far_desktop.ensures.left.disk.device c.turn_with.ensures.device.same;
  faults = fails_behind c.far_desktop.result _ c.turn_with.result c.in_ok-to.was c.far_desktop.ensures.faults
      c.turn_with.ensures.device.faults;
  others = only_behind_read g.D.Disk c.turn_with.new.store c.far_desktop.ensures.left.disk
      c.shows_what_crashes_leave.ensures.quiet (λ _. c.in_ok-to.ensures.still.usable)
      (only_as_large g.D.Disk c.args.store.now c.far_desktop.ensures.left.disk.device
      c.turn_with.ensures.device.others);
}
