use Rattle.std.proofs.Common.{◌∙◌, inl, refl}
use Rattle.std.proofs.lemmas.Result.{err_from_is_err_and}
use Rattle.past_viewer.specs.declared.viewer.Doing.TheVariants.{Leaves}
use Rattle.past_viewer.proofs.Copying.{keeps_both, keeps_same, keeps_then}
use Rattle.past_viewer.proofs.Ending.{in_use, keyboard_other, not_of_keyboard, of_keyboard, output_calm, rises_behind, too_long_other}
use Rattle.past_viewer.proofs.Showing.{does_behind, leaves_looks, looks_behind, looks_same, looks_shown, only_read_first}
use Rattle.past_viewer.proofs.viewer.Viewer.serve.Goals as goal

pub loop-count-init : goal.loop-count-init
loop-count-init g c = record {
  looks = looks_same g.D.Disk c.requires (record { moments = refl; shown = refl; look = refl; untouched = refl });
  usable = c.requires;
  copied = λ is. inl refl;
  calm = refl;
}

pub loop-count-preserved : goal.loop-count-preserved
loop-count-preserved g c =
    let so_far = c.loop-count.invariant in
    let quiet = c.shows_what_crashes_leave.ensures.quiet so_far.usable in record {
      looks = looks_behind g.D.Disk so_far.usable quiet
          (looks_behind g.D.Disk so_far.usable quiet so_far.looks
          (looks_shown g.D.Disk so_far.usable c.show_if_due.ensures.looker c.in_ok-show_if_due.ensures.scenes))
          (rw c.in-Stays.is at c.in_ok-take.ensures.does);
      usable = c.in_ok-take.ensures.usable;
      copied = λ is. keeps_both g.D.Disk so_far.looks.read (so_far.copied is) (keeps_same g.D.Disk _ c.show_if_due.ensures.copied
          (c.in_ok-take.ensures.copied (c.show_if_due.ensures.looker (so_far.looks.knows is))));
      calm = c.in_ok-take.ensures.output ∙ c.in_ok-show_if_due.ensures.output ∙ so_far.calm;
    }

-- ---- it isn't shown

pub returns-in_err-show_if_due-clause-any_moment : goal.returns-in_err-show_if_due-clause-any_moment
returns-in_err-show_if_due-clause-any_moment g c = λ is. only_read_first g.D.Disk c.loop-count.invariant.looks.read

pub returns-in_err-show_if_due-clause-usable : goal.returns-in_err-show_if_due-clause-usable
returns-in_err-show_if_due-clause-usable g c = in_use c.from_residual.result _ c.loop-count.invariant.usable

pub returns-in_err-show_if_due-clause-ended : goal.returns-in_err-show_if_due-clause-ended
returns-in_err-show_if_due-clause-ended g c =
    let p = err_from_is_err_and c.from_residual.result c.from_residual.ensures.1 in
    let ended = g.K.Keyboard.ended c.loop-count.keyboard in
    rw (p.1, p.2) (not_of_keyboard ended c.in_err-show_if_due.field-0.0 c.in_err-show_if_due.ensures.cause)

pub returns-in_err-show_if_due-clause-output : goal.returns-in_err-show_if_due-clause-output
returns-in_err-show_if_due-clause-output g c =
    let p = err_from_is_err_and c.from_residual.result c.from_residual.ensures.1 in
    rw (p.1, p.2) (rises_behind _ _ _ _ c.loop-count.invariant.calm c.in_err-show_if_due.ensures.output)

-- ---- nothing is heard

pub returns-in_err-hearing-clause-any_moment : goal.returns-in_err-hearing-clause-any_moment
returns-in_err-hearing-clause-any_moment g c = λ is. only_read_first g.D.Disk c.loop-count.invariant.looks.read

pub returns-in_err-hearing-clause-usable : goal.returns-in_err-hearing-clause-usable
returns-in_err-hearing-clause-usable g c =
    in_use c.from_residual-in_err-hearing.result _ c.loop-count.invariant.usable

pub returns-in_err-hearing-clause-ended : goal.returns-in_err-hearing-clause-ended
returns-in_err-hearing-clause-ended g c =
    let p = err_from_is_err_and c.from_residual-in_err-hearing.result c.from_residual-in_err-hearing.ensures.1 in
    let ended = g.K.Keyboard.ended c.hear_on.new.keyboard in
    rw (p.1, p.2) (of_keyboard ended c.in_err-hearing.field-0.0 c.in_err-hearing.ensures.cause)

pub returns-in_err-hearing-clause-output : goal.returns-in_err-hearing-clause-output
returns-in_err-hearing-clause-output g c =
    let p = err_from_is_err_and c.from_residual-in_err-hearing.result c.from_residual-in_err-hearing.ensures.1 in
    rw (p.1, p.2) (output_calm _ _ _ (keyboard_other c.in_err-hearing.field-0.0)
    (c.in_ok-show_if_due.ensures.output ∙ c.loop-count.invariant.calm))

-- ---- a press fails

pub returns-in_err-take-clause-any_moment : goal.returns-in_err-take-clause-any_moment
returns-in_err-take-clause-any_moment g c =
    let so_far = c.loop-count.invariant in
    let quiet = c.shows_what_crashes_leave.ensures.quiet so_far.usable in
    leaves_looks g.D.Disk so_far.usable quiet (looks_behind g.D.Disk so_far.usable quiet so_far.looks
    (looks_shown g.D.Disk so_far.usable c.show_if_due.ensures.looker c.in_ok-show_if_due.ensures.scenes)) c.take.ensures.any_moment

pub returns-in_err-take-clause-usable : goal.returns-in_err-take-clause-usable
returns-in_err-take-clause-usable g c =
    let p = err_from_is_err_and c.from_residual-in_err-take.result c.from_residual-in_err-take.ensures.1 in
    rw (p.1, p.2) c.in_err-take.ensures.usable

pub returns-in_err-take-clause-ended : goal.returns-in_err-take-clause-ended
returns-in_err-take-clause-ended g c =
    let p = err_from_is_err_and c.from_residual-in_err-take.result c.from_residual-in_err-take.ensures.1 in
    let ended = g.K.Keyboard.ended c.hear_on.new.keyboard in
    rw (p.1, p.2) (not_of_keyboard ended c.in_err-take.field-0.0 c.in_err-take.ensures.cause)

pub returns-in_err-take-clause-output : goal.returns-in_err-take-clause-output
returns-in_err-take-clause-output g c =
    let p = err_from_is_err_and c.from_residual-in_err-take.result c.from_residual-in_err-take.ensures.1 in
    rw (p.1, p.2) (rises_behind _ _ _ _ (c.in_ok-show_if_due.ensures.output ∙ c.loop-count.invariant.calm)
    c.in_err-take.ensures.output)

-- ---- the person leaves

pub returns-in-Leaves-clause-viewed : goal.returns-in-Leaves-clause-viewed
returns-in-Leaves-clause-viewed g c =
    let so_far = c.loop-count.invariant in
    let quiet = c.shows_what_crashes_leave.ensures.quiet so_far.usable in
    does_behind g.D.Disk Leaves _ _ _ _ _ c.take.new.self.looker _ _ _ so_far.usable quiet
    (looks_behind g.D.Disk so_far.usable quiet so_far.looks
    (looks_shown g.D.Disk so_far.usable c.show_if_due.ensures.looker c.in_ok-show_if_due.ensures.scenes))
    (rw c.in-Leaves.is at c.in_ok-take.ensures.does)

pub returns-in-Leaves-clause-any_moment : goal.returns-in-Leaves-clause-any_moment
returns-in-Leaves-clause-any_moment g c =
    let so_far = c.loop-count.invariant in
    let quiet = c.shows_what_crashes_leave.ensures.quiet so_far.usable in
    leaves_looks g.D.Disk so_far.usable quiet (looks_behind g.D.Disk so_far.usable quiet so_far.looks
    (looks_shown g.D.Disk so_far.usable c.show_if_due.ensures.looker c.in_ok-show_if_due.ensures.scenes)) c.take.ensures.any_moment

pub returns-in-Leaves-clause-output : goal.returns-in-Leaves-clause-output
returns-in-Leaves-clause-output g c =
    c.in_ok-take.ensures.output ∙ c.in_ok-show_if_due.ensures.output ∙ c.loop-count.invariant.calm

-- ---- there were too many turns

pub returns-clause-any_moment : goal.returns-clause-any_moment
returns-clause-any_moment g c = λ is. only_read_first g.D.Disk c.loop-count.invariant.looks.read

pub returns-clause-output : goal.returns-clause-output
returns-clause-output g c = output_calm _ _ _ too_long_other c.loop-count.invariant.calm

-- ---- what was copied

pub returns-in-Leaves-clause-copied : goal.returns-in-Leaves-clause-copied
returns-in-Leaves-clause-copied g c = λ is.
    let so_far = c.loop-count.invariant in
    keeps_then g.D.Disk _ (keeps_both g.D.Disk so_far.looks.read (so_far.copied is) (keeps_same g.D.Disk _ c.show_if_due.ensures.copied
    (c.in_ok-take.ensures.copied (c.show_if_due.ensures.looker (so_far.looks.knows is))))) c.leave.ensures
