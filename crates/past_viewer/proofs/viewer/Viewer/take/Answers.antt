use Rattle.std.proofs.Common.{◌∙◌, inl, refl}
use Rattle.std.proofs.lemmas.Result.{err_from_is_err_and}
use Rattle.past_pages.proofs.StillReads.{still_both}
use Rattle.past_viewer.specs.declared.viewer.Doing.TheVariants.{Leaves, Stays}
use Rattle.past_viewer.proofs.Copying.{keeps_both}
use Rattle.past_viewer.proofs.Ending.{in_use, of_store, output_calm, rises_behind}
use Rattle.past_looks.proofs.Carrying.{looker_same}
use Rattle.past_viewer.proofs.Showing.{does_behind, does_same, leaves_looks, looks_behind, looks_read, looks_same, only_read_first}
use Rattle.past_viewer.proofs.viewer.Viewer.take.Goals as goal

pub loop-heard-init : goal.loop-heard-init
loop-heard-init g c = record {
  looks = looks_same g.D.Disk c.requires (record { moments = refl; shown = refl; look = refl; untouched = refl });
  usable = c.requires;
  copied = λ is. inl refl;
  calm = refl;
}

pub loop-heard-preserved : goal.loop-heard-preserved
loop-heard-preserved g c =
    let so_far = c.loop-heard.invariant in record {
      looks = looks_behind g.D.Disk so_far.usable (c.shows_what_crashes_leave.ensures.quiet so_far.usable) so_far.looks
          (does_same g.D.Disk Stays _ _ _ _ _ _ _ (record { moments = refl; shown = refl; look = refl; untouched = refl })
          (rw c.in-Stays.is at c.in_ok-press_each.ensures.does));
      usable = c.in_ok-press_each.ensures.usable;
      copied = λ is. keeps_both g.D.Disk so_far.looks.read (so_far.copied is)
          (c.in_ok-press_each.ensures.copied (looker_same g.D.Disk (record { moments = refl; shown = refl; look = refl; untouched = refl })
          (so_far.looks.knows is)));
      calm = c.in_ok-press_each.ensures.output ∙ so_far.calm;
    }

-- ---- a press fails

pub returns-in_err-press_each-clause-any_moment : goal.returns-in_err-press_each-clause-any_moment
returns-in_err-press_each-clause-any_moment g c =
    let so_far = c.loop-heard.invariant in
    leaves_looks g.D.Disk so_far.usable (c.shows_what_crashes_leave.ensures.quiet so_far.usable) so_far.looks
    (λ is. c.press_each.ensures.any_moment (looker_same g.D.Disk (record { moments = refl; shown = refl; look = refl; untouched = refl }) is))

pub returns-in_err-press_each-clause-usable : goal.returns-in_err-press_each-clause-usable
returns-in_err-press_each-clause-usable g c =
    let p = err_from_is_err_and c.from_residual.result c.from_residual.ensures.1 in
    rw (p.1, p.2) c.in_err-press_each.ensures.usable

pub returns-in_err-press_each-clause-output : goal.returns-in_err-press_each-clause-output
returns-in_err-press_each-clause-output g c =
    let p = err_from_is_err_and c.from_residual.result c.from_residual.ensures.1 in
    rw (p.1, p.2) (rises_behind _ _ _ _ c.loop-heard.invariant.calm c.in_err-press_each.ensures.output)

pub returns-in_err-press_each-clause-cause : goal.returns-in_err-press_each-clause-cause
returns-in_err-press_each-clause-cause g c =
    let p = err_from_is_err_and c.from_residual.result c.from_residual.ensures.1 in
    rw (p.1, p.2) c.in_err-press_each.ensures.cause

-- ---- the person leaves

pub returns-in-Leaves-clause-does : goal.returns-in-Leaves-clause-does
returns-in-Leaves-clause-does g c =
    let so_far = c.loop-heard.invariant in
    does_behind g.D.Disk Leaves _ _ _ _ _ c.press_each.new.self.looker _ _ _ so_far.usable (c.shows_what_crashes_leave.ensures.quiet so_far.usable) so_far.looks
    (does_same g.D.Disk Leaves _ _ _ _ c.press_each.new.self.looker _ _ (record { moments = refl; shown = refl; look = refl; untouched = refl })
    (rw c.in-Leaves.is at c.in_ok-press_each.ensures.does))

pub returns-in-Leaves-clause-any_moment : goal.returns-in-Leaves-clause-any_moment
returns-in-Leaves-clause-any_moment g c =
    let so_far = c.loop-heard.invariant in
    leaves_looks g.D.Disk so_far.usable (c.shows_what_crashes_leave.ensures.quiet so_far.usable) so_far.looks
    (λ is. c.press_each.ensures.any_moment (looker_same g.D.Disk (record { moments = refl; shown = refl; look = refl; untouched = refl }) is))

pub returns-in-Leaves-clause-output : goal.returns-in-Leaves-clause-output
returns-in-Leaves-clause-output g c = c.in_ok-press_each.ensures.output ∙ c.loop-heard.invariant.calm

-- ---- the person looks on

pub returns-in_err-comes-clause-any_moment : goal.returns-in_err-comes-clause-any_moment
returns-in_err-comes-clause-any_moment g c = λ is.
    only_read_first g.D.Disk (still_both g.D.Disk c.loop-heard.invariant.looks.read c.go_on.ensures.still)

pub returns-in_err-comes-clause-usable : goal.returns-in_err-comes-clause-usable
returns-in_err-comes-clause-usable g c = in_use c.from_residual-in_err-comes.result _ c.go_on.ensures.still.usable

pub returns-in_err-comes-clause-output : goal.returns-in_err-comes-clause-output
returns-in_err-comes-clause-output g c =
    let p = err_from_is_err_and c.from_residual-in_err-comes.result c.from_residual-in_err-comes.ensures.1 in
    rw (p.1, p.2) (output_calm _ _ _ (of_store c.in_err-comes.field-0.0).1 c.loop-heard.invariant.calm)

pub returns-in_err-comes-clause-cause : goal.returns-in_err-comes-clause-cause
returns-in_err-comes-clause-cause g c =
    let p = err_from_is_err_and c.from_residual-in_err-comes.result c.from_residual-in_err-comes.ensures.1 in
    rw (p.1, p.2) (of_store c.in_err-comes.field-0.0).0

pub returns-clause-does : goal.returns-clause-does
returns-clause-does g c =
    let so_far = c.loop-heard.invariant in
    looks_behind g.D.Disk so_far.usable (c.shows_what_crashes_leave-2.ensures.quiet so_far.usable) so_far.looks
    (looks_read g.D.Disk c.go_on.ensures.still c.in_ok-comes.ensures.looker)

pub returns-clause-any_moment : goal.returns-clause-any_moment
returns-clause-any_moment g c = λ is.
    only_read_first g.D.Disk (still_both g.D.Disk c.loop-heard.invariant.looks.read c.go_on.ensures.still)

-- ---- what was copied

pub returns-in-Leaves-clause-copied : goal.returns-in-Leaves-clause-copied
returns-in-Leaves-clause-copied g c = λ is.
    let so_far = c.loop-heard.invariant in
    keeps_both g.D.Disk so_far.looks.read (so_far.copied is)
    (c.in_ok-press_each.ensures.copied (looker_same g.D.Disk (record { moments = refl; shown = refl; look = refl; untouched = refl })
    (so_far.looks.knows is)))
