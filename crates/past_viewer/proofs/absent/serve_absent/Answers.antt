use Rattle.std.proofs.Common.{◌∙◌, refl}
use Rattle.std.proofs.lemmas.Result.{err_from_is_err_and}
use Rattle.past_pages.proofs.StillReads.{still_both, still_none}
use Rattle.past_viewer.specs.Viewing.TakesScenes.{none}
use Rattle.past_viewer.proofs.Ending.{keyboard_other, not_of_keyboard, of_keyboard, output_calm, rises_behind, too_long_other}
use Rattle.past_viewer.proofs.Showing.{scenes_none, scenes_on}
use Rattle.past_viewer.proofs.absent.serve_absent.Goals as goal

pub loop-count-init : goal.loop-count-init
loop-count-init g c = record { read = still_none g.D.Disk _ c.requires; scenes = none; calm = refl }

pub loop-count-preserved : goal.loop-count-preserved
loop-count-preserved g c =
    let so_far = c.loop-count.invariant in record {
      read = still_both g.D.Disk so_far.read c.show.ensures.still;
      scenes = scenes_none g.D.Disk (scenes_on g.D.Disk c.show.ensures.still so_far.read.usable
          (c.shows_what_crashes_leave.ensures.quiet so_far.read.usable) so_far.scenes) c.in_ok-show.ensures.scenes;
      calm = c.in_ok-show.ensures.output ∙ so_far.calm;
    }

-- ---- it isn't shown

pub returns-in_err-show-clause-still : goal.returns-in_err-show-clause-still
returns-in_err-show-clause-still g c = still_both g.D.Disk c.loop-count.invariant.read c.show.ensures.still

pub returns-in_err-show-clause-ended : goal.returns-in_err-show-clause-ended
returns-in_err-show-clause-ended g c =
    let p = err_from_is_err_and c.from_residual.result c.from_residual.ensures.1 in
    let ended = g.K.Keyboard.ended c.loop-count.keyboard in
    rw (p.1, p.2) (not_of_keyboard ended c.in_err-show.field-0.0 c.in_err-show.ensures.cause)

pub returns-in_err-show-clause-output : goal.returns-in_err-show-clause-output
returns-in_err-show-clause-output g c =
    let p = err_from_is_err_and c.from_residual.result c.from_residual.ensures.1 in
    rw (p.1, p.2) (rises_behind _ _ _ _ c.loop-count.invariant.calm c.in_err-show.ensures.output)

-- ---- nothing is heard

pub returns-in_err-hearing-clause-still : goal.returns-in_err-hearing-clause-still
returns-in_err-hearing-clause-still g c = still_both g.D.Disk c.loop-count.invariant.read c.show.ensures.still

pub returns-in_err-hearing-clause-ended : goal.returns-in_err-hearing-clause-ended
returns-in_err-hearing-clause-ended g c =
    let p = err_from_is_err_and c.from_residual-in_err-hearing.result c.from_residual-in_err-hearing.ensures.1 in
    let ended = g.K.Keyboard.ended c.hear_on.new.keyboard in
    rw (p.1, p.2) (of_keyboard ended c.in_err-hearing.field-0.0 c.in_err-hearing.ensures.cause)

pub returns-in_err-hearing-clause-output : goal.returns-in_err-hearing-clause-output
returns-in_err-hearing-clause-output g c =
    let p = err_from_is_err_and c.from_residual-in_err-hearing.result c.from_residual-in_err-hearing.ensures.1 in
    rw (p.1, p.2) (output_calm _ _ _ (keyboard_other c.in_err-hearing.field-0.0)
    (c.in_ok-show.ensures.output ∙ c.loop-count.invariant.calm))

-- ---- the person leaves

pub returns-in-Leaves-clause-still : goal.returns-in-Leaves-clause-still
returns-in-Leaves-clause-still g c = still_both g.D.Disk c.loop-count.invariant.read c.show.ensures.still

pub returns-in-Leaves-clause-scenes : goal.returns-in-Leaves-clause-scenes
returns-in-Leaves-clause-scenes g c =
    let so_far = c.loop-count.invariant in
    scenes_none g.D.Disk (scenes_on g.D.Disk c.show.ensures.still so_far.read.usable
    (c.shows_what_crashes_leave.ensures.quiet so_far.read.usable) so_far.scenes) c.in_ok-show.ensures.scenes

pub returns-in-Leaves-clause-output : goal.returns-in-Leaves-clause-output
returns-in-Leaves-clause-output g c = c.in_ok-show.ensures.output ∙ c.loop-count.invariant.calm

-- ---- there were too many turns

pub returns-clause-output : goal.returns-clause-output
returns-clause-output g c = output_calm _ _ _ too_long_other c.loop-count.invariant.calm
