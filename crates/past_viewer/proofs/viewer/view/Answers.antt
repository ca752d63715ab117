use Rattle.std.proofs.Common.{None, refl}
use Rattle.std.proofs.lemmas.Result.{IfOk-weaker, err_from_is_err_and, on_ok_weaker}
use Rattle.past_pages.proofs.StillReads.{still_both}
use Rattle.past_viewer.specs.Viewing.IsViewed.{looked}
use Rattle.past_viewer.proofs.Copying.{copied_first, none_copied}
use Rattle.past_viewer.proofs.Ending.{in_use, keyboard_other, not_of_keyboard, of_keyboard, output_calm}
use Rattle.past_viewer.proofs.Showing.{leaves_after, leaves_none, only_read_first, viewed_after}
use Rattle.past_viewer.proofs.viewer.view.Goals as goal

-- ---- nothing is heard

pub returns-in_err-_called-clause-any_moment : goal.returns-in_err-_called-clause-any_moment
returns-in_err-_called-clause-any_moment g c = leaves_none g.D.Disk c.requires

pub returns-in_err-_called-clause-usable : goal.returns-in_err-_called-clause-usable
returns-in_err-_called-clause-usable g c = in_use c.from_residual.result _ c.requires

pub returns-in_err-_called-clause-ended : goal.returns-in_err-_called-clause-ended
returns-in_err-_called-clause-ended g c =
    let p = err_from_is_err_and c.from_residual.result c.from_residual.ensures.1 in
    let ended = g.K.Keyboard.ended c.hear.new.self in
    rw (p.1, p.2) (of_keyboard ended c.in_err-_called.field-0.0 c.in_err-_called.ensures.cause)

pub returns-in_err-_called-clause-output : goal.returns-in_err-_called-clause-output
returns-in_err-_called-clause-output g c =
    let p = err_from_is_err_and c.from_residual.result c.from_residual.ensures.1 in
    rw (p.1, p.2) (output_calm _ _ _ (keyboard_other c.in_err-_called.field-0.0) refl)

-- ---- the store can't be read

pub returns-in_err-of-clause-any_moment : goal.returns-in_err-of-clause-any_moment
returns-in_err-of-clause-any_moment g c = only_read_first g.D.Disk c.of.ensures.still

pub returns-in_err-of-clause-usable : goal.returns-in_err-of-clause-usable
returns-in_err-of-clause-usable g c = in_use c.from_residual-in_err-of.result _ c.of.ensures.still.usable

pub returns-in_err-of-clause-ended : goal.returns-in_err-of-clause-ended
returns-in_err-of-clause-ended g c =
    let p = err_from_is_err_and c.from_residual-in_err-of.result c.from_residual-in_err-of.ensures.1 in
    let ended = g.K.Keyboard.ended c.hear.new.self in
    rw (p.1, p.2) (not_of_keyboard ended c.in_err-of.field-0.0 c.in_err-of.ensures.cause.0)

pub returns-in_err-of-clause-output : goal.returns-in_err-of-clause-output
returns-in_err-of-clause-output g c =
    let p = err_from_is_err_and c.from_residual-in_err-of.result c.from_residual-in_err-of.ensures.1 in
    rw (p.1, p.2) (output_calm _ _ _ c.in_err-of.ensures.cause.1 refl)

-- ---- there is no past

pub returns-in-None-clause-viewed : goal.returns-in-None-clause-viewed
returns-in-None-clause-viewed g c = on_ok_weaker c.serve_absent.result (λ scenes.
    looked (still_both g.D.Disk c.of.ensures.still c.serve_absent.ensures.still) None scenes) c.serve_absent.ensures.scenes

pub returns-in-None-clause-any_moment : goal.returns-in-None-clause-any_moment
returns-in-None-clause-any_moment g c =
    only_read_first g.D.Disk (still_both g.D.Disk c.of.ensures.still c.serve_absent.ensures.still)

pub returns-in-None-clause-usable : goal.returns-in-None-clause-usable
returns-in-None-clause-usable g c = in_use c.serve_absent.result _ c.serve_absent.ensures.still.usable

-- ---- it is shown

pub returns-in-Some-clause-viewed : goal.returns-in-Some-clause-viewed
returns-in-Some-clause-viewed g c =
    let is = (rw c.in-Some.is at c.in_ok-of.ensures.is) in
    on_ok_weaker c.serve.result (λ viewed. viewed_after g.D.Disk c.of.ensures.still (viewed is)) c.serve.ensures.viewed

pub returns-in-Some-clause-any_moment : goal.returns-in-Some-clause-any_moment
returns-in-Some-clause-any_moment g c =
    let is = (rw c.in-Some.is at c.in_ok-of.ensures.is) in
    leaves_after g.D.Disk c.of.ensures.still (c.serve.ensures.any_moment is)

-- ---- what was copied

pub returns-in-None-clause-copied : goal.returns-in-None-clause-copied
returns-in-None-clause-copied g c = IfOk-weaker c.serve_absent.result _ _ (λ viewed none. none_copied g.D.Disk _ none)
    c.serve_absent.ensures.none

pub returns-in-Some-clause-copied : goal.returns-in-Some-clause-copied
returns-in-Some-clause-copied g c = IfOk-weaker c.serve.result _ _ (λ viewed keeps.
    copied_first g.D.Disk c.of.ensures.still (rw c.in-Some.is at c.in_ok-of.ensures.none)
    (keeps (rw c.in-Some.is at c.in_ok-of.ensures.is))) c.serve.ensures.copied
