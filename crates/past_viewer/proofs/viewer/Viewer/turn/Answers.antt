use Rattle.std.proofs.Common.{Some, refl}
use Rattle.std.proofs.lemmas.Result.{IfErr-weaker, IfOk-weaker, err_from_is_err_and}
use Rattle.past_viewer.specs.Viewing.IsViewed.{looked}
use Rattle.past_viewer.proofs.Ending.{in_use, output_behind, output_calm, output_unsent}
use Rattle.past_viewer.proofs.Showing.{does_turned, leaves_shown, looks_read, only_read_first}
use Rattle.past_viewer.proofs.viewer.Viewer.turn.Goals as goal

-- ---- the moment doesn't come into memory

pub returns-in_err-come-clause-any_moment : goal.returns-in_err-come-clause-any_moment
returns-in_err-come-clause-any_moment g c = λ is. only_read_first g.D.Disk c.come.ensures.still

pub returns-in_err-come-clause-usable : goal.returns-in_err-come-clause-usable
returns-in_err-come-clause-usable g c = in_use c.from_residual.result _ c.come.ensures.still.usable

pub returns-in_err-come-clause-output : goal.returns-in_err-come-clause-output
returns-in_err-come-clause-output g c =
    let p = err_from_is_err_and c.from_residual.result c.from_residual.ensures.1 in
    rw (p.1, p.2) (output_calm _ _ _ c.in_err-come.ensures.cause.1 refl)

pub returns-in_err-come-clause-cause : goal.returns-in_err-come-clause-cause
returns-in_err-come-clause-cause g c =
    let p = err_from_is_err_and c.from_residual.result c.from_residual.ensures.1 in
    rw (p.1, p.2) c.in_err-come.ensures.cause.0

-- ---- it isn't shown

pub returns-in_err-show-clause-any_moment : goal.returns-in_err-show-clause-any_moment
returns-in_err-show-clause-any_moment g c = λ is. only_read_first g.D.Disk c.come.ensures.still

pub returns-in_err-show-clause-usable : goal.returns-in_err-show-clause-usable
returns-in_err-show-clause-usable g c = in_use c.from_residual-in_err-show.result _ c.come.ensures.still.usable

pub returns-in_err-show-clause-output : goal.returns-in_err-show-clause-output
returns-in_err-show-clause-output g c =
    let p = err_from_is_err_and c.from_residual-in_err-show.result c.from_residual-in_err-show.ensures.1 in
    rw (p.1, p.2) c.in_err-show.ensures.output

pub returns-in_err-show-clause-cause : goal.returns-in_err-show-clause-cause
returns-in_err-show-clause-cause g c =
    let p = err_from_is_err_and c.from_residual-in_err-show.result c.from_residual-in_err-show.ensures.1 in
    rw (p.1, p.2) c.in_err-show.ensures.cause

-- ---- another one is shown

pub returns-then-not-branch-clause-does : goal.returns-then-not-branch-clause-does
returns-then-not-branch-clause-does g c = looks_read g.D.Disk c.come.ensures.still c.in_ok-come.ensures.looker

pub returns-then-not-branch-clause-any_moment : goal.returns-then-not-branch-clause-any_moment
returns-then-not-branch-clause-any_moment g c = λ is. only_read_first g.D.Disk c.come.ensures.still

-- ---- it is the present

pub returns-then-is_present-clause-does : goal.returns-then-is_present-clause-does
returns-then-is_present-clause-does g c = λ is. looked c.come.ensures.still (Some c.show.new.self.looker.shown)
    (c.in_ok-show.ensures.scenes (c.in_ok-come.ensures.looker is))

pub returns-then-is_present-clause-any_moment : goal.returns-then-is_present-clause-any_moment
returns-then-is_present-clause-any_moment g c = λ is. only_read_first g.D.Disk c.come.ensures.still

-- ---- the store is turned

pub returns-clause-does : goal.returns-clause-does
returns-clause-does g c = IfOk-weaker c.turn_back.result _ _ (λ doing does.
    does_turned g.D.Disk doing _ _ _ _ _ _ _ _ c.come.ensures.still.usable
    (c.shows_what_crashes_leave.ensures.quiet c.come.ensures.still.usable) c.come.ensures.still
    (λ is. c.show.ensures.looker (c.in_ok-come.ensures.looker is))
    (λ is. c.in_ok-show.ensures.scenes (c.in_ok-come.ensures.looker is)) does) c.turn_back.ensures.does

pub returns-clause-any_moment : goal.returns-clause-any_moment
returns-clause-any_moment g c = λ is. leaves_shown g.D.Disk _ c.come.ensures.still
    (c.in_ok-show.ensures.scenes (c.in_ok-come.ensures.looker is))
    (c.turn_back.ensures.any_moment (c.show.ensures.looker (c.in_ok-come.ensures.looker is)))

pub returns-clause-output : goal.returns-clause-output
returns-clause-output g c = output_behind c.turn_back.result _ _ _ c.in_ok-show.ensures.output
    (output_unsent c.turn_back.result _ c.turn_back.ensures.cause)

pub returns-clause-cause : goal.returns-clause-cause
returns-clause-cause g c = IfErr-weaker c.turn_back.result _ _ (λ end of. of.0) c.turn_back.ensures.cause
