use Rattle.std.proofs.Common.{Some, refl}
use Rattle.std.proofs.lemmas.Result.{err_from_is_err_and, on_ok_weaker}
use Rattle.past_viewer.proofs.Copying.{copy_keeps}
use Rattle.past_viewer.proofs.Ending.{output_calm}
use Rattle.past_viewer.proofs.Showing.{looks_read}
use Rattle.past_viewer.proofs.viewer.Viewer.copy.Goals as goal

-- ---- the moment doesn't come into memory

pub returns-in_err-come-clause-output : goal.returns-in_err-come-clause-output
returns-in_err-come-clause-output g c =
    let p = err_from_is_err_and c.from_residual.result c.from_residual.ensures.1 in
    rw (p.1, p.2) (output_calm _ _ _ c.in_err-come.ensures.cause.1 refl)

pub returns-in_err-come-clause-cause : goal.returns-in_err-come-clause-cause
returns-in_err-come-clause-cause g c =
    let p = err_from_is_err_and c.from_residual.result c.from_residual.ensures.1 in
    rw (p.1, p.2) c.in_err-come.ensures.cause.0

-- ---- it can't

pub returns-then-not-branch-clause-looks : goal.returns-then-not-branch-clause-looks
returns-then-not-branch-clause-looks g c = looks_read g.D.Disk c.come.ensures.still c.in_ok-come.ensures.looker

-- ---- it is shown

pub returns-clause-looks : goal.returns-clause-looks
returns-clause-looks g c = on_ok_weaker c.show_copy.result (λ shown. record {
  read = c.come.ensures.still;
  knows = λ is. c.show_copy.ensures.looker (c.in_ok-come.ensures.looker is);
  scenes = λ is. (Some c.show_copy.new.self.looker.shown, shown (c.in_ok-come.ensures.looker is));
}) c.show_copy.ensures.scenes

pub returns-clause-copied : goal.returns-clause-copied
returns-clause-copied g c = on_ok_weaker c.show_copy.result (λ copied is.
    copy_keeps g.D.Disk c.come.new.self.looker _ _ _ c.come.ensures.still (c.in_ok-come.ensures.looker is)
    c.come.ensures.copied copied) c.show_copy.ensures.copied
