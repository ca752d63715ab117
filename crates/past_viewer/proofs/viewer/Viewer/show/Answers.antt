use Rattle.std.proofs.Common.{◌∙◌, [], refl, subst, sym}
use Rattle.std.proofs.lemmas.Result.{err_from_is_err_and, on_ok_weaker}
use Rattle.past_viewer.specs.Viewing.{TellsBelow}
use Rattle.past_viewer.proofs.Ending.{of_memory_alone, output_calm}
use Rattle.past_viewer.proofs.Showing.{line_told}
use Rattle.past_viewer.proofs.viewer.Viewer.show.Goals as goal

-- ---- the line isn't made

pub returns-in_err-line-clause-output : goal.returns-in_err-line-clause-output
returns-in_err-line-clause-output g c =
    let p = err_from_is_err_and c.from_residual.result c.from_residual.ensures.1 in
    rw (p.1, p.2) (output_calm _ _ _ of_memory_alone.1 refl)

pub returns-in_err-line-clause-cause : goal.returns-in_err-line-clause-cause
returns-in_err-line-clause-cause g c =
    let p = err_from_is_err_and c.from_residual.result c.from_residual.ensures.1 in
    rw (p.1, p.2) of_memory_alone.0

-- ---- it is shown

pub returns-clause-scenes : goal.returns-clause-scenes
returns-clause-scenes g c =
    let looker = c.args.self.now.looker in
    on_ok_weaker c.show_saying.result (λ shown is. shown is
    (subst (TellsBelow g.D.Disk looker.shown c.args.store.now looker.look.shown.desktop [])
    (sym (c.as_slice.ensures.value ∙ c.in_ok-line.ensures)) (line_told g.D.Disk looker is)))
    c.show_saying.ensures.scenes
