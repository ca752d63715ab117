use Rattle.std.proofs.Common.{◌∙◌, Some, refl, subst, sym}
use Rattle.std.proofs.lemmas.Result.{err_from_is_err_and}
use Rattle.past_viewer.specs.Viewing.{TakesScenes}
use Rattle.past_viewer.proofs.Ending.{of_store, output_calm, output_rose}
use Rattle.past_viewer.proofs.Showing.{moment_shown}
use Rattle.past_looks.proofs.Carrying.{looker_alike, looker_same}
use Rattle.past_viewer.proofs.viewer.Viewer.show_saying.Goals as goal

-- ---- the screen isn't worked out

pub returns-in_err-screen-clause-looker : goal.returns-in_err-screen-clause-looker
returns-in_err-screen-clause-looker g c = λ is. looker_alike g.D.Disk c.args.self.now.looker _ c.screen.ensures.same is

pub returns-in_err-screen-clause-shown : goal.returns-in_err-screen-clause-shown
returns-in_err-screen-clause-shown g c = c.screen.ensures.same.shown

pub returns-in_err-screen-clause-output : goal.returns-in_err-screen-clause-output
returns-in_err-screen-clause-output g c =
    let p = err_from_is_err_and c.from_residual.result c.from_residual.ensures.1 in
    rw (p.1, p.2) (output_calm _ _ _ (of_store c.in_err-screen.field-0.0).1 refl)

pub returns-in_err-screen-clause-cause : goal.returns-in_err-screen-clause-cause
returns-in_err-screen-clause-cause g c =
    let p = err_from_is_err_and c.from_residual.result c.from_residual.ensures.1 in
    rw (p.1, p.2) (of_store c.in_err-screen.field-0.0).0

-- ---- the output takes no more

pub returns-in_err-show-clause-looker : goal.returns-in_err-show-clause-looker
returns-in_err-show-clause-looker g c = λ is. looker_same g.D.Disk c.take_ring.ensures.same
    (looker_alike g.D.Disk c.args.self.now.looker _ c.screen.ensures.same is)

pub returns-in_err-show-clause-shown : goal.returns-in_err-show-clause-shown
returns-in_err-show-clause-shown g c = c.take_ring.ensures.same.shown ∙ c.screen.ensures.same.shown

pub returns-in_err-show-clause-output : goal.returns-in_err-show-clause-output
returns-in_err-show-clause-output g c =
    let p = err_from_is_err_and c.from_residual-in_err-show.result c.from_residual-in_err-show.ensures.1 in
    rw (p.1, p.2) (output_rose _ _ _ refl c.in_err-show.ensures.cause)

pub returns-in_err-show-clause-cause : goal.returns-in_err-show-clause-cause
returns-in_err-show-clause-cause g c =
    let p = err_from_is_err_and c.from_residual-in_err-show.result c.from_residual-in_err-show.ensures.1 in
    rw (p.1, p.2) tt

-- ---- it is shown

pub returns-clause-looker : goal.returns-clause-looker
returns-clause-looker g c = λ is. looker_same g.D.Disk c.take_ring.ensures.same
    (looker_alike g.D.Disk c.args.self.now.looker _ c.screen.ensures.same is)

pub returns-clause-shown : goal.returns-clause-shown
returns-clause-shown g c = c.take_ring.ensures.same.shown ∙ c.screen.ensures.same.shown

pub returns-clause-scenes : goal.returns-clause-scenes
returns-clause-scenes g c = λ is says.
    subst (λ k. TakesScenes g.D.Disk c.args._store.now (Some k) (g.W.AnswerWriter.contents c.args.writer.now)
    (g.W.AnswerWriter.contents c.show.new.writer))
    (sym (c.take_ring.ensures.same.shown ∙ c.screen.ensures.same.shown))
    (moment_shown g.D.Disk c.args.self.now.looker.shown _ _ _ _ _ c.args.self.now.looker.look.shown.desktop _ _ is.look
    c.in_ok-screen.ensures.shown says c.in_ok-show.ensures.shown)
