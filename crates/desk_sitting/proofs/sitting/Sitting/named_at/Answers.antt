use Rattle.std.proofs.Common.{◌∙◌, sym, Some}
use Rattle.std.proofs.lemmas.Result.{err_from_is_err_and}
use Rattle.desktop_definitions.specs.Shown.{shown_screen}
use Rattle.desk_sitting.proofs.Found.{found_look, found_unseen, named_so, then_found, unnamed}
use Rattle.desk_sitting.proofs.sitting.Sitting.named_at.Goals as goal

pub returns-in_err-screen : goal.returns-in_err-screen
returns-in_err-screen g c =
    let p = err_from_is_err_and c.from_residual.result c.from_residual.ensures.1 in
    rw (p.1, p.2) (found_unseen g.D.Disk _ c.in_err-screen.field-0.0 c.args.self.now c.args.store.now c.screen.new.self
    c.requires c.in_err-screen.ensures.looks)

pub returns-in-None : goal.returns-in-None
returns-in-None g c =
    then_found g.D.Disk shown_screen c.screen.new.screen c.args.self.now
    (found_look g.D.Disk shown_screen tt c.screen.new.screen c.args.self.now c.args.store.now c.screen.new.self c.requires
    c.in_ok-screen.ensures.looks c.in_ok-screen.ensures.shown) _ _ c.reopened_at.result
    (λ is. unnamed c.args.to c.args.store.now.desktop c.screen.new.screen is (sym c.named_question.ensures ∙ c.in-None.is))
    c.reopened_at.ensures

pub returns-in-Some : goal.returns-in-Some
returns-in-Some g c = found_look g.D.Disk _ tt (Some c.in-Some.question) c.args.self.now c.args.store.now c.screen.new.self
    c.requires c.in_ok-screen.ensures.looks (λ honest. named_so c.args.to c.args.store.now.desktop c.screen.new.screen
    (c.in_ok-screen.ensures.shown honest) c.in-Some.question (sym c.named_question.ensures ∙ c.in-Some.is))
