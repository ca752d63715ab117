use Rattle.std.proofs.Common.{◌∙◌, ap}
use Rattle.std.proofs.lemmas.Result.{err_from_is_err_and}
use Rattle.desk_sitting.specs.Questions.{click_led}
use Rattle.desk_sitting.proofs.Found.{found_look, found_unseen}
use Rattle.desk_sitting.proofs.sitting.Sitting.click_led.Goals as goal

pub returns-in_err-told : goal.returns-in_err-told
returns-in_err-told g c =
    let p = err_from_is_err_and c.from_residual.result c.from_residual.ensures.1 in
    rw (p.1, p.2) (found_unseen g.D.Disk _ c.in_err-told.field-0.0 c.args.self.now c.args.store.now c.lead.new.self
    c.requires c.in_err-told.ensures.looks)

pub returns : goal.returns
returns g c = found_look g.D.Disk _ c.in_ok-told.told c.click_led.result c.args.self.now c.args.store.now c.lead.new.self c.requires
    c.in_ok-told.ensures.looks (λ honest. c.click_led.ensures
    ∙ ap click_led (c.in_ok-told.ensures.leads honest).exact)
