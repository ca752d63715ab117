use Rattle.std.proofs.Common.{◌∙◌, sym}
use Rattle.std.proofs.lemmas.Result.{err_from_is_err_and}
use Rattle.desk_sitting.proofs.Found.{unsought_press, asking_press, plain_press}
use Rattle.desk_sitting.proofs.sitting.Sitting.act.Goals as goal

pub returns-in_err-question : goal.returns-in_err-question
returns-in_err-question g c =
    let p = err_from_is_err_and c.from_residual.result c.from_residual.ensures.1 in
    rw (p.1, p.2) (unsought_press g.D.Disk c.args.action c.args.self.now c.args.store.now c.question_of.new.store
    c.args.self.now c.in_err-question.field-0.0 c.in_err-question.ensures)

pub returns-then-comes_first : goal.returns-then-comes_first
returns-then-comes_first g c = asking_press g.D.Disk c.args.action c.args.self.now c.args.store.now c.question_of.new.store
    c.in_ok-question.question c.in_ok-question.ensures c.ask.new.self
    (sym c.comes_first.ensures ∙ c.if-comes_first.true) c.ask.ensures

pub returns : goal.returns
returns g c = plain_press g.D.Disk c.args.action c.args.self.now c.args.store.now c.question_of.new.store
    c.in_ok-question.question c.in_ok-question.ensures c.do_action.result c.unask.new.self c.do_action.new.self
    c.do_action.new.store (sym c.comes_first.ensures ∙ c.if-comes_first.false) c.unask.ensures c.do_action.ensures
