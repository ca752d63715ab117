use Rattle.std.proofs.Common.{◌∙◌, ap}
use Rattle.std.proofs.lemmas.Result.{err_from_is_err_and}
use Rattle.desk_sitting.specs.Questions.{loss_question}
use Rattle.desk_sitting.proofs.Found.{found_look, found_unseen}
use Rattle.desk_sitting.proofs.sitting.Sitting.lost_at.Goals as goal

pub returns-in_err-loss : goal.returns-in_err-loss
returns-in_err-loss g c =
    let p = err_from_is_err_and c.from_residual.result c.from_residual.ensures.1 in
    rw (p.1, p.2) (found_unseen g.D.Disk _ c.in_err-loss.field-0.0 c.args.self.now c.args.store.now c.loss_at.new.self
    c.requires c.in_err-loss.ensures.looks)

pub returns : goal.returns
returns g c = found_look g.D.Disk _ c.in_ok-loss.loss c.loss_question.result c.args.self.now c.args.store.now
    c.loss_at.new.self c.requires c.in_ok-loss.ensures.looks
    (λ honest. c.loss_question.ensures ∙ ap loss_question (c.in_ok-loss.ensures.told honest))
