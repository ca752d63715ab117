use Rattle.std.proofs.Common.{◌∙◌, ap, sym, Some}
use Rattle.std.proofs.lemmas.Result.{err_from_is_err_and}
use Rattle.desk_sitting.specs.Questions.{named_by, or_asked}
use Rattle.desk_sitting.proofs.Found.{found_no_more, found_so, then_found}
use Rattle.desk_sitting.proofs.sitting.Sitting.asked_at.Goals as goal

pub returns-in_err-lost : goal.returns-in_err-lost
returns-in_err-lost g c =
    let p = err_from_is_err_and c.from_residual.result c.from_residual.ensures.1 in
    rw (p.1, p.2) (found_no_more g.D.Disk _ _ c.in_err-lost.field-0.0 c.args.self.now c.args.store.now
    c.lost_at.new.store c.in_err-lost.ensures)

pub returns-in-None : goal.returns-in-None
returns-in-None g c =
    let other = named_by c.args.click c.args.store.now.desktop in
    then_found g.D.Disk _ c.in_ok-lost.lost c.args.self.now c.in_ok-lost.ensures _ _ c.named_by.result
    (λ is. sym (ap (λ o. or_asked o other) (sym is ∙ c.in-None.is))) c.named_by.ensures

pub returns-in-Some : goal.returns-in-Some
returns-in-Some g c =
    let other = named_by c.args.click c.args.store.now.desktop in
    found_so g.D.Disk _ _ c.in_ok-lost.lost (Some c.in-Some.question) c.args.self.now c.args.store.now c.lost_at.new.store
    (λ is. sym (ap (λ o. or_asked o other) (sym is ∙ c.in-Some.is))) c.in_ok-lost.ensures
