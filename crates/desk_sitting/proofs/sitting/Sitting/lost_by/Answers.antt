use Rattle.std.proofs.Common.{None}
use Rattle.std.proofs.lemmas.Result.{err_from_is_err_and}
use Rattle.desk_sitting.proofs.Found.{found_no_more, found_so, lost_nothing, lost_so, then_found}
use Rattle.desk_sitting.proofs.sitting.Sitting.lost_by.Goals as goal

pub returns-in_err-click : goal.returns-in_err-click
returns-in_err-click g c =
    let p = err_from_is_err_and c.from_residual.result c.from_residual.ensures.1 in
    rw (p.1, p.2) (found_no_more g.D.Disk _ _ c.in_err-click.field-0.0 c.args.self.now c.args.store.now
    c.click_made.new.store c.in_err-click.ensures)

pub returns-in-None : goal.returns-in-None
returns-in-None g c = found_so g.D.Disk _ _ c.in_ok-click.click None c.args.self.now c.args.store.now c.click_made.new.store
    (λ is. lost_nothing _ c.args.store.now.desktop c.in_ok-click.click is c.in-None.is) c.in_ok-click.ensures

pub returns-in-Some : goal.returns-in-Some
returns-in-Some g c = then_found g.D.Disk _ c.in_ok-click.click c.args.self.now c.in_ok-click.ensures _ _ c.asked_at.result
    (λ is. lost_so _ c.args.store.now.desktop c.in_ok-click.click is c.in-Some.click c.in-Some.is) c.asked_at.ensures
