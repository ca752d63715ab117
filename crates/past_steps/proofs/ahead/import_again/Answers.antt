use Rattle.std.proofs.Common.{◌∙◌, Err, ap, subst, sym}
use Rattle.std.proofs.lemmas.Result.{err_from_is_err_and}
use Rattle.desk_past.proofs.ImportWays.{not_last}
use Rattle.desk_past.proofs.InMemory.{stop_at}
use Rattle.desk_past.proofs.Looks.{only_read}
use Rattle.desk_past.proofs.Sparing.{device_used}
use Rattle.past_steps.specs.Steps.{IsBroughtAgain, LeavesBroughtAgain}
use Rattle.past_steps.proofs.Coming.{came, came_not, looked_end, may_come, then_broke, then_came}
use Rattle.past_steps.proofs.ahead.import_again.Goals as goal

pub returns-in_default-clause-none : goal.returns-in_default-clause-none
returns-in_default-clause-none g c =
    only_read g.D.Disk _ c.args.store.now c.import_ahead.new.store c.requires c.in_ok-documents.ensures

pub returns-in_default-clause-device : goal.returns-in_default-clause-device
returns-in_default-clause-device g c = looked_end g.D.Disk _ c.in_ok-documents.ensures

pub returns-in-Done-clause-brought : goal.returns-in-Done-clause-brought
returns-in-Done-clause-brought g c =
    subst (λ ds. IsBroughtAgain g.D.Disk ds c.args.store.now c.bring.new.store) c.as_slice.ensures.value
    (came g.D.Disk c.requires c.in_ok-documents.ensures c.as_slice.result.now c.in-Done.is c.in_ok-bring.ensures.ok
    c.bring.ensures.any_moment c.bring.ensures.nothing_forgotten)

pub returns-in-Done-clause-device : goal.returns-in-Done-clause-device
returns-in-Done-clause-device g c = then_came g.D.Disk c.requires c.in_ok-documents.ensures c.bring.result _
    c.in_ok-bring.was (device_used g.D.Disk c.bring.ensures.device)

pub returns-in-No-clause-none : goal.returns-in-No-clause-none
returns-in-No-clause-none g c = came_not g.D.Disk c.requires c.in_ok-documents.ensures c.as_slice.result.now _ c.in-No.is
    c.in_ok-bring.ensures.ok

pub returns-in-No-clause-device : goal.returns-in-No-clause-device
returns-in-No-clause-device g c = then_came g.D.Disk c.requires c.in_ok-documents.ensures c.bring.result _
    c.in_ok-bring.was (device_used g.D.Disk c.bring.ensures.device)

pub returns-in_err-bring-clause-breaks : goal.returns-in_err-bring-clause-breaks
returns-in_err-bring-clause-breaks g c =
    let p = err_from_is_err_and c.from_residual-in_err-bring.result c.from_residual-in_err-bring.ensures.1 in
    stop_at (λ e. LeavesBroughtAgain g.D.Disk c.args.store.now c.bring.new.store)
    (may_come g.D.Disk c.requires c.in_ok-documents.ensures c.as_slice.result.now c.bring.ensures.any_moment
    c.bring.ensures.nothing_forgotten) (p.1 ∙ ap (λ e. Err e) p.2)

pub returns-in_err-bring-clause-device : goal.returns-in_err-bring-clause-device
returns-in_err-bring-clause-device g c =
    let p = err_from_is_err_and c.from_residual-in_err-bring.result c.from_residual-in_err-bring.ensures.1 in
    then_broke g.D.Disk c.requires c.in_ok-documents.ensures p.0 c.from_residual-in_err-bring.result c.bring.result
    (not_last c.in_ok-info.was (c.info.ensures.value c.requires) c.if-branch-eq-LAST_EPOCH.false)
    (λ is. c.bring.ensures.worn.only is) (λ is. c.bring.ensures.reopen.only is)
    (c.in_err-bring.was ∙ ap (λ e. Err e) (sym p.2)) p.1
    (device_used g.D.Disk c.bring.ensures.device)
