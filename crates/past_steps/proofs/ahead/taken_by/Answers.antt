use Rattle.desk_past.proofs.Looks.{broken, looked_on, looked_twice, starved}
use Rattle.past_steps.proofs.ahead.taken_by.Goals as goal

pub returns-in_err-import_before : goal.returns-in_err-import_before
returns-in_err-import_before g c = looked_on g.D.Disk c.in_ok-events.ensures.looks
    (broken g.D.Disk c.import_before.ensures c.in_err-import_before.was c.from_residual-in_err-import_before.ensures.1)

pub returns-in-None : goal.returns-in-None
returns-in-None g c = looked_twice g.D.Disk c.in_ok-events.ensures.looks c.in_ok-import_before.ensures

pub returns-in_err-add_import-in-Some : goal.returns-in_err-add_import-in-Some
returns-in_err-add_import-in-Some g c = starved g.D.Disk
    (looked_on g.D.Disk c.in_ok-events.ensures.looks c.in_ok-import_before.ensures)
    c.from_residual-in_err-add_import-in-Some.ensures.1

pub returns : goal.returns
returns g c = looked_twice g.D.Disk c.in_ok-events.ensures.looks c.in_ok-import_before.ensures
