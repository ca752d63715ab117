use Rattle.desk_past.proofs.Looks.{broken, looked_on, looked_twice, starved}
use Rattle.past_steps.proofs.ahead.pass_turn.Goals as goal

pub returns-in_err-taken : goal.returns-in_err-taken
returns-in_err-taken g c = looked_on g.D.Disk c.in_ok-add_since.ensures
    (broken g.D.Disk c.taken_by.ensures c.in_err-taken.was c.from_residual-in_err-taken.ensures.1)

pub returns-in_default-2 : goal.returns-in_default-2
returns-in_default-2 g c = looked_twice g.D.Disk c.in_ok-add_since.ensures c.in_ok-taken.ensures

pub returns-in_err-take_all : goal.returns-in_err-take_all
returns-in_err-take_all g c = starved g.D.Disk
    (looked_on g.D.Disk c.in_ok-add_since.ensures c.in_ok-taken.ensures) c.from_residual-in_err-take_all.ensures.1

pub returns : goal.returns
returns g c = looked_twice g.D.Disk c.in_ok-add_since.ensures c.in_ok-taken.ensures
