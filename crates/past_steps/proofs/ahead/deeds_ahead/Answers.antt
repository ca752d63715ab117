use Rattle.desk_past.proofs.Looks.{broken, looked_on, looked_twice, usable_after}
use Rattle.past_steps.proofs.ahead.deeds_ahead.Goals as goal

pub ahead_of-requires : goal.ahead_of-requires
ahead_of-requires g c = usable_after g.D.Disk c.in_ok-index.ensures.looks

pub returns-in_err-ahead_of : goal.returns-in_err-ahead_of
returns-in_err-ahead_of g c = looked_on g.D.Disk c.in_ok-index.ensures.looks
    (broken g.D.Disk c.ahead_of.ensures c.in_err-ahead_of.was c.from_residual-in_err-ahead_of.ensures.1)

pub returns : goal.returns
returns g c = looked_twice g.D.Disk c.in_ok-index.ensures.looks c.in_ok-ahead_of.ensures
