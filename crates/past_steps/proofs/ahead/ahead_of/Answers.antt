use Rattle.desk_past.proofs.Looks.{broken, looked_on, looked_twice}
use Rattle.past_steps.proofs.ahead.ahead_of.Goals as goal

pub returns-in_err-pass_turn : goal.returns-in_err-pass_turn
returns-in_err-pass_turn g c = looked_on g.D.Disk c.loop-count.invariant
    (broken g.D.Disk c.pass_turn.ensures c.in_err-pass_turn.was c.from_residual.ensures.1)

pub returns-then-not-branch : goal.returns-then-not-branch
returns-then-not-branch g c = looked_twice g.D.Disk c.loop-count.invariant c.in_ok-pass_turn.ensures

pub loop-count-preserved : goal.loop-count-preserved
loop-count-preserved g c = looked_twice g.D.Disk c.loop-count.invariant c.in_ok-pass_turn.ensures
