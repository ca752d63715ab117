use Rattle.desk_past.proofs.Looks.{broken, looked_on, looked_twice, starved}
use Rattle.past_steps.proofs.index.entries_in.Goals as goal

pub returns-in_err-entry : goal.returns-in_err-entry
returns-in_err-entry g c = looked_on g.D.Disk c.loop-at.invariant
    (broken g.D.Disk c.entry_at.ensures.looks c.in_err-entry.was c.from_residual.ensures.1)

pub returns-in_default : goal.returns-in_default
returns-in_default g c = looked_twice g.D.Disk c.loop-at.invariant c.in_ok-entry.ensures.looks

pub returns-in_err-add : goal.returns-in_err-add
returns-in_err-add g c = starved g.D.Disk (looked_on g.D.Disk c.loop-at.invariant c.in_ok-entry.ensures.looks)
    c.from_residual-in_err-add.ensures.1

pub loop-at-preserved : goal.loop-at-preserved
loop-at-preserved g c = looked_twice g.D.Disk c.loop-at.invariant c.in_ok-entry.ensures.looks
