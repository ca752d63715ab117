use Rattle.desk_past.proofs.Looks.{broken, looked_on, looked_twice, starved}
use Rattle.past_steps.proofs.steps.add_before.Goals as goal

pub returns-in_err-events-clause-looks : goal.returns-in_err-events-clause-looks
returns-in_err-events-clause-looks g c = looked_on g.D.Disk c.loop-count.invariant.looks
    (broken g.D.Disk c.first_in.ensures c.in_err-events.was c.from_residual.ensures.1)

pub returns-in_default-2-clause-looks : goal.returns-in_default-2-clause-looks
returns-in_default-2-clause-looks g c = looked_twice g.D.Disk c.loop-count.invariant.looks c.in_ok-events.ensures

pub returns-in_err-last-clause-looks : goal.returns-in_err-last-clause-looks
returns-in_err-last-clause-looks g c = starved g.D.Disk
    (looked_on g.D.Disk c.loop-count.invariant.looks c.in_ok-events.ensures) c.from_residual-in_err-last.ensures.1

pub returns-in_err-add_last-clause-looks : goal.returns-in_err-add_last-clause-looks
returns-in_err-add_last-clause-looks g c = starved g.D.Disk
    (looked_on g.D.Disk c.loop-count.invariant.looks c.in_ok-events.ensures) c.from_residual-in_err-add_last.ensures.1

pub loop-count-preserved : goal.loop-count-preserved
loop-count-preserved g c = record {
  few = c.in_ok-add_last.ensures;
  looks = looked_twice g.D.Disk c.loop-count.invariant.looks c.in_ok-events.ensures;
}
