use Rattle.desk_past.proofs.Looks.{broken, looked_on, looked_twice, starved}
use Rattle.past_steps.proofs.ahead.add_since.Goals as goal

pub returns-in_err-events : goal.returns-in_err-events
returns-in_err-events g c = looked_on g.D.Disk c.loop-count.invariant
    (broken g.D.Disk c.run_before.ensures.looks c.in_err-events.was c.from_residual.ensures.1)

pub returns-in_err-add_done : goal.returns-in_err-add_done
returns-in_err-add_done g c = starved g.D.Disk
    (looked_on g.D.Disk c.loop-count.invariant c.in_ok-events.ensures.looks) c.from_residual-in_err-add_done.ensures.1

pub returns-then-k-since : goal.returns-then-k-since
returns-then-k-since g c = looked_twice g.D.Disk c.loop-count.invariant c.in_ok-events.ensures.looks

pub returns-in_err-documents : goal.returns-in_err-documents
returns-in_err-documents g c = looked_on g.D.Disk
    (looked_on g.D.Disk c.loop-count.invariant c.in_ok-events.ensures.looks)
    (broken g.D.Disk c.import_before.ensures c.in_err-documents.was c.from_residual-in_err-documents.ensures.1)

pub returns-in_default : goal.returns-in_default
returns-in_default g c = looked_twice g.D.Disk
    (looked_on g.D.Disk c.loop-count.invariant c.in_ok-events.ensures.looks) c.in_ok-documents.ensures

pub returns-in_err-add_import : goal.returns-in_err-add_import
returns-in_err-add_import g c = starved g.D.Disk
    (looked_on g.D.Disk (looked_on g.D.Disk c.loop-count.invariant c.in_ok-events.ensures.looks) c.in_ok-documents.ensures)
    c.from_residual-in_err-add_import.ensures.1

pub loop-count-preserved : goal.loop-count-preserved
loop-count-preserved g c = looked_twice g.D.Disk
    (looked_on g.D.Disk c.loop-count.invariant c.in_ok-events.ensures.looks) c.in_ok-documents.ensures
