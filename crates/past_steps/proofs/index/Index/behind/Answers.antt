use Rattle.desk_past.proofs.Looks.{broken, looked_on, looked_twice}
use Rattle.past_steps.proofs.index.Index.behind.Goals as goal

pub returns-in_err-journal-clause-looks : goal.returns-in_err-journal-clause-looks
returns-in_err-journal-clause-looks g c = looked_on g.D.Disk c.in_ok-entries.ensures
    (broken g.D.Disk c.journal_of.ensures c.in_err-journal.was c.from_residual-in_err-journal.ensures.1)

pub returns-in_default-2-clause-looks : goal.returns-in_default-2-clause-looks
returns-in_default-2-clause-looks g c = looked_twice g.D.Disk c.in_ok-entries.ensures c.in_ok-journal.ensures

pub returns-clause-looks : goal.returns-clause-looks
returns-clause-looks g c = looked_twice g.D.Disk c.in_ok-entries.ensures c.in_ok-journal.ensures
