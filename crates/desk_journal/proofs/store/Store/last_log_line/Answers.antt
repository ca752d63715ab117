use Rattle.desk_journal.proofs.Storing.{looked_at}
use Rattle.desk_journal.proofs.store.Store.last_log_line.Goals as goal

pub invariant_of-self : goal.invariant_of-self
invariant_of-self g c = λ usable.
    looked_at g.D.Disk _ _ _ _ _ _ _ _ c.last_log_line.ensures.disk c.last_log_line.ensures.same (c.self.invariant usable)
