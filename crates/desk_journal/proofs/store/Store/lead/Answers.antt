use Rattle.desk_journal.proofs.Storing.{looked_at}
use Rattle.desk_journal.proofs.store.Store.lead.Goals as goal

pub invariant_of-self : goal.invariant_of-self
invariant_of-self g c = λ usable.
    looked_at g.D.Disk _ _ _ _ _ _ _ _ c.lead.ensures.disk c.lead.ensures.same (c.self.invariant usable)
