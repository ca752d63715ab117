use Rattle.desk_journal.proofs.Undoing.{read_beside}
use Rattle.desk_journal.proofs.store.Store.read_behind.Goals as goal

pub invariant_of-self : goal.invariant_of-self
invariant_of-self g c = λ usable. read_beside g.D.Disk c.read.ensures.kept (c.self.invariant usable)

pub invariant_of-self-2 : goal.invariant_of-self-2
invariant_of-self-2 g c = λ usable. read_beside g.D.Disk c.read.ensures.kept (c.self.invariant usable)
