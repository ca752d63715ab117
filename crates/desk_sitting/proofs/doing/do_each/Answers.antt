use Rattle.desk_sitting.proofs.Done.{none_taken, one_taken}
use Rattle.desk_sitting.proofs.doing.do_each.Goals as goal

pub returns-in-Nothing : goal.returns-in-Nothing
returns-in-Nothing g c = rw c.in-Nothing.is (none_taken g.D.Disk c.args.sitting.now c.args.store.now c.requires)

pub returns-in-One : goal.returns-in-One
returns-in-One g c = rw c.in-One.is (one_taken g.D.Disk c.in-One.press _ _ _ _ _ c.press.ensures)
