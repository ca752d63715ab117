use Rattle.std.proofs.Common.{None}
use Rattle.desk_sitting.proofs.Found.{calls_none, calls_so, found_alone, found_here}
use Rattle.desk_sitting.proofs.sitting.Sitting.named_by.Goals as goal

pub returns-in-None : goal.returns-in-None
returns-in-None g c = found_alone g.D.Disk _ None c.args.self.now c.args.store.now c.requires
    (calls_none c.args.click c.args.store.now.desktop c.called_cell.result c.called_cell.ensures c.in-None.is)

pub returns-in-Some : goal.returns-in-Some
returns-in-Some g c = found_here g.D.Disk _ _ c.named_at.result c.args.self.now c.args.store.now c.named_at.new.store
    (calls_so c.args.click c.args.store.now.desktop c.called_cell.result c.called_cell.ensures c.in-Some.cell c.in-Some.is)
    c.named_at.ensures
