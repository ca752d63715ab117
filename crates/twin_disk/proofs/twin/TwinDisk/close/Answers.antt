use Rattle.std.proofs.Common.{inl}
use Rattle.twin_disk.proofs.Marked.{closed_any}
use Rattle.twin_disk.proofs.twin.TwinDisk.close.Goals as goal

pub returns-in-Ok : goal.returns-in-Ok
returns-in-Ok g c = closed_any g.A.Disk g.B.Disk c.args.self c.sync.new.self c.sync.ensures.goes_on c.if-self.false c.if-self-2.false
    c.leave.result c.leave.ensures

pub returns-in-Err : goal.returns-in-Err
returns-in-Err g c = closed_any g.A.Disk g.B.Disk c.args.self c.sync.new.self c.sync.ensures.goes_on c.if-self.false
    c.if-self-2.false c.into_legs.result (inl c.into_legs.ensures)
