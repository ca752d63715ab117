use Rattle.twin_disk.proofs.Marked.{closed_found}
use Rattle.twin_disk.proofs.closing.closed_together.Goals as goal

pub returns-then-alike-clause-same : goal.returns-then-alike-clause-same
returns-then-alike-clause-same g c = λ yes. closed_found g.A.Disk g.B.Disk c.args.at c.args.one.now c.is_closed.new.leg
    c.is_same.new.one c.args.other.now c.is_same.new.other c.in_ok-closed.closed yes c.requires.honest c.is_closed.ensures.kept
    c.is_same.ensures.one c.is_same.ensures.other c.in_ok-closed.ensures.told (c.in_ok-alike.ensures.same c.if-alike.true)
