use Rattle.twin_disk.proofs.Copies.{IsCompared}
use Rattle.twin_disk.proofs.copying.differing.Given as goal

abbrev pub invariant-loop-n : goal.invariant-loop-n
invariant-loop-n g l = IsCompared g.A.Disk g.B.Disk l.count l.n l.fn.one l.fn.other l.one l.other
