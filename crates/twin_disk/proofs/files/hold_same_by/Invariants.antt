use Rattle.twin_disk.proofs.Compared.{AreCompared}
use Rattle.twin_disk.proofs.files.hold_same_by.Given as goal

abbrev pub invariant-loop-n : goal.invariant-loop-n
invariant-loop-n g l = AreCompared g.F.HostFile g.G.HostFile l.n l.fn.one l.fn.other l.one l.other
