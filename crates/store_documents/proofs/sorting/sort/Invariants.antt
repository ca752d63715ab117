use Rattle.std.proofs.Common.{◌≡◌}
use Rattle.store_documents.specs.Standings.{HasOnlyLooked, AreSorted}
use Rattle.store_documents.proofs.sorting.sort.Given as goal

abbrev pub invariant-loop-document : goal.invariant-loop-document
invariant-loop-document g l = (g.D.Disk.honest l.fn.store.disk → AreSorted l.fn.store.desktop l.yielded l.sorted)
    × HasOnlyLooked g.D.Disk l.fn.store l.store
    × (g.D.Disk.failures l.store.disk ≡ g.D.Disk.failures l.fn.store.disk)
