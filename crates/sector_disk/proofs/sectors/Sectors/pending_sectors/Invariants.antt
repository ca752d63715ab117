use Rattle.std.proofs.Common.{◌≡◌, ◌++◌}
use Rattle.std.specs.List.{filter}
use Rattle.std.specs.BTreeMap.{keys}
use Rattle.sector_disk.specs.Sectors.{moment_of}
use Rattle.sector_disk.proofs.sectors.Sectors.pending_sectors.Given as goal

abbrev pub invariant-loop-n : goal.invariant-loop-n
invariant-loop-n l = l.found.items ++ filter (moment_of l.self).pending l.n-iterator
    ≡ filter (moment_of l.self).pending (keys l.self.latest)
