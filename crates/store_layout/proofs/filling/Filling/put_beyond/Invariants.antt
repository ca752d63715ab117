use Rattle.std.proofs.Common.{◌≡◌, ◌≤◌, ◌-◌, ◌++◌, take, length, List, ℕ}
use Rattle.sector_disk.specs.Trail.{now}
use Rattle.sector_disk.specs.Confined.{IsConfined}
use Rattle.store_layout.specs.Filling.{first_sector, most_sectors, SectorsOf, HasTaken}
use Rattle.store_layout.proofs.filling.Filling.put_beyond.Given as goal

abbrev pub invariant-loop-at : goal.invariant-loop-at
invariant-loop-at g l =
    let d = g.D.Disk in
    record {
      calm : d.failures l.disk ≡ d.failures l.fn.disk;
      from : first_sector l.self ≡ first_sector l.fn.self;
      limit : most_sectors l.self ≡ most_sectors l.fn.self;
      kept : IsConfined d.size d.honest d.trail (SectorsOf l.fn.self) l.fn.disk l.disk;
      within : l.at ≤ length l.bytes;
      taken : d.honest l.fn.disk → (before : List ℕ) → HasTaken (now (d.trail l.fn.disk)).reads l.fn.self before
          → HasTaken (now (d.trail l.disk)).reads l.self (before ++ take l.at l.bytes);
    }

abbrev pub decreases-loop-at : goal.decreases-loop-at
decreases-loop-at g l = length l.bytes - l.at
