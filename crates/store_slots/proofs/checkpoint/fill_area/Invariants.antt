use Rattle.std.proofs.Common.{◌≡◌, ◌+◌, ◌*◌, ◌++◌, ℕ, List, length}
use Rattle.sector_disk.specs.Trail.{now}
use Rattle.sector_disk.specs.Confined.{IsConfined}
use Rattle.sector_disk.specs.declared.disk.TheConstants.{SECTOR_BYTES}
use Rattle.store_layout.specs.Kept.{HasFront, InArea}
use Rattle.store_slots.proofs.checkpoint.fill_area.Given as goal

abbrev pub invariant-loop-i : goal.invariant-loop-i
invariant-loop-i g l =
    let d = g.D.Disk in
    record {
      kept : IsConfined d.size d.honest d.trail (InArea l.place.area l.place.saved) l.fn.disk l.disk;
      calm : d.failures l.disk ≡ d.failures l.fn.disk;
      front : d.honest l.fn.disk → (front : List ℕ) → length front ≡ SECTOR_BYTES * l.place.saved
          → HasFront (now (d.trail l.fn.disk)).reads l.place.area l.place.saved (front ++ l.rest)
          → HasFront (now (d.trail l.disk)).reads l.place.area (l.place.saved + l.i) (front ++ l.rest);
    }
