use Rattle.std.proofs.Common.{◌≡◌, ◌+◌, ◌*◌, ◌++◌, ℕ, List, length}
use Rattle.sector_disk.specs.Trail.{Nowhere, now}
use Rattle.sector_disk.specs.Confined.{IsConfined}
use Rattle.sector_disk.specs.declared.disk.TheConstants.{SECTOR_BYTES}
use Rattle.store_layout.specs.Kept.{HasFront}
use Rattle.store_slots.proofs.comparing.has_characters.Given as goal

-- the sectors before sector i are the same
abbrev pub invariant-loop-i : goal.invariant-loop-i
invariant-loop-i g l =
    let d = g.D.Disk in
    record {
      kept : IsConfined d.size d.honest d.trail Nowhere l.fn.disk l.disk;
      calm : d.failures l.disk ≡ d.failures l.fn.disk;
      front : d.honest l.fn.disk → (front : List ℕ) → length front ≡ SECTOR_BYTES * l.saved
          → HasFront (now (d.trail l.fn.disk)).reads l.area l.saved (front ++ l.rest)
          → HasFront (now (d.trail l.fn.disk)).reads l.area (l.saved + l.i) (front ++ l.rest);
    }
