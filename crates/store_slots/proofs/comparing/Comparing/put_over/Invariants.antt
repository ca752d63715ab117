use Rattle.std.proofs.Common.{◌≡◌, ◌++◌, ℕ, List, take}
use Rattle.sector_disk.specs.Trail.{Nowhere, now}
use Rattle.sector_disk.specs.Confined.{IsConfined}
use Rattle.store_layout.specs.Draining.{extent_of, start_sector}
use Rattle.store_slots.specs.Comparing.{HasAgreed}
use Rattle.store_slots.proofs.comparing.Comparing.put_over.Given as goal

-- the bytes before byte i have come
abbrev pub invariant-loop-i : goal.invariant-loop-i
invariant-loop-i g l =
    let d = g.D.Disk in
    record {
      kept : IsConfined d.size d.honest d.trail Nowhere l.fn.disk l.disk;
      calm : d.failures l.disk ≡ d.failures l.fn.disk;
      from : start_sector l.self.draining ≡ start_sector l.fn.self.draining;
      extent : extent_of l.self.draining ≡ extent_of l.fn.self.draining;
      agreed : d.honest l.fn.disk → (before : List ℕ) → HasAgreed (now (d.trail l.fn.disk)).reads l.fn.self before
          → HasAgreed (now (d.trail l.disk)).reads l.self (before ++ take l.i l.bytes);
    }
