use Rattle.std.proofs.Common.{◌≡◌, List, length}
use Rattle.sector_disk.specs.Trail.{now}
use Rattle.past_pages.specs.Reading.{IsOnlyReadFrom}
use Rattle.desk_past.specs.Deeds.{PastDeed}
use Rattle.desk_past.specs.Routes.{AreLegs}
use Rattle.desk_past.proofs.Legs.{HasGone}
use Rattle.desk_past.proofs.reading.go_legs.Given as goal

-- nothing is written to the store, and the legs behind these were gone
abbrev pub invariant-loop-leg : goal.invariant-loop-leg
invariant-loop-leg g l = record {
  still : IsOnlyReadFrom g.D.Disk l.fn.store l.store;
  calm : g.D.Disk.failures l.store.disk ≡ g.D.Disk.failures l.fn.store.disk;
  gone : g.D.Disk.honest l.fn.store.disk → (deeds : List PastDeed)
      → AreLegs (now (g.D.Disk.trail l.fn.store.disk)).reads l.end l.fn.legs.items deeds
      → HasGone g.E.Disk (now (g.D.Disk.trail l.fn.store.disk)).reads l.end l.legs.items deeds l.fn.shown l.shown;
}

abbrev pub decreases-loop-leg : goal.decreases-loop-leg
decreases-loop-leg g l = length l.legs.items
