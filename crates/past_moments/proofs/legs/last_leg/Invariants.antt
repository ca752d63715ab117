use Rattle.std.proofs.Common.{◌-◌}
use Rattle.past_pages.specs.Reading.{IsOnlyReadFrom}
use Rattle.past_moments.specs.Moments.{GoesFrom, IsExtentOf, IsPagePlace}
use Rattle.past_moments.proofs.legs.last_leg.Given as goal

-- nothing is written to the store, and the last leg so far begins at such a place
abbrev pub invariant-loop-here : goal.invariant-loop-here
invariant-loop-here g l = record {
  still : IsOnlyReadFrom g.D.Disk l.fn.store l.store;
  here : IsExtentOf g.D.Disk l.extent l.fn.store → IsPagePlace g.D.Disk l.fn.place l.fn.store
      → IsPagePlace g.D.Disk l.here l.fn.store;
  leg : IsExtentOf g.D.Disk l.extent l.fn.store → IsPagePlace g.D.Disk l.fn.place l.fn.store
      → IsPagePlace g.D.Disk l.leg.place l.fn.store;
  from : IsExtentOf g.D.Disk l.extent l.fn.store → IsPagePlace g.D.Disk l.fn.place l.fn.store
      → GoesFrom g.D.Disk l.leg.place l.leg.from l.fn.store;
}

abbrev pub decreases-loop-here : goal.decreases-loop-here
decreases-loop-here g l = l.extent.end - l.here.at
