use Rattle.std.proofs.Common.{◌≡◌, ◌+◌, ◌≤◌, List, [], length}
use Rattle.sector_disk.specs.Trail.{now}
use Rattle.past_pages.specs.Page.{Page}
use Rattle.past_pages.specs.Reading.{IsOnlyReadFrom}
use Rattle.desk_past.specs.Past.{HasPages, end_of_pages, AreGood, AreTurns, Start, all_deeds}
use Rattle.desk_past.proofs.Legs.{IsWaySoFar, LiesWithin, left_of}
use Rattle.desk_past.proofs.routes.way_to.Given as goal

-- nothing is written to the store, and the legs so far lead from this moment to moment k
abbrev pub invariant-loop-from : goal.invariant-loop-from
invariant-loop-from g l = record {
  still : IsOnlyReadFrom g.D.Disk l.fn.store l.store;
  calm : g.D.Disk.failures l.store.disk ≡ g.D.Disk.failures l.fn.store.disk;
  within : LiesWithin l.before l.k l.from;
  way : g.D.Disk.honest l.fn.store.disk → (start : Start) (pages : List Page) → start.before ≡ l.before
      → HasPages (now (g.D.Disk.trail l.fn.store.disk)).reads l.first pages → AreGood pages → AreTurns start [] pages
      → end_of_pages l.first pages ≡ l.end → l.k ≤ l.before + length (all_deeds pages)
      → IsWaySoFar (now (g.D.Disk.trail l.fn.store.disk)).reads l.end start (all_deeds pages) l.k l.legs.items l.from;
}

abbrev pub decreases-loop-from : goal.decreases-loop-from
decreases-loop-from g l = left_of l.from
