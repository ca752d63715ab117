use Rattle.std.proofs.Common.{◌≡◌, ◌+◌, ◌-◌, ◌≤◌, List, [], length}
use Rattle.sector_disk.specs.Trail.{now}
use Rattle.past_pages.specs.Page.{Page}
use Rattle.past_pages.specs.Reading.{IsOnlyReadFrom}
use Rattle.desk_past.specs.Past.{HasPages, end_of_pages, AreGood, AreTurns, Start, all_deeds}
use Rattle.desk_past.proofs.Legs.{IsReaching}
use Rattle.desk_past.proofs.routes.reach_of.Given as goal

-- nothing is written to the store, and the pages before this sector have been passed
abbrev pub invariant-loop-left : goal.invariant-loop-left
invariant-loop-left g l = record {
  still : IsOnlyReadFrom g.D.Disk l.fn.store l.store;
  calm : g.D.Disk.failures l.store.disk ≡ g.D.Disk.failures l.fn.store.disk;
  reaching : g.D.Disk.honest l.fn.store.disk → (start : Start) (pages : List Page) → start.before ≡ l.before
      → HasPages (now (g.D.Disk.trail l.fn.store.disk)).reads l.first pages → AreGood pages → AreTurns start [] pages
      → end_of_pages l.first pages ≡ l.end → l.k ≤ l.before + length (all_deeds pages)
      → IsReaching (now (g.D.Disk.trail l.fn.store.disk)).reads l.end start pages l.k l.at l.left l.reach.leg
      l.reach.from;
}

abbrev pub decreases-loop-left : goal.decreases-loop-left
decreases-loop-left g l = l.end - l.at
