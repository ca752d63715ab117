use Rattle.std.proofs.Common.{◌≡◌, ◌-◌, ◌≤◌, List}
use Rattle.sector_disk.specs.Trail.{now}
use Rattle.past_pages.specs.Page.{Page}
use Rattle.past_pages.specs.Reading.{IsOnlyReadFrom}
use Rattle.desk_past.specs.Past.{HasPages, end_of_pages, AreGood}
use Rattle.desk_past.proofs.Fronts.{HasCounted}
use Rattle.past_moments.proofs.extent.count_pages.Given as goal

-- nothing is written to the store, and the pages before this sector have been counted
abbrev pub invariant-loop-here : goal.invariant-loop-here
invariant-loop-here g l = record {
  still : IsOnlyReadFrom g.D.Disk l.fn.store l.store;
  counted : g.D.Disk.honest l.fn.store.disk → (pages : List Page)
      → HasPages (now (g.D.Disk.trail l.fn.store.disk)).reads l.first pages → AreGood pages
      → end_of_pages l.first pages ≡ l.end → l.end ≤ g.D.Disk.size l.fn.store.disk
      → HasCounted (now (g.D.Disk.trail l.fn.store.disk)).reads l.end pages l.here.at l.here.k;
}

abbrev pub decreases-loop-here : goal.decreases-loop-here
decreases-loop-here g l = l.end - l.here.at
