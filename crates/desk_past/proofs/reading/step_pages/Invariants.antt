use Rattle.std.proofs.Common.{◌≡◌, ◌≤◌, ◌-◌, List, length, take}
use Rattle.sector_disk.specs.Trail.{now}
use Rattle.past_pages.specs.Page.{Page}
use Rattle.past_pages.specs.Reading.{IsOnlyReadFrom}
use Rattle.desk_past.specs.Past.{HasPages, end_of_pages, AreGood, all_deeds}
use Rattle.desk_past.specs.Routes.{HasNoTurn}
use Rattle.desk_past.proofs.Stepping.{HasStepped}
use Rattle.desk_past.proofs.reading.step_pages.Given as goal

-- nothing is written to the store, and the pages before this sector have been stepped
abbrev pub invariant-loop-left : goal.invariant-loop-left
invariant-loop-left g l = record {
  still : IsOnlyReadFrom g.D.Disk l.fn.store l.store;
  calm : g.D.Disk.failures l.store.disk ≡ g.D.Disk.failures l.fn.store.disk;
  stepped : g.D.Disk.honest l.fn.store.disk → (pages : List Page)
      → HasPages (now (g.D.Disk.trail l.fn.store.disk)).reads l.fn.at pages → AreGood pages
      → end_of_pages l.fn.at pages ≡ l.end → l.count ≤ length (all_deeds pages)
      → HasNoTurn (take l.count (all_deeds pages))
      → HasStepped g.E.Disk (now (g.D.Disk.trail l.fn.store.disk)).reads l.end l.count pages l.at l.left
      l.fn.shown l.shown;
}

abbrev pub decreases-loop-left : goal.decreases-loop-left
decreases-loop-left g l = l.end - l.at
