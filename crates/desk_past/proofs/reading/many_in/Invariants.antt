use Rattle.std.proofs.Common.{◌≡◌, ◌-◌, List}
use Rattle.sector_disk.specs.Trail.{now}
use Rattle.past_pages.specs.Page.{Page}
use Rattle.past_pages.specs.Reading.{IsOnlyReadFrom}
use Rattle.desk_past.specs.Past.{HasPages, end_of_pages, AreGood}
use Rattle.desk_past.proofs.Fronts.{HasCounted}
use Rattle.desk_past.proofs.reading.many_in.Given as goal

-- nothing is written to the store, and the pages before this sector have been counted
abbrev pub invariant-loop-at : goal.invariant-loop-at
invariant-loop-at g l = record {
  still : IsOnlyReadFrom g.D.Disk l.fn.store l.store;
  calm : g.D.Disk.failures l.store.disk ≡ g.D.Disk.failures l.fn.store.disk;
  counted : g.D.Disk.honest l.fn.store.disk → (pages : List Page)
      → HasPages (now (g.D.Disk.trail l.fn.store.disk)).reads l.first pages → AreGood pages
      → end_of_pages l.first pages ≡ l.end
      → HasCounted (now (g.D.Disk.trail l.fn.store.disk)).reads l.end pages l.at l.count;
}

abbrev pub decreases-loop-at : goal.decreases-loop-at
decreases-loop-at g l = l.end - l.at
