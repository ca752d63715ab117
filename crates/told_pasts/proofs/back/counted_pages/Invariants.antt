use Rattle.std.proofs.Common.{◌≡◌, ◌≤◌, ◌<◌, ◌-◌, ◌^◌, List, length}
use Rattle.sector_disk.specs.Trail.{now}
use Rattle.past_pages.specs.Page.{Page}
use Rattle.past_pages.specs.Reading.{IsOnlyReadFrom}
use Rattle.desk_past.specs.Past.{HasPages, end_of_pages, AreGood, all_deeds}
use Rattle.told_pasts.proofs.Counted.{HasCounted}
use Rattle.told_pasts.proofs.back.counted_pages.Given as goal

-- nothing is written to the store, and the pages before this sector have been counted
abbrev pub invariant-loop-at : goal.invariant-loop-at
invariant-loop-at g l = record {
  still : IsOnlyReadFrom g.D.Disk l.fn.store l.store;
  calm : g.D.Disk.failures l.store.disk ≡ g.D.Disk.failures l.fn.store.disk;
  counted : g.D.Disk.honest l.fn.store.disk → (pages : List Page)
      → HasPages (now (g.D.Disk.trail l.fn.store.disk)).reads l.first pages → AreGood pages
      → end_of_pages l.first pages ≡ l.end → l.end ≤ g.D.Disk.size l.fn.store.disk
      → length (all_deeds pages) < 2 ^ 64
      → HasCounted (now (g.D.Disk.trail l.fn.store.disk)).reads l.end pages l.at l.count;
}

abbrev pub decreases-loop-at : goal.decreases-loop-at
decreases-loop-at g l = l.end - l.at
