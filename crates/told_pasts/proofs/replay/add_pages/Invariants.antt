use Rattle.std.proofs.Common.{◌≡◌, ◌-◌}
use Rattle.sector_disk.specs.Trail.{now}
use Rattle.past_pages.specs.Reading.{IsOnlyReadFrom}
use Rattle.told_pasts.specs.Reaching.{HasReach}
use Rattle.told_pasts.specs.Telling.{IsToShow}
use Rattle.told_pasts.proofs.Replayed.{HasTold}
use Rattle.told_pasts.proofs.replay.add_pages.Given as goal

-- nothing is written to the store, and the deeds of the pages before this sector have been told
abbrev pub invariant-loop-at : goal.invariant-loop-at
invariant-loop-at g l = record {
  still : IsOnlyReadFrom g.D.Disk l.fn.store l.store;
  calm : g.D.Disk.failures l.store.disk ≡ g.D.Disk.failures l.fn.store.disk;
  told : (h : HasReach g.D.Disk l.fn.store l.reach l.first)
      → IsToShow h.past.start h.past.deeds l.fn.replay.due l.fn.replay.shown.desktop h.past.start.desktop
      → HasTold h.past.start h.past.deeds (now (g.D.Disk.trail l.fn.store.disk)).reads l.reach.next
      h.past.keeps.remembers.pages l.at l.replay.due l.replay.shown.desktop l.fn.lines.items l.lines.items;
}

abbrev pub decreases-loop-at : goal.decreases-loop-at
decreases-loop-at g l = l.reach.next - l.at
