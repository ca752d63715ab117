use Rattle.std.proofs.Common.{◌≡◌, false}
use Rattle.sector_disk.specs.Trail.{Nowhere, now}
use Rattle.sector_disk.specs.Confined.{IsConfined}
use Rattle.char_pages.specs.Pages.{saved_of, renewed_of}
use Rattle.command_table.specs.Versions.{version_number}
use Rattle.store_slots.specs.Live.{seen_live, IsLive, HasTrueCache}
use Rattle.store_slots.specs.Load.{IsJournalReadTo}
use Rattle.store_slots.proofs.loaded.replay_to.Given as goal

-- nothing is written, and the events before gate k have been stepped
abbrev pub invariant-loop-k : goal.invariant-loop-k
invariant-loop-k g l = record {
  kept : IsConfined g.D.Disk.size g.D.Disk.honest g.D.Disk.trail Nowhere l.fn.disk l.disk;
  calm : g.D.Disk.failures l.disk ≡ g.D.Disk.failures l.fn.disk;
  read : g.D.Disk.honest l.fn.disk
      → IsJournalReadTo (now (g.D.Disk.trail l.fn.disk)).reads l.slot (version_number l.version) l.k
      (seen_live (now (g.D.Disk.trail l.fn.disk)).reads l.fn.desktop)
      (seen_live (now (g.D.Disk.trail l.disk)).reads l.desktop);
  live : IsLive l.desktop;
  told : HasTrueCache g.D.Disk l.disk l.desktop;
  area : l.desktop.area ≡ l.fn.desktop.area;
  counted : renewed_of l.desktop.pages ≡ false → saved_of l.desktop.pages ≡ saved_of l.fn.desktop.pages;
}
