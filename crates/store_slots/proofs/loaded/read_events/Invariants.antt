use Rattle.std.proofs.Common.{◌≡◌, ◌+◌, List, length, take, drop}
use Rattle.sector_disk.specs.Trail.{Nowhere, now}
use Rattle.sector_disk.specs.Confined.{IsConfined}
use Rattle.event_bytes.specs.declared.event.Event.{Event}
use Rattle.store_slots.specs.Beside.{HasEvents}
use Rattle.store_slots.proofs.loaded.read_events.Given as goal

-- nothing is written, and the events from gate k up to this one have been read
abbrev pub invariant-loop-at : goal.invariant-loop-at
invariant-loop-at g l = record {
  kept : IsConfined g.D.Disk.size g.D.Disk.honest g.D.Disk.trail Nowhere l.fn.disk l.disk;
  calm : g.D.Disk.failures l.disk ≡ g.D.Disk.failures l.fn.disk;
  count : length l.events.items + l.k ≡ l.at;
  others : g.D.Disk.honest l.fn.disk → (all : List Event)
      → HasEvents (now (g.D.Disk.trail l.fn.disk)).reads l.slot l.end all
      → drop l.k (take l.at all) ≡ l.events.items;
}
