use Rattle.std.proofs.Common.{◌≡◌, List, take}
use Rattle.sector_disk.specs.Trail.{Nowhere, now}
use Rattle.sector_disk.specs.Confined.{IsConfined}
use Rattle.event_bytes.specs.declared.event.Event.{Event}
use Rattle.store_slots.specs.Beside.{HasEvents}
use Rattle.store_slots.specs.Bodies.{spellings}
use Rattle.store_slots.proofs.bodies.read_bodies.Given as goal

-- nothing is written, and the events up to this gate have been read
abbrev pub invariant-loop-k : goal.invariant-loop-k
invariant-loop-k g l = record {
  kept : IsConfined g.D.Disk.size g.D.Disk.honest g.D.Disk.trail Nowhere l.fn.disk l.disk;
  calm : g.D.Disk.failures l.disk ≡ g.D.Disk.failures l.fn.disk;
  bytes : g.D.Disk.honest l.fn.disk → (all : List Event)
      → HasEvents (now (g.D.Disk.trail l.fn.disk)).reads l.slot l.end all
      → l.bytes.items ≡ spellings (take l.k all);
}
