use Rattle.std.proofs.Common.{◌≡◌, ◌≤◌, ◌<◌, ℕ}
use Rattle.sector_disk.specs.Trail.{now}
use Rattle.past_pages.specs.Parts.{IsPartBeside, part_base}
use Rattle.past_pages.specs.Reading.{IsOnlyReadFrom}
use Rattle.desk_past.specs.Going.{start_epoch}
use Rattle.desk_past.proofs.going_on.oldest_base.Given as goal

-- nothing is written, and of the parts so far that are beside this is the oldest one
abbrev pub invariant-loop-place : goal.invariant-loop-place
invariant-loop-place g l = record {
  still : IsOnlyReadFrom g.D.Disk l.fn.store l.store;
  calm : g.D.Disk.failures l.store.disk ≡ g.D.Disk.failures l.fn.store.disk;
  beside : IsPartBeside (g.D.Disk.size l.fn.store.disk) l.next l.found.base;
  epoch : g.D.Disk.honest l.fn.store.disk
      → l.found.epoch ≡ start_epoch (now (g.D.Disk.trail l.fn.store.disk)).reads l.found.base;
  least : g.D.Disk.honest l.fn.store.disk → (n : ℕ) → n < l.place
      → IsPartBeside (g.D.Disk.size l.fn.store.disk) l.next (part_base n)
      → l.found.epoch ≤ start_epoch (now (g.D.Disk.trail l.fn.store.disk)).reads (part_base n);
}
