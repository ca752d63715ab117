use Rattle.std.proofs.Common.{◌≡◌, ◌<◌, ℕ}
use Rattle.sector_disk.specs.Trail.{now}
use Rattle.past_pages.specs.Parts.{part_base}
use Rattle.past_pages.specs.Reading.{IsOnlyReadFrom}
use Rattle.desk_past.specs.Going.{start_epoch}
use Rattle.desk_past.proofs.going_on.is_started.Given as goal

-- nothing is written, and no start stands in the parts so far
abbrev pub invariant-loop-place : goal.invariant-loop-place
invariant-loop-place g l = record {
  still : IsOnlyReadFrom g.D.Disk l.fn.store l.store;
  calm : g.D.Disk.failures l.store.disk ≡ g.D.Disk.failures l.fn.store.disk;
  none : g.D.Disk.honest l.fn.store.disk → (n : ℕ) → n < l.place
      → ¬ (0 < start_epoch (now (g.D.Disk.trail l.fn.store.disk)).reads (part_base n));
}
