use Rattle.std.proofs.Common.{◌≡◌, Some, Ok}
use Rattle.desk_journal.specs.View.{IsDurable}
use Rattle.desk_sitting.specs.Doing.{DoesPress, seat_of}
use Rattle.desk_sitting.specs.Sittings.{accepted_in, after_task}
use Rattle.desk_sitting.proofs.Carrying.{left_in}
use Rattle.desk_sitting.proofs.sitting.Sitting.carry_out.Given as goal

-- so many plans are done, and this is left
abbrev pub invariant-loop-count : goal.invariant-loop-count
invariant-loop-count g l = record {
  takes : DoesPress g.D.Disk {T = Unit} (accepted_in l._count (Some l.fn.task) (seat_of l.fn.self l.fn.store))
      (after_task l._count (Some l.fn.task) (seat_of l.fn.self l.fn.store)) (Ok tt) l.self l.fn.store l.store;
  left : g.D.Disk.honest l.fn.store.disk → IsDurable g.D.Disk l.fn.store
      → l.left ≡ left_in l._count (Some l.fn.task) (seat_of l.fn.self l.fn.store);
}
