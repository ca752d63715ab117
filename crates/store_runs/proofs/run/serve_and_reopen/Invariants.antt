use Rattle.std.proofs.Common.{◌≡◌, ◌≤◌, [], length, take, false}
use Rattle.sector_disk.specs.Trail.{LeavesOnly}
use Rattle.desktop_definitions.specs.Step.{steps}
use Rattle.desk_journal.specs.Device.{IsSameDevice}
use Rattle.desk_journal.specs.Prefixes.{MeansPrefix}
use Rattle.store_runs.specs.Reopening.{all_counted, counts_of, events_in}
use Rattle.desk_journal.specs.View.{IsDurable}
use Rattle.store_runs.proofs.run.serve_and_reopen.Given as goal

-- the calls so far were made, and each was answered Ok
abbrev pub invariant-loop-call : goal.invariant-loop-call
invariant-loop-call g l = record {
  within : l.call-index ≤ length l.calls;
  usable : l.store.must_reopen ≡ false;
  durable : IsDurable g.D.Disk l.store;
  device : IsSameDevice g.D.Disk l.fn.store.disk l.store.disk;
  calm : g.D.Disk.failures l.store.disk ≡ g.D.Disk.failures l.fn.store.disk;
  counts : counts_of l.store ≡ all_counted (take l.call-index l.calls) (counts_of l.fn.store);
  so_far : g.D.Disk.honest l.fn.store.disk
      → l.store.desktop ≡ steps l.fn.store.desktop (events_in (take l.call-index l.calls));
  images : g.D.Disk.honest l.fn.store.disk → LeavesOnly (g.D.Disk.trail l.fn.store.disk) (g.D.Disk.trail l.store.disk)
      (MeansPrefix (g.D.Disk.size l.fn.store.disk) l.fn.store.desktop [] (events_in l.calls));
}
