use Rattle.std.proofs.Common.{◌≡◌}
use Rattle.sector_disk.specs.Trail.{now}
use Rattle.desktop_definitions.specs.Desktop.{Desktop}
use Rattle.past_pages.specs.Reading.{IsOnlyReadFrom}
use Rattle.desk_past.specs.declared.chain.TheConstants.{NO_EPOCH}
use Rattle.desk_past.proofs.Chaining.{HasSpans}
use Rattle.desk_past.proofs.chain.span_of.Given as goal

-- nothing is written, and moment k is one of the spans from here on
abbrev pub invariant-loop-epoch : goal.invariant-loop-epoch
invariant-loop-epoch g l = record {
  still : IsOnlyReadFrom g.D.Disk l.fn.store l.store;
  calm : g.D.Disk.failures l.store.disk ≡ g.D.Disk.failures l.fn.store.disk;
  there : g.D.Disk.honest l.fn.store.disk → (was : Desktop)
      → HasSpans (g.D.Disk.size l.fn.store.disk) (now (g.D.Disk.trail l.fn.store.disk)).reads l.fn.told NO_EPOCH l.k was
      → HasSpans (g.D.Disk.size l.fn.store.disk) (now (g.D.Disk.trail l.fn.store.disk)).reads l.told l.epoch l.k was;
}

abbrev pub decreases-loop-epoch : goal.decreases-loop-epoch
decreases-loop-epoch g l = l.epoch
