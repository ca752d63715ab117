use Rattle.std.proofs.Common.{◌≡◌, List}
use Rattle.std.specs.Prelude.{IfSome}
use Rattle.sector_disk.specs.Trail.{now}
use Rattle.past_pages.specs.Page.{Page}
use Rattle.past_pages.specs.Reading.{IsOnlyReadFrom}
use Rattle.desk_past.specs.Beginning.{HasStartRoom}
use Rattle.desk_past.specs.Chain.{AreSpans}
use Rattle.desk_past.specs.Going.{start_epoch}
use Rattle.desk_past.specs.Past.{Start}
use Rattle.desk_past.specs.declared.chain.TheConstants.{NO_EPOCH}
use Rattle.desk_past.proofs.Firsts.{ArePassed}
use Rattle.desk_past.proofs.chain.first_of.Given as goal

-- nothing is written, and the spans were passed up to the start that was found last
abbrev pub invariant-loop-epoch : goal.invariant-loop-epoch
invariant-loop-epoch g l = record {
  still : IsOnlyReadFrom g.D.Disk l.fn.store l.store;
  calm : g.D.Disk.failures l.store.disk ≡ g.D.Disk.failures l.fn.store.disk;
  inside : IfSome l.first (λ base. HasStartRoom (g.D.Disk.size l.fn.store.disk) base);
  found : g.D.Disk.honest l.fn.store.disk
      → IfSome l.first (λ base. l.epoch ≡ start_epoch (now (g.D.Disk.trail l.fn.store.disk)).reads base);
  passed : g.D.Disk.honest l.fn.store.disk → (spans : List (Start × List Page))
      → (are : AreSpans (g.D.Disk.size l.fn.store.disk) (now (g.D.Disk.trail l.fn.store.disk)).reads NO_EPOCH l.fn.told
      spans)
      → ArePassed (g.D.Disk.size l.fn.store.disk) (now (g.D.Disk.trail l.fn.store.disk)).reads l.epoch l.told l.first
      NO_EPOCH
      l.fn.told spans are;
}

abbrev pub decreases-loop-epoch : goal.decreases-loop-epoch
decreases-loop-epoch g l = l.epoch
