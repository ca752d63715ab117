use Rattle.std.proofs.Common.{◌-◌}
use Rattle.past_pages.specs.Reading.{IsOnlyReadFrom}
use Rattle.past_moments.specs.Moments.{AreMomentsOf, IsMarkOf}
use Rattle.past_moments.proofs.moments.Moments.go_whole.Given as goal

-- nothing is written to the store, and the mark and those that are kept show what it was
abbrev pub invariant-loop-alloc : goal.invariant-loop-alloc
invariant-loop-alloc g l = record {
  still : IsOnlyReadFrom g.D.Disk l.fn.store l.store;
  mark : AreMomentsOf g.D.Disk l.fn.self l.fn.store → IsMarkOf g.D.Disk l.fn.mark l.fn.store
      → IsMarkOf g.D.Disk l.mark l.fn.store;
  are : AreMomentsOf g.D.Disk l.fn.self l.fn.store → IsMarkOf g.D.Disk l.fn.mark l.fn.store
      → AreMomentsOf g.D.Disk l.self l.fn.store;
}

abbrev pub decreases-loop-alloc : goal.decreases-loop-alloc
decreases-loop-alloc g l = l.self.extent.end - l.mark.place.at
