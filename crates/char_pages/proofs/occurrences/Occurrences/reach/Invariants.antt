use Rattle.std.proofs.Common.{◌≡◌, ℕ, ◌+◌, ◌-◌, length}
use Rattle.sector_disk.specs.Trail.{Content}
use Rattle.char_pages.specs.Found.{AreFound, AreKnownBelow}
use Rattle.char_pages.proofs.occurrences.Occurrences.reach.Given as goal

abbrev pub invariant-loop-self : goal.invariant-loop-self
invariant-loop-self l = record {
  wanted : l.self.wanted ≡ l.fn.self.wanted;
  found : (c : Content) (base : ℕ) → AreFound c base l.fn.self → AreFound c base l.self;
  below : (many : ℕ) → AreKnownBelow many l.fn.self → AreKnownBelow many l.self;
}

abbrev pub decreases-loop-self : goal.decreases-loop-self
decreases-loop-self l = l.fn.n + 1 - length l.self.known.items
