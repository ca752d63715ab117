use Rattle.past_pages.specs.Reading.{IsOnlyReadFrom}
use Rattle.all_moments.specs.Parts.{AreAllMomentsOf}
use Rattle.all_moments.proofs.all.AllMoments.come_forth.Given as goal

-- the store was only read, and the part at hand is one of its past
abbrev pub invariant-loop-part : goal.invariant-loop-part
invariant-loop-part g l = record {
  still : IsOnlyReadFrom g.D.Disk l.fn.store l.store;
  are : AreAllMomentsOf g.D.Disk l.fn.self l.fn.store → AreAllMomentsOf g.D.Disk l.self l.store;
}
