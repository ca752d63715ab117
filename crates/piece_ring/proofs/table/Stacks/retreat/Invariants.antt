use Rattle.std.proofs.Common.{◌≡◌, length, vec_capacity}
use Rattle.piece_ring.specs.Table.{AreSeamMarks}
use Rattle.piece_ring.proofs.table.Stacks.retreat.Given as goal

-- the marks are the same, by other stacks
abbrev pub invariant-loop-mark : goal.invariant-loop-mark
invariant-loop-mark l = record {
  table : AreSeamMarks l.chain.nodes l.self.front.items l.self.back.items;
  front : vec_capacity l.self.front ≡ vec_capacity l.fn.self.front;
  back : vec_capacity l.self.back ≡ vec_capacity l.fn.self.back;
  room : l.self.room ≡ l.fn.self.room;
}

abbrev pub decreases-loop-mark : goal.decreases-loop-mark
decreases-loop-mark l = length l.self.front.items
