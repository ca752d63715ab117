use Rattle.std.proofs.Common.{◌≡◌, length, vec_capacity}
use Rattle.piece_ring.specs.Table.{IsParted}
use Rattle.piece_ring.proofs.table.Stacks.forget.Given as goal

abbrev pub invariant-loop : goal.invariant-loop
invariant-loop l = record {
  parted : IsParted l.chain.nodes l.self.front.items l.self.back.items;
  same : l.self.back.items ≡ l.fn.self.back.items;
  front : vec_capacity l.self.front ≡ vec_capacity l.fn.self.front;
  back : vec_capacity l.self.back ≡ vec_capacity l.fn.self.back;
  room : l.self.room ≡ l.fn.self.room;
}

abbrev pub decreases-loop : goal.decreases-loop
decreases-loop l = length l.self.front.items
