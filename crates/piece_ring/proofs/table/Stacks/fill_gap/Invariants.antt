use Rattle.std.proofs.Common.{◌≡◌, ◌+◌, ◌-◌, ◌*◌, ◌/◌, ◌≤◌, length, vec_capacity}
use Rattle.piece_ring.specs.Place.{IsSeam}
use Rattle.piece_ring.specs.Table.{IsParted, top}
use Rattle.piece_ring.proofs.table.Stacks.fill_gap.Given as goal

-- `mark` is the last one before the window, and the marks that are missing are few enough
abbrev pub invariant-loop-mark : goal.invariant-loop-mark
invariant-loop-mark l = record {
  parted : IsParted l.chain.nodes l.self.front.items l.self.back.items;
  here : IsSeam l.chain.nodes l.mark;
  last : l.mark.index ≡ top 0 l.self.front.items;
  end : l.end + top 0 l.self.back.items ≡ l.count;
  order : l.mark.index ≤ l.end;
  least : 16 * (length l.self.front.items + length l.self.back.items + (l.end - l.mark.index) / 64) ≤ l.count;
  front : vec_capacity l.self.front ≡ vec_capacity l.fn.self.front;
  back : vec_capacity l.self.back ≡ vec_capacity l.fn.self.back;
  room : l.self.room ≡ l.fn.self.room;
}

abbrev pub decreases-loop-mark : goal.decreases-loop-mark
decreases-loop-mark l = l.end - l.mark.index
