use Rattle.std.proofs.Common.{◌≡◌, ◌+◌}
use Rattle.piece_ring.specs.Place.{IsSeam}
use Rattle.piece_ring.proofs.table.walk.Given as goal

abbrev pub invariant-loop : goal.invariant-loop
invariant-loop l = record {
  here : IsSeam l.chain.nodes l.seam;
  index : l.seam.index ≡ l.fn.from.index + l.counter;
}
