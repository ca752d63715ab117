use Rattle.std.proofs.Common.{◌≡◌, ◌+◌, ◌<◌, ◌^◌}
use Rattle.image_format.specs.Fitting.{FitsPiece, less, length_of_pieces}
use Rattle.image_format.specs.Reading.{piece_at}
use Rattle.image_format.proofs.Loop.{IsAt}
use Rattle.image_format.proofs.reading.pieces.many_pieces.Given as goal

abbrev pub invariant-loop : goal.invariant-loop
invariant-loop g l = record {
  at : IsAt g.S.ByteSource (piece_at l.base.written) (FitsPiece l.base.written) less l.count l.counter l.room l.left
      (g.H.Holder.held l.pieces) l.fn.source l.source;
  sum : length_of_pieces (g.H.Holder.held l.pieces) + l.left ≡ l.room;
  small : l.room < 2 ^ 32;
}
