use Rattle.std.proofs.Common.{◌++◌, length}
use Rattle.std.specs.List.{flat_map}
use Rattle.piece_ring.specs.Flat.{flat}
use Rattle.desktop_definitions.specs.Looks.{AreLooks}
use Rattle.image_format.specs.Image.{pieces_bytes, piece_bytes, AreSome}
use Rattle.image_format.proofs.Putting.{IsLeft}
use Rattle.image_format.proofs.writing.put_pieces.Given as goal

abbrev pub invariant-loop-piece : goal.invariant-loop-piece
invariant-loop-piece g l = record {
  looks : AreLooks (flat l.pieces.left);
  some : AreSome l.pieces.left → AreSome l.fn.pieces.left;
  left : IsLeft g.K.ByteSink (pieces_bytes l.fn.pieces.left) (l.block.items ++ flat_map piece_bytes l.pieces.left)
      l.fn.sink l.sink;
}

abbrev pub decreases-loop-piece : goal.decreases-loop-piece
decreases-loop-piece g l = length l.pieces.left
