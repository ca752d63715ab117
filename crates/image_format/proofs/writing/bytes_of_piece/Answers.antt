use Rattle.std.proofs.Common.{◌∷◌, [], slice_index_or}
use Rattle.image_format.proofs.writing.bytes_of_piece.Goals as goal

pub returns : goal.returns
returns c = λ i.
    let off = c.to_be_bytes.ensures i in
    let len = c.to_be_bytes-2.ensures i in
    slice_index_or off 0 0 ∷ slice_index_or off 1 0 ∷ slice_index_or off 2 0 ∷ slice_index_or off 3 0
    ∷ slice_index_or len 0 0 ∷ slice_index_or len 1 0 ∷ slice_index_or len 2 0 ∷ slice_index_or len 3 0
    ∷ c.args.piece.look.font ∷ c.args.piece.look.colour ∷ c.offset_byte.ensures i ∷ 0 ∷ []
