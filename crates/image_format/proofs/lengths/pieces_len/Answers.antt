use Rattle.std.proofs.Common.{arith}
use Rattle.image_format.proofs.Counting.{long_pieces}
use Rattle.image_format.proofs.lengths.pieces_len.Goals as goal

pub returns-clause-value : goal.returns-clause-value
returns-clause-value c = λ pieces same. let long = long_pieces pieces in omega (arith, long, same)
