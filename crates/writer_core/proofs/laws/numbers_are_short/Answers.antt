use Rattle.std.specs.Fmt.{signed_decimal}
use Rattle.writer_core.proofs.Lengths.{length-signed_decimal-le, length-right_aligned-le}
use Rattle.writer_core.proofs.laws.numbers_are_short.Goals as goal

pub returns : goal.returns
returns c width value h = length-right_aligned-le width 20 (signed_decimal value) (length-signed_decimal-le value h)
