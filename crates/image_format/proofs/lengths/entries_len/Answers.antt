use Rattle.std.proofs.Common.{arith}
use Rattle.image_format.proofs.Counting.{long_entries}
use Rattle.image_format.proofs.lengths.entries_len.Goals as goal

pub returns-clause-value : goal.returns-clause-value
returns-clause-value c = λ entries same. let long = long_entries entries in omega (arith, long, same)
