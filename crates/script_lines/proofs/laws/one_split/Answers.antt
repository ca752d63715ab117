use Rattle.script_lines.proofs.Splitting.{one_split, some_split}
use Rattle.script_lines.proofs.laws.one_split.Goals as goal

pub returns-clause-one : goal.returns-clause-one
returns-clause-one c = one_split

pub returns-clause-some : goal.returns-clause-some
returns-clause-some c = some_split
