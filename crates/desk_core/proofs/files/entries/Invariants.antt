use Rattle.std.proofs.Common.{◌≡◌, ◌++◌, map}
use Rattle.desk_core.proofs.ListLemmas.{kept_entry}
use Rattle.desk_core.proofs.files.entries.Given as goal

-- the entries so far and those to come
abbrev pub invariant-loop-name : goal.invariant-loop-name
invariant-loop-name l = l.entries.items ++ map kept_entry l.name-iterator ≡ map kept_entry l.files.entries
