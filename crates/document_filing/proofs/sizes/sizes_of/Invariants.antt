use Rattle.std.proofs.Common.{◌≡◌, ◌++◌}
use Rattle.document_filing.proofs.Sums.{kept_sizes}
use Rattle.document_filing.proofs.sizes.sizes_of.Given as goal

-- the sizes so far and those to come
abbrev pub invariant-loop-name : goal.invariant-loop-name
invariant-loop-name l = l.sizes.entries ++ kept_sizes l.name-iterator ≡ kept_sizes l.files.entries
