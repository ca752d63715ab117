use Rattle.std.proofs.Common.{◌≡◌, ◌++◌}
use Rattle.seen_desktops.specs.Shape.{kept_sizes}
use Rattle.seen_desktops.proofs.shape.file_sizes.Given as goal

-- the sizes so far, and those to come
abbrev pub invariant-loop-name : goal.invariant-loop-name
invariant-loop-name l = l.sizes.items ++ kept_sizes l.name-iterator ≡ kept_sizes l.files.entries
