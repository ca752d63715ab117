use Rattle.std.proofs.Common.{◌≡◌, ◌++◌}
use Rattle.seen_desktops.specs.Shape.{kept_sizes}
use Rattle.seen_desktops.proofs.shape.text_sizes.Given as goal

-- the sizes so far, and those to come
abbrev pub invariant-loop-number : goal.invariant-loop-number
invariant-loop-number l = l.sizes.items ++ kept_sizes l.number-iterator ≡ kept_sizes l.texts.entries
