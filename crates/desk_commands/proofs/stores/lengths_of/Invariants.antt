use Rattle.std.proofs.Common.{◌≡◌, ◌+◌, sum_by, drop}
use Rattle.desktop_definitions.specs.DeskWords.{kept_size}
use Rattle.desk_commands.proofs.stores.lengths_of.Given as goal

-- what was counted and what is to come
abbrev pub invariant-loop-name : goal.invariant-loop-name
invariant-loop-name l =
    l.sum + sum_by (kept_size l.files.entries) (drop l.name-index l.names) ≡ sum_by (kept_size l.files.entries) l.names
