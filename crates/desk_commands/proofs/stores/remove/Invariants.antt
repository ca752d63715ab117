use Rattle.std.proofs.Common.{◌≡◌, fold, drop}
use Rattle.desktop_definitions.specs.Effects.{without_file}
use Rattle.desk_commands.proofs.stores.remove.Given as goal

-- the names to come leave what all names do
abbrev pub invariant-loop-name : goal.invariant-loop-name
invariant-loop-name l =
    fold without_file l.files.entries (drop l.name-index l.names) ≡ fold without_file l.initial.files.entries l.names
