use Rattle.std.proofs.Common.{◌≡◌, ◌++◌, map, drop}
use Rattle.desktop_definitions.specs.Effects.{deleting_line}
use Rattle.desk_commands.specs.Lines.{bytes_of_lines}
use Rattle.desk_commands.proofs.stores.deleting_lines.Given as goal

-- the lines so far and those to come
abbrev pub invariant-loop-name : goal.invariant-loop-name
invariant-loop-name l =
    bytes_of_lines l.lines.items ++ map deleting_line (drop l.name-index l.names) ≡ map deleting_line l.names
