use Rattle.std.proofs.Common.{◌≡◌, ◌++◌, map}
use Rattle.desk_commands.specs.Lines.{bytes_of_lines}
use Rattle.desk_commands.proofs.LogLemmas.{kept_line}
use Rattle.desk_commands.proofs.log.directory_lines.Given as goal

-- the lines so far and those to come
abbrev pub invariant-loop-name : goal.invariant-loop-name
invariant-loop-name l = bytes_of_lines l.lines.items ++ map kept_line l.name-iterator ≡ map kept_line l.files.entries
