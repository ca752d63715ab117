use Rattle.std.proofs.Common.{◌≡◌, ◌≤◌, ◌+◌, ◌*◌, drop}
use Rattle.desk_commands.specs.Lines.{length_of_lines}
use Rattle.desk_commands.proofs.log.total.Given as goal

-- what was counted and what is to come; a line has 64 at most
abbrev pub invariant-loop-line : goal.invariant-loop-line
invariant-loop-line l = record {
  summed : l.sum + length_of_lines (drop l.line-index l.lines) ≡ length_of_lines l.lines;
  few : l.sum ≤ 64 * l.line-index;
}
