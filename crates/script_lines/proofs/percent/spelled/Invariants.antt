use Rattle.std.proofs.Common.{◌≡◌, ◌≤◌, length}
use Rattle.script_lines.specs.Percent.{meant}
use Rattle.script_lines.proofs.Escapes.{onto}
use Rattle.script_lines.proofs.percent.spelled.Given as goal

abbrev pub invariant-loop-first : goal.invariant-loop-first
invariant-loop-first l = (meant l.text ≡ onto l.bytes.items (meant l.rest)) × (length l.bytes.items ≤ 900)

abbrev pub decreases-loop-first : goal.decreases-loop-first
decreases-loop-first l = length l.rest
