use Rattle.std.proofs.Common.{◌≡◌, ◌++◌, length, Some}
use Rattle.script_lines.specs.Answer.{show_lines}
use Rattle.script_lines.proofs.answer.text_bytes.Given as goal

-- the lines so far, and those of what is left
abbrev pub invariant-loop-first : goal.invariant-loop-first
invariant-loop-first l = l.bytes.items ++ show_lines (Some l.rest) ≡ show_lines (Some l.fn.text)

abbrev pub decreases-loop-first : goal.decreases-loop-first
decreases-loop-first l = length l.rest
