use Rattle.std.proofs.Common.{◌≡◌, ◌++◌, take}
use Rattle.script_lines.specs.Answer.{escaped_answer}
use Rattle.script_lines.specs.Stretch.{stretch_bytes}
use Rattle.script_lines.proofs.answer.push_shown.Given as goal

abbrev pub invariant-loop-character : goal.invariant-loop-character
invariant-loop-character l = l.text.items ≡ l.fn.text.items ++ escaped_answer (stretch_bytes (take l.character-index l.characters))
