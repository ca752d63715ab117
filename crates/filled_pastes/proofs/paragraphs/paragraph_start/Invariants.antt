use Rattle.std.proofs.Common.{◌≡◌}
use Rattle.text_frames.specs.Lines.{greatest_where}
use Rattle.filled_pastes.specs.Paragraphs.{begins_paragraph}
use Rattle.filled_pastes.proofs.paragraphs.paragraph_start.Given as goal

-- no place that was passed
abbrev pub invariant-loop-at : goal.invariant-loop-at
invariant-loop-at l = greatest_where (begins_paragraph l.bytes) l.place ≡ greatest_where (begins_paragraph l.bytes) l.at
