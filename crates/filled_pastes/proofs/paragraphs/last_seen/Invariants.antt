use Rattle.std.proofs.Common.{◌≡◌}
use Rattle.text_frames.specs.Lines.{greatest_where}
use Rattle.filled_pastes.specs.Paragraphs.{is_visible}
use Rattle.filled_pastes.proofs.paragraphs.last_seen.Given as goal

-- no place that was passed
abbrev pub invariant-loop-at : goal.invariant-loop-at
invariant-loop-at l = greatest_where (is_visible l.bytes l.width) l.place ≡ greatest_where (is_visible l.bytes l.width) l.at
