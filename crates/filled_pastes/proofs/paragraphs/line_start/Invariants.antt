use Rattle.std.proofs.Common.{◌≡◌}
use Rattle.text_frames.specs.Lines.{line_start}
use Rattle.filled_pastes.proofs.paragraphs.line_start.Given as goal

-- no place that was passed
abbrev pub invariant-loop-at : goal.invariant-loop-at
invariant-loop-at l = line_start l.bytes l.place ≡ line_start l.bytes l.at
