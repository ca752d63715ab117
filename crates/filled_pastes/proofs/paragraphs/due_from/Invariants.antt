use Rattle.std.proofs.Common.{◌≡◌, length}
use Rattle.filled_pastes.specs.Paragraphs.{is_to_do}
use Rattle.filled_pastes.proofs.Downward.{first_from}
use Rattle.filled_pastes.proofs.paragraphs.due_from.Given as goal

-- nothing is due at a place that was passed
abbrev pub invariant-loop-place : goal.invariant-loop-place
invariant-loop-place l = first_from (is_to_do l.bytes l.width) (length l.bytes) l.start
    ≡ first_from (is_to_do l.bytes l.width) (length l.bytes) l.place
