-- The beginning of a text in one look.
use Rattle.std.specs.Prelude.{ℕ, Bool, not, List, map}
use Rattle.std.specs.List.{position_or_len}
use Rattle.piece_ring.specs.declared.piece.Look.{Look}
use Rattle.piece_ring.specs.Text.{Text}
use Rattle.script_lines.specs.Answer.{is_same_look}

-- the bytes of characters
abbrev pub stretch_bytes : Text ℕ → List ℕ
stretch_bytes text = map (λ (c : ℕ × Look). c.0) text

abbrev pub is_in_another_look : Look → ℕ × Look → Bool
is_in_another_look look c = not (is_same_look look c.1)

-- how many characters at the front have the look
abbrev pub count_in : Look → Text ℕ → ℕ
count_in look text = position_or_len (is_in_another_look look) text
