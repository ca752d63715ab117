-- Where a command is called, as it is read.
use Rattle.std.specs.Prelude.{◌≡◌, ℕ, ◌-◌, min, Bool, true, false, if◌then◌else◌, List, Option, Some}
use Rattle.std.proofs.Common.{sym, ap, ◌∙◌}
use Rattle.desktop_definitions.specs.declared.region.Region.{Region}
use Rattle.desktop_definitions.specs.Desktop.{KeptDesktop}
use Rattle.desktop_definitions.specs.Gesture.{region_at}
use Rattle.desktop_definitions.specs.Seen.{seen}
use Rattle.desk_core.proofs.PositionLemmas.{region_seen}
use Rattle.caret_moves.specs.declared.wish.CaretCommand.{CaretCommand}
use Rattle.text_frames.specs.Lines.{line_start}
use Rattle.caret_moves.specs.Steps.{end_of_line}
use Rattle.caret_moves.specs.Calling.{calls_in, calls_at, first_where, is_called, line_word}

pub calls_there : (characters : List ℕ) (d : KeptDesktop) (command : CaretCommand) (place meant : Option ℕ) (cell : ℕ × ℕ)
    (region : Region) → place ≡ meant → region ≡ region_at d cell.0 cell.1
    → calls_in (seen characters d) command meant cell region ≡ calls_at (seen characters d) command place cell
unfolding calls_at
calls_there characters d command place meant cell region place_is region_is =
    λ k. calls_in (seen characters d) command (sym place_is k) cell
    ((region_is ∙ sym (region_seen characters d cell.0 cell.1)) k)

-- the word that a line calls
module _ (bs : List ℕ) (w p : ℕ) where
  pub word_here : is_called bs p ≡ true → Some p ≡ line_word bs w p
  unfolding line_word
  word_here is = sym (ap (λ (b : Bool). if b then Some p
      else first_where (is_called bs) (line_start bs p) (min w (end_of_line bs p - line_start bs p))) is)

  pub word_after : (count : ℕ) → count ≡ min w (end_of_line bs p - line_start bs p) → is_called bs p ≡ false
      → first_where (is_called bs) (line_start bs p) count ≡ line_word bs w p
  unfolding line_word
  word_after count count_is is = ap (first_where (is_called bs) (line_start bs p)) count_is
      ∙ sym (ap (λ (b : Bool). if b then Some p
      else first_where (is_called bs) (line_start bs p) (min w (end_of_line bs p - line_start bs p))) is)
