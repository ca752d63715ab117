-- Where the line of the caret is broken in a text that a viewer shows in w columns, so that what is typed stays in sight.
use Rattle.std.specs.Prelude.{ℕ, ◌+◌, ◌-◌, ◌<◌, ◌≡◌, ◌≤◌, nat_lt, Bool, true, false, if◌then◌else◌, List, Option, Some, None}
use Rattle.text_frames.specs.Lines.{line_start}
use Rattle.text_frames.specs.Cells.{column_of}
use Rattle.caret_moves.specs.Runs.{run_start, begins_run}

-- Whether the line of p has room for a word of n characters more: the caret is in sight behind them.
abbrev pub has_room : List ℕ → ℕ → ℕ → ℕ → Bool
has_room bs w n p = nat_lt (column_of bs 0 p) (w - n)

-- whether the character before p is in sight, which may be a blank in the last column
abbrev pub is_near : List ℕ → ℕ → ℕ → Bool
is_near bs w p = nat_lt (column_of bs 0 (p - 1)) w

-- The word before p goes to the next line: the break comes behind the blank before it. A line without one isn't broken.
abbrev pub behind_start : ℕ → ℕ → Option ℕ
behind_start start place = if nat_lt start place then Some place else None

abbrev pub break_behind : List ℕ → ℕ → Option ℕ
break_behind bs p = behind_start (line_start bs p) (run_start false bs p)

-- Where the line of p is broken: if it has no room for such a word, and p doesn't stand further right than that.
unfoldable pub line_break : List ℕ → ℕ → ℕ → ℕ → Option ℕ
line_break bs w n p =
    if has_room bs w n p then None else (if is_near bs w p then break_behind bs p else None)

-- A break comes in the line of p, right behind what stands between words, and not behind p. So no word is broken, and no
-- blank is lost.
pub record IsBreak (bs : List ℕ) (p q : ℕ) : Type 0 where
  pub in_line : line_start bs p < q
  pub within : q ≤ p
  pub behind_blank : begins_run false bs q ≡ true
