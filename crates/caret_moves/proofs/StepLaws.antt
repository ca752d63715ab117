-- A step leads to a position of the text.
use Rattle.std.specs.Prelude.{ℕ, ◌-◌, ◌≤◌, nat_lt, Bool, true, false, if◌then◌else◌, List, length}
use Rattle.std.proofs.Common.{arith}
use Rattle.text_frames.specs.Lines.{line_start, begins_line, line_above}
use Rattle.text_frames.specs.Cells.{stands_by}
use Rattle.text_frames.proofs.Greatest.{greatest_within}
use Rattle.desk_input.specs.Lines.{start_below, line_below}
use Rattle.desk_input.proofs.LineLaws.{below_start_within}
use Rattle.caret_moves.specs.declared.wish.Step.{Step}
use Rattle.caret_moves.specs.declared.wish.Step.TheVariants as step
use Rattle.caret_moves.specs.Runs.{run_end, run_start}
use Rattle.caret_moves.specs.Steps.{column_cut, level_with, end_of_line, step_goal}
use Rattle.caret_moves.proofs.RunLaws.{end_within, start_within}

level_within : (bs : List ℕ) (w p start : ℕ) → level_with bs w p start ≤ length bs
level_within bs w p start = greatest_within (stands_by bs start (column_cut bs w 0 p) 0) (length bs)

pub line_end_within : (bs : List ℕ) (p : ℕ) → end_of_line bs p ≤ length bs
line_end_within bs p = elim (nat_lt p (start_below bs p)) as (λ (b : Bool).
    (if b then start_below bs p - 1 else length bs) ≤ length bs) [
      | true ↦ let low = below_start_within bs p in omega (arith, low)
      | false ↦ omega arith
    ]

pub stepped_within : (bs : List ℕ) (w h p : ℕ) (s : Step) → p ≤ length bs → step_goal bs w h p s ≤ length bs
unfolding step_goal
stepped_within bs w h p step.Left within = omega (arith, within)
stepped_within bs w h p step.Right within = omega arith
stepped_within bs w h p step.WordLeft within =
    let first = start_within true bs p in
    let second = start_within false bs (run_start true bs p) in omega (arith, first, second, within)
stepped_within bs w h p step.WordRight within = end_within true bs (run_end false bs p) (end_within false bs p within)
stepped_within bs w h p step.Up within = level_within bs w p (line_above bs 1 p)
stepped_within bs w h p step.Down within = level_within bs w p (line_below bs 1 p)
stepped_within bs w h p step.LineStart within =
    let low = greatest_within (begins_line bs) p in let is : line_start bs p ≤ p = low in omega (arith, is, within)
stepped_within bs w h p step.LineEnd within = line_end_within bs p
stepped_within bs w h p step.TextStart within = omega arith
stepped_within bs w h p step.TextEnd within = omega arith
stepped_within bs w h p step.PageUp within = level_within bs w p (line_above bs (h - 1) p)
stepped_within bs w h p step.PageDown within = level_within bs w p (line_below bs (h - 1) p)
