-- A word of the caret's line is called, and the marker goes to the caret.
use Rattle.std.specs.Prelude.{◌≡◌, ℕ, ◌-◌, ◌<◌, ◌≤◌, min, Bool, true, false, if◌then◌else◌, List, [], ◌∷◌}
use Rattle.std.specs.Prelude.{length, Option, Some, None, IfSome, Result, IfOk}
use Rattle.std.specs.Option.{option_map, ok_or, unwrap_or}
use Rattle.std.proofs.Common.{refl, ap, arith}
use Rattle.event_bytes.specs.declared.event.Event.TheVariants.{Mark}
use Rattle.viewer_tracks.specs.Columns.{IsOnTop, placed_bottom, placed_top}
use Rattle.text_frames.specs.Lines.{line_start}
use Rattle.desktop_definitions.specs.Limits.{newest_version}
use Rattle.desktop_definitions.specs.Desktop.{Desktop}
use Rattle.desktop_definitions.specs.Viewers.{main_of}
use Rattle.desktop_definitions.specs.Change.{bytes_of}
use Rattle.desktop_definitions.specs.Commands.{after_call}
use Rattle.desktop_definitions.specs.Gesture.{is_on_display}
use Rattle.desktop_definitions.specs.Step.{step, step_in, raw, outcome_after, marked}
use Rattle.desktop_definitions.specs.Sound.{IsSound}
use Rattle.desk_input.specs.Scrolling.{LeadTo}
use Rattle.desk_input.proofs.ScrollLaws.{step_leads}
use Rattle.caret_moves.specs.declared.wish.WhyNot.TheVariants.{NotInSight}
use Rattle.caret_moves.specs.Steps.{end_of_line}
use Rattle.caret_moves.specs.Calling.{first_where, is_called, line_word, middle_press, mark_cell}
use Rattle.caret_moves.specs.Leading.{text_width, character_cell, marker_cell, word_led, line_led, CallsWord}
use Rattle.caret_moves.proofs.RowLaws.{start_low}
use Rattle.caret_moves.proofs.StepLaws.{line_end_within}
use Rattle.caret_moves.proofs.FirstLaws.{all_within}
use Rattle.caret_moves.proofs.CallLaws.{mark_done, mark_on}
use Rattle.caret_moves.proofs.ClickLaws.{cell_shown, shown_on, word_pressed}

-- the word stands in the text
word_within : (bs : List ℕ) (w p : ℕ) → p ≤ length bs → IfSome (line_word bs w p) (λ q. q ≤ length bs)
unfolding line_word
word_within bs w p within = elim (is_called bs p) as (λ (b : Bool). IfSome (if b then Some p
    else first_where (is_called bs) (line_start bs p) (min w (end_of_line bs p - line_start bs p))) (λ q. q ≤ length bs)) [
      | true ↦ within
      | false ↦ all_within (is_called bs) (line_start bs p) (min w (end_of_line bs p - line_start bs p)) (length bs)
          (let low = start_low bs p in let end = line_end_within bs p in omega (arith, low, end, within))
    ]

pressed_done : (d : Desktop) (cell : ℕ × ℕ) (r : Result Desktop ℕ) → raw newest_version d (middle_press cell) ≡ r
    → step d (middle_press cell) ≡ outcome_after d r
unfolding step step_in
pressed_done d cell r is = ap (outcome_after d) is

module _ (d : Desktop) (v : ℕ) (sound : IsSound d) (top : IsOnTop v d.columns) where
  word_leads : (q : ℕ) → q ≤ length (bytes_of (main_of d v))
      → IfOk (word_led d v (Some q)) (λ events. CallsWord d events v (Some q))
  word_leads q within = (elim (character_cell d v q) as (λ (o : Option (ℕ × ℕ)). character_cell d v q ≡ o
      → IfOk (ok_or (option_map (λ (cell : ℕ × ℕ). middle_press cell ∷ []) o) NotInSight)
      (λ events. CallsWord d events v (Some q))) [
        | None ↦ λ is. tt
        | Some cell ↦ λ is. (
          refl,
          pressed_done d cell (after_call newest_version d v false q)
              (word_pressed d v q cell sound.shaped.places.columns_hold top (cell_shown d v q cell within is)),
        )
      ]) refl

  by_word : (o : Option ℕ) → IfSome o (λ q. q ≤ length (bytes_of (main_of d v)))
      → IfOk (word_led d v o) (λ events. CallsWord d events v o)
  by_word None low = tt
  by_word (Some q) low = word_leads q low

  module _ (p : ℕ) (within : p ≤ length (bytes_of (main_of d v))) where
    pub line_calls : IfOk (line_led d v p)
        (λ events. CallsWord d events v (line_word (bytes_of (main_of d v)) (text_width d v) p))
    unfolding line_led
    line_calls = by_word (line_word (bytes_of (main_of d v)) (text_width d v) p)
        (word_within (bytes_of (main_of d v)) (text_width d v) p within)

    cell_on : placed_bottom d.columns v < placed_top d.columns v
        → is_on_display (marker_cell d v p).0 (marker_cell d v p).1 ≡ true
    unfolding marker_cell
    cell_on some = (elim (character_cell d v p) as (λ (o : Option (ℕ × ℕ)). character_cell d v p ≡ o
        → is_on_display (unwrap_or o (mark_cell d v)).0 (unwrap_or o (mark_cell d v)).1 ≡ true) [
          | None ↦ λ is. mark_on d v sound top some
          | Some cell ↦ λ is. shown_on d v p cell sound.shaped.places.columns_hold top (cell_shown d v p cell within is)
        ]) refl

    pub mark_leads : placed_bottom d.columns v < placed_top d.columns v
        → LeadTo d (Mark (marker_cell d v p).0 (marker_cell d v p).1 ∷ [])
        (marked d (marker_cell d v p).0 (marker_cell d v p).1)
    mark_leads some =
        let x : ℕ = (marker_cell d v p).0 in
        let y : ℕ = (marker_cell d v p).1 in
        step_leads d (marked d x y) (marked d x y) (Mark x y) [] (mark_done d sound x y (cell_on some)) refl
