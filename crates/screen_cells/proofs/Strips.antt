-- What a track shows in a row is what its strip does.
use Rattle.std.proofs.Common.{◌≡◌, ℕ, ◌+◌, ◌-◌, ◌<◌, ◌≤◌, Bool, true, false, ◌==◌, List, length, map, Option, Some}
use Rattle.std.proofs.Common.{None, option_map, slice_get, ap, sym, subst, ◌∙◌, arith}
use Rattle.std.specs.Prelude.{if◌then◌else◌, All}
use Rattle.std.proofs.lemmas.Option.{slice_get-map, slice_get_past, slice_get_within, get_or_from_slice_get}
use Rattle.std.proofs.lemmas.List.Folds.{find_at}
use Rattle.viewer_tracks.proofs.Positions.{position_or_len_map}
use Rattle.std.specs.List.{find, position_or_len}
use Rattle.std.proofs.lemmas.Bool.Decides.{nat_tests}
use Rattle.piece_ring.specs.declared.piece.Look.{Look}
use Rattle.text_frames.specs.declared.frame.FrameSelection.{FrameSelection}
use Rattle.text_frames.specs.Row.{row_cells}
use Rattle.screen_pictures.specs.Picture.{Painted, bar_cell, menu_cell, text_cell, frame_cell, viewer_cell, caret_at}

-- a row below the menu
pub frame_shown : (v : Painted) (width bottom top y column row : ℕ) (line : List (ℕ × Look × ℕ))
    (caret : Option (ℕ × ℕ)) (selection : Option FrameSelection) → y + 1 < top
    → row ≡ top - 2 - y → 0 < width → line ≡ row_cells width v.main v.frame.org row
    → caret ≡ caret_at (width - 1) (top - bottom - 1) v.main v.frame.org v.frame.caret → selection ≡ v.frame.selection
    → (if column == 0 then bar_cell else text_cell (width - 1) line caret selection (column - 1) row)
    ≡ viewer_cell v width bottom top column y
frame_shown v width bottom top y column row line caret selection under row_is some line_is caret_is selection_is =
    let below : (top == y + 1) ≡ false = grind (arith, nat_tests) in
    let whole : width ≡ (width - 1) + 1 = omega (arith, some) in
    let line_there : line ≡ row_cells ((width - 1) + 1) v.main v.frame.org (top - 2 - y) =
    line_is ∙ (λ i. row_cells (whole i) v.main v.frame.org (row_is i)) in
    (λ i. if column == 0 then bar_cell
    else text_cell (width - 1) (line_there i) (caret_is i) (selection_is i) (column - 1) (row_is i))
    ∙ sym (ap (λ b. if b then menu_cell (row_cells width v.menu 0 0) column
    else frame_cell v (width - 1) (top - bottom - 1) column (top - 2 - y)) below)

-- the menu's row
pub menu_shown : (v : Painted) (width bottom top y column : ℕ) (line : List (ℕ × Look × ℕ)) → y + 1 ≡ top
    → line ≡ row_cells width v.menu 0 0 → menu_cell line column ≡ viewer_cell v width bottom top column y
menu_shown v width bottom top y column line at_top line_is =
    let there : (top == y + 1) ≡ true = grind (arith, nat_tests) in
    ap (λ l. menu_cell l column) line_is
    ∙ sym (ap (λ b. if b then menu_cell (row_cells width v.menu 0 0) column
    else frame_cell v (width - 1) (top - bottom - 1) column (top - 2 - y)) there)

-- the first that passes, of what f makes of a list
module _ {X Y : Type 0} (p : Y → Bool) (f : X → Y) (xs : List X) where
  found_there : find p (map f xs) ≡ option_map f (slice_get xs (position_or_len (λ x. p (f x)) xs))
  found_there = find_at p (map f xs) ∙ ap (slice_get (map f xs)) (position_or_len_map f p xs)
      ∙ slice_get-map f xs (position_or_len (λ x. p (f x)) xs)

  pub found_first : (i : ℕ) (x : X) → i ≡ position_or_len (λ x. p (f x)) xs → slice_get xs i ≡ Some x
      → find p (map f xs) ≡ Some (f x)
  found_first i x is there =
      found_there ∙ ap (λ k. option_map f (slice_get xs k)) (sym is) ∙ ap (option_map f) there

  pub found_none : (i : ℕ) → i ≡ position_or_len (λ x. p (f x)) xs → length xs ≤ i → find p (map f xs) ≡ None
  found_none i is past =
      found_there ∙ ap (λ k. option_map f (slice_get xs k)) (sym is) ∙ ap (option_map f) (slice_get_past xs i past)

-- what holds of all holds of the one at an index
pub all_got : {X : Type 0} (P : X → Type 0) (xs : List X) (i : ℕ) (x : X) → slice_get xs i ≡ Some x → All P xs → P x
all_got P xs i x there all = subst P (get_or_from_slice_get xs i x x there) (all i x (slice_get_within xs i x there))
