-- A sound desktop and an event give a sound desktop: each row of the tables leaves it in shape.
use Rattle.std.specs.Prelude.{◌≡◌, ◌<◌, ◌≤◌, ℕ, zero, suc, ◌+◌, ◌-◌, ◌/◌, ◌*◌, ◌==◌, ◌&&◌, nat_le, nat_lt, min, max}
use Rattle.std.specs.Prelude.{Bool}
use Rattle.std.specs.Prelude.{true, false, cond, if◌then◌else◌, List, [], ◌∷◌, length, take, drop, fold, map}
use Rattle.std.specs.Prelude.{codes, Option, Some, None, is_some, IfSome, IsTrue, Result, Ok, Err, IfOk}
use Rattle.std.specs.Option.{unwrap_or, option_map}
use Rattle.std.specs.List.{find, list_all, range_with_len}
use Rattle.std.specs.Map.{keys_of}
use Rattle.std.specs.Str.{bytes_eq}
use Rattle.std.specs.BTreeMap.{is_at}
use Rattle.std.proofs.Common.{refl, sym, ap, subst, ◌∙◌, arith}
use Rattle.std.proofs.lemmas.Nat.{mul-le, mul-add-lt, div_below}
use Rattle.std.proofs.lemmas.Bool.{ltb-true, eqb-false, and_parts, and_from, le-leb}
use Rattle.std.proofs.lemmas.List.{length-take, length-drop, length-map}
use Rattle.std.proofs.lemmas.List.Sums.{sum_by_more, sum_by-take-le}
use Rattle.std.proofs.lemmas.Map.Views.{IfSome-lookup_from_All}
use Rattle.std.proofs.lemmas.Slice.Eq.{bytes_eq-Decides}
use Rattle.event_bytes.specs.Bytes.{begins, is_letter, is_digit, is_name_byte, is_name}
use Rattle.event_bytes.specs.Spelling.{IsEvent}
use Rattle.event_bytes.specs.declared.event.Event.{Event}
use Rattle.event_bytes.specs.declared.event.Event.TheVariants.{Typed, Key as Pressed, Mark, Point, File}
use Rattle.event_bytes.specs.declared.keys.Key.{Key}
use Rattle.event_bytes.specs.declared.keys.Key.TheVariants.{Back, Copy, Paste, Cut, Escape}
use Rattle.event_bytes.specs.declared.keys.Keys.{Keys}
use Rattle.event_bytes.specs.declared.keys.Keys.TheVariants.{Left, LeftMiddle, LeftRight, Middle}
use Rattle.event_bytes.specs.declared.keys.Keys.TheVariants.{MiddleLeft, MiddleRight, Right, RightLeft, RightMiddle}
use Rattle.piece_ring.specs.declared.piece.Look.{Look}
use Rattle.piece_ring.specs.Text.{Text}
use Rattle.readers_scanners.specs.Form.{form, number_form, number_symbol, quote_form, closes, longest_form}
use Rattle.readers_scanners.specs.Form.{first_symbol}
use Rattle.readers_scanners.specs.Form.{after_blanks, symbol}
use Rattle.readers_scanners.specs.Symbol.{symbol_bytes, signed_number, greatest_size}
use Rattle.readers_scanners.specs.Bytes.{quote, minus, is_string_byte, numeral}
use Rattle.readers_scanners.specs.declared.symbol.Symbol.{Symbol}
use Rattle.readers_scanners.specs.declared.symbol.Symbol.TheVariants.{Name, Str, Int, Special, Invalid}
use Rattle.command_table.specs.Parameters.{name_in}
use Rattle.command_table.specs.Deciding.{can_be_deleted}
use Rattle.command_table.specs.declared.command.Command.{Command}
use Rattle.command_table.specs.declared.command.Command.TheVariants.{EditOpen, SystemOpen, SystemOpenLog, SystemClose}
use Rattle.command_table.specs.declared.command.Command.TheVariants.{SystemRecall, SystemCopy, SystemClear}
use Rattle.command_table.specs.declared.command.Command.TheVariants.{SystemDirectory, SystemDeleteFiles}
use Rattle.command_table.specs.declared.command.Command.TheVariants.{SystemSetFont, SystemSetColor, SystemSetOffset}
use Rattle.command_table.specs.declared.command.Command.TheVariants.{EditChangeFont, EditChangeColor}
use Rattle.command_table.specs.declared.command.Command.TheVariants.{EditChangeOffset, EditStore, EditSearch}
use Rattle.command_table.specs.declared.command.Command.TheVariants.{EditRecall, SystemCollect, SystemGrow}
use Rattle.text_frames.specs.Cells.{position_at, stands_by, row_of}
use Rattle.text_frames.specs.Lines.{line_start, begins_line}
use Rattle.text_frames.proofs.Greatest.{greatest_within}
use Rattle.viewer_tracks.specs.declared.display.Track.{Track}
use Rattle.viewer_tracks.specs.declared.display.Track.TheVariants.{System}
use Rattle.viewer_tracks.specs.declared.display.TheConstants.{ROWS, COLUMNS, DEPTH}
use Rattle.viewer_tracks.specs.Display.{left_of}
use Rattle.viewer_tracks.specs.Viewers.{Entry, IsTrack, bottom_of, top_of, entry_of}
use Rattle.viewer_tracks.specs.Columns.{Columns, IsColumns, IsPlaced, IsOnTop, stack_of, shown_track, track_of}
use Rattle.viewer_tracks.specs.Columns.{placed_top, placed_bottom, seen_at, after_open, columns_changed}
use Rattle.viewer_tracks.specs.Columns.{after_close, replaced_at, allocated, StandsAt}
use Rattle.viewer_tracks.proofs.StackLemmas.{topmost_track}
use Rattle.viewer_tracks.proofs.ColumnLemmas.{stack_in, open_keeps, cover_keeps, change_keeps, close_keeps}
use Rattle.viewer_tracks.proofs.PlacedLemmas.{open_places, change_places, close_places, seen_placed, shown_stands}
use Rattle.desktop_definitions.specs.declared.look_change.LookChange.{LookChange}
use Rattle.desktop_definitions.specs.declared.region.Region.{Region}
use Rattle.desktop_definitions.specs.declared.region.Region.TheVariants.{Filler, Menu, Bar, Body}
use Rattle.desktop_definitions.specs.declared.call.Call.{Call}
use Rattle.desktop_definitions.specs.declared.viewer.Caret.{Caret}
use Rattle.desktop_definitions.specs.declared.viewer.ClosedViewer.{ClosedViewer}
use Rattle.desktop_definitions.specs.declared.viewer.Selection.{Selection}
use Rattle.desktop_definitions.specs.Limits.{most_pattern, too_low, too_deep, no_file, too_many_files}
use Rattle.desktop_definitions.specs.Limits.{wrong_symbol, no_selection, not_found, no_caret, outside}
use Rattle.desktop_definitions.specs.Limits.{bad_value, no_command, full, no_viewer as viewer_missing}
use Rattle.desktop_definitions.specs.Needs.{needs, unless, given}
use Rattle.desktop_definitions.specs.Tables.{name_cmp, file_put, has_file_room}
use Rattle.desktop_definitions.specs.Desktop.{Desktop, file_of, characters_held}
use Rattle.desktop_definitions.specs.Viewers.{viewer_of, text_of}
use Rattle.desktop_definitions.specs.Viewers.{main_of, menu_of, main_length}
use Rattle.desktop_definitions.specs.Viewers.{newest, selected, rows_of, with_org, with_caret, unselected}
use Rattle.desktop_definitions.specs.Viewers.{with_selection}
use Rattle.desktop_definitions.specs.Change.{plain_text, bytes_of, in_look, looks_set, put_in, put_at_caret, cut_out}
use Rattle.desktop_definitions.specs.Change.{caret_shown, deletion, more_written}
use Rattle.desktop_definitions.specs.Opening.{menu_line, new_number, new_id, opening_on, opening_over, without_unshown}
use Rattle.desktop_definitions.specs.Log.{all_logged}
use Rattle.desktop_definitions.specs.Looks.{IsLook, AreLooks, SetsLook, font_set, colour_set, offset_set}
use Rattle.desktop_definitions.specs.Shown.{caret_position}
use Rattle.desktop_definitions.specs.Effects.{opened_on_copy, file_opened, document_opened, log_opened, put_away}
use Rattle.desktop_definitions.specs.Effects.{brought_back, after_copy, viewer_copied, after_grow, viewer_grown, log_cleared}
use Rattle.desktop_definitions.specs.Effects.{directory_logged}
use Rattle.desktop_definitions.specs.Effects.{files_deleted, deleting_line, storing_line, without_file, menu_name}
use Rattle.desktop_definitions.specs.Effects.{after_store, stored_as, look_set}
use Rattle.desktop_definitions.specs.Effects.{selection_set, found_at, pattern_after, after_search, after_collect}
use Rattle.desktop_definitions.specs.Keys.{after_typing, after_key, without_character_before, with_copied, without_marks}
use Rattle.desktop_definitions.specs.Gesture.{is_on_display, region_at, part_of, left, frame_row, text_position}
use Rattle.desktop_definitions.specs.Gesture.{menu_position, resized, after_move, scrolled_to_row, scrolled_to_share}
use Rattle.desktop_definitions.specs.Gesture.{is_some_stretch, drawn_in, copied_to, looks_taken, taken_out}
use Rattle.desktop_definitions.specs.Gesture.{sent_to_caret, tool_opened, stretch_drawn, pointed, IsRegionOf}
use Rattle.desktop_definitions.specs.Gesture.{done_in_filler, done_in_menu, done_in_bar, done_at, done_with}
use Rattle.text_core.specs.Attributes.{look_at}
use Rattle.desktop_definitions.specs.declared.reply.Reply.TheVariants.{Done, No}
use Rattle.desktop_definitions.specs.Call.{text_called, seen_at_marker, target_viewer, name_of, number_of as number_called}
use Rattle.desktop_definitions.specs.Call.{names_of}
use Rattle.desktop_definitions.specs.Commands.{command_at, commanded, after_call, done_with_name, done_with_number}
use Rattle.desktop_definitions.specs.Commands.{done_with_viewer}
use Rattle.desktop_definitions.specs.Step.{filed, fits, marked, outcome_after, raw, step_in, Outcome, outcome_of}
use Rattle.desktop_definitions.specs.Sound.{IsShaped, IsSound, IsCaretPlaced, IsClosedPlace, times_there}
use Rattle.desktop_definitions.proofs.LookedLaws.{look_at_looks, relooked_is_look, copied_looks, taken_looks, typed_looks}
use Rattle.desktop_definitions.proofs.LookedLaws.{looks_stay, shape_stays, written_shaped, files_looks, put_looks, no_looks}
use Rattle.desktop_definitions.proofs.LookedLaws.{font_sets_look, colour_sets_look, offset_sets_look}
use Rattle.desktop_definitions.proofs.PlaceLaws.{on_top_placed, anew_shaped, none_comes, dropped_shaped, dropped_shown}
use Rattle.desktop_definitions.proofs.PlacedLaws.{resized_is, carried_is, closed_fresh, change_stays, carry_stays}
use Rattle.desktop_definitions.proofs.OpenLaws.{unused_none}
use Rattle.desktop_definitions.proofs.OpenedLaws.{at_cell, over, left_at, CanShow, text_more, opening_is, text_shaped, new_shown}
use Rattle.desktop_definitions.proofs.OpeningDone.{opened_shaped}
use Rattle.desktop_definitions.proofs.OpeningOnLaws.{log_can, viewer_can}
use Rattle.desktop_definitions.proofs.ClosingLaws.{closed_desktop, closed_columns, closed_before, put_away_is}
use Rattle.desktop_definitions.specs.DeskWords.{place_closed}
use Rattle.desktop_definitions.proofs.ClosingLaws.{closed_anew, restood, closed_nowhere, recalled_columns, replaced_by_closed}
use Rattle.desktop_definitions.proofs.ClosingLaws.{brought_back_is, recalled_anew}
use Rattle.desktop_definitions.proofs.EditLaws.{with_org_shaped, with_caret_shaped, with_selection_shaped, unselected_shaped}
use Rattle.desktop_definitions.proofs.KeyLaws.{looks_long}
use Rattle.desktop_definitions.proofs.StepLaws.{filed_shaped, fit_written, fit_held}
use Rattle.desktop_definitions.proofs.StoreLaws.{files_without, all_without, files_put}
use Rattle.desktop_definitions.proofs.PartSound.{in_look_looks, plain_looks, text_looks, put_in_shaped, put_at_caret_shaped}
use Rattle.desktop_definitions.proofs.PartSound.{taken_shaped, cut_out_shaped, looks_set_shaped, selected_looks, newest_stands}
use Rattle.desktop_definitions.proofs.PartSound.{caret_shown_shaped, deletion_shaped, logged_shaped, all_logged_shaped}

-- ---- rows, by what they ask

module _ {B : Type 0} (P : B → Type 0) where
  by_need : {A : Type 0} (o : Option A) (code : ℕ) (f : A → Result B ℕ) → ((a : A) → o ≡ Some a → IfOk (f a) P)
      → IfOk (needs o code f) P
  by_need None code f so = tt
  by_need (Some a) code f so = so a refl

  by_test : (test : Bool) (code : ℕ) (r : Result B ℕ) → (test ≡ true → IfOk r P) → IfOk (unless test code r) P
  by_test true code r so = so refl
  by_test false code r so = tt

  by_value : {A : Type 0} (r : Result A ℕ) (f : A → Result B ℕ) → ((a : A) → r ≡ Ok a → IfOk (f a) P)
      → IfOk (given r f) P
  by_value (Err code) f so = tt
  by_value (Ok a) f so = so a refl

-- ---- names in a text

all_take : (test : ℕ → Bool) (n : ℕ) (bs : List ℕ) → list_all test bs ≡ true → list_all test (take n bs) ≡ true
all_take test zero bs all = refl
all_take test (suc n) [] all = refl
all_take test (suc n) (b ∷ bs) all =
    let both = and_parts (test b) (list_all test bs) all in
    and_from (test b) (list_all test (take n bs)) both.0 (all_take test n bs both.1)

letter_in_name : (b : ℕ) → is_letter b ≡ true → is_name_byte b ≡ true
unfolding is_name_byte
letter_in_name b is = rw is refl

name_is : (b : ℕ) (bs : List ℕ) → is_letter b ≡ true → list_all is_name_byte bs ≡ true
    → is_name (take 31 (b ∷ bs)) ≡ true
name_is b bs first all =
    let few : length (take 31 (b ∷ bs)) ≤ 31 = (let long = length-take 31 (b ∷ bs) in omega (arith, long)) in
    let rest = all_take is_name_byte 30 bs all in
    and_from (nat_le (length (take 31 (b ∷ bs))) 31) _ (le-leb _ _ few)
    (and_from (is_letter b) _ first
    (and_from (is_name_byte b) (list_all is_name_byte (take 30 bs)) (letter_in_name b first) rest))

-- a symbol is no name, or one that a file may have
abbrev IsFileName : Symbol → Type 0
IsFileName s = IfSome (name_in s) (λ name. IsTrue (is_name name))

number_named : (negative : Bool) (bs : List ℕ) → IfSome (number_form negative bs) IsFileName
number_named negative bs = tested (list_all is_digit bs) (list_all is_name_byte bs) where
  sized : (fits : Bool) → IsFileName (if fits then Int (signed_number negative (numeral bs)) else Invalid)
  sized true = tt
  sized false = tt

  tested : (digits more : Bool) → IfSome (let o : Option Symbol = if digits then Some (number_symbol negative (numeral
      bs))
      else (if more then Some Invalid else None) in o) IsFileName
  tested true more = sized (nat_le (numeral bs) (greatest_size negative))
  tested false true = tt
  tested false false = tt

quote_named : (bs : List ℕ) → IfSome (quote_form bs) IsFileName
quote_named bs = tested (list_all is_string_byte bs) (closes bs) where
  tested : (inside closed : Bool) → IfSome (let o : Option Symbol = if inside then Some Invalid
      else (if closed then Some (Str (symbol_bytes (take (length bs - 1) bs))) else None) in o) IsFileName
  tested true closed = tt
  tested false true = tt
  tested false false = tt

form_named : (bs : List ℕ) → IfSome (form bs) IsFileName
unfolding form
form_named [] = tt
form_named (b ∷ bs) = tested (is_letter b) refl (list_all is_name_byte bs) refl (is_digit b) (b == quote)
    ((b == minus) && begins is_digit bs) where
      tested : (letter : Bool) → is_letter b ≡ letter → (all : Bool) → list_all is_name_byte bs ≡ all
          → (digit quoted negative : Bool)
          → IfSome (let o : Option Symbol = if letter then (if all then Some (Name (symbol_bytes (b ∷ bs))) else None) else
          (if digit then number_form false (b ∷ bs) else (if quoted then quote_form bs else
          (if negative then number_form true bs else None))) in o) IsFileName
      tested true first true all digit quoted negative = name_is b bs first all
      tested true first false all digit quoted negative = tt
      tested false first more all true quoted negative = number_named false (b ∷ bs)
      tested false first more all false true negative = quote_named bs
      tested false first more all false false true = number_named true bs
      tested false first more all false false false = tt

longest_named : (bs : List ℕ) (n : ℕ) → IfSome (longest_form bs n) (λ found. IsFileName found.0)
longest_named bs zero = tt
longest_named bs (suc n) = by_form (longest_named bs n) (form (take (suc n) bs)) (form_named (take (suc n) bs)) where
  by_form : IfSome (longest_form bs n) (λ found. IsFileName found.0) → (o : Option Symbol) → IfSome o IsFileName
      → IfSome (let l : Option (Symbol × ℕ) = elim o [ Some s ↦ Some (s, suc n) | None ↦ longest_form bs n ] in l)
      (λ found. IsFileName found.0)
  by_form fewer None is = fewer
  by_form fewer (Some s) is = is

first_named : (bs : List ℕ) → IsFileName (first_symbol bs).0
first_named [] = tt
first_named (b ∷ bs) = by_form (longest_form (b ∷ bs) (length (b ∷ bs))) (longest_named (b ∷ bs) (length (b ∷ bs)))
  where
    by_form : (o : Option (Symbol × ℕ)) → IfSome o (λ found. IsFileName found.0)
        → IsFileName (unwrap_or o (Special b, 1)).0
    by_form None is = tt
    by_form (Some found) is = is

symbol_named : (bs : List ℕ) (p : ℕ) → IsFileName (symbol bs p).0
unfolding symbol
symbol_named bs p = first_named (drop (after_blanks bs p) bs)

-- ---- columns

-- an entry ends above the bottom of the display, and within it
top_within : (t : List Entry) (i : ℕ) → IsTrack t → (0 < top_of t i) × (top_of t i ≤ ROWS)
top_within t i is = (elim (nat_lt i (length t)) as (λ b. nat_lt i (length t) ≡ b
    → (0 < (if b then bottom_of t (i + 1) else ROWS)) × ((if b then bottom_of t (i + 1) else ROWS) ≤ ROWS)) [
      | true ↦ λ low. (let few = ltb-true i (length t) low in
          let none : Entry = record { viewer = 0; height = 0 } in
          let more = sum_by_more (λ (e : Entry). e.height) t i none few in
          let some = is.some i none few in
          let all = sum_by-take-le (λ (e : Entry). e.height) t (i + 1) in
          let fits = is.fits in
          (omega (arith, more, some), omega (arith, all, fits)))
      | false ↦ λ high. (omega arith, omega arith)
    ]) refl

closed_within : (c : Columns) (v : ℕ) → IsColumns c → IsOnTop v c → IsClosedPlace (place_closed c v)
closed_within c v are placed =
    let k = track_of c v in
    let own = ap (λ (t : List Entry). top_of t (entry_of t v)) (shown_stands c v are placed) in
    let both = top_within (shown_track c k) (entry_of (shown_track c k) v) (topmost_track (stack_of c k) (stack_in c k are)) in
    record { some = omega (arith, both.0, own); within = omega (arith, both.1, own) }

-- ---- openings

module _ (d : Desktop) (shaped : IsShaped d) where
  new_fresh : ¬ IsPlaced (new_id d) d.columns
  new_fresh placed =
      let none : times_there d.columns d.closed (new_id d) ≡ 0 = shaped.places.once (new_id d)
      ∙ (λ k. if is_some (unused_none d.viewers k) then 1 else 0) in
      omega (arith, none, placed)

  opening_on_shaped : (menu : Text ℕ) (main org : ℕ) (cell : ℕ × ℕ) → CanShow d main org → AreLooks menu
      → IsShaped (opening_on d menu main org cell)
  opening_on_shaped menu main org cell can looks =
      let hold = shaped.places.columns_hold in
      opened_shaped d menu main org shaped can looks (at_cell cell) (record {
        hold = open_keeps d.columns (new_id d) cell.0 cell.1 hold new_fresh;
        places = λ w. open_places d.columns (new_id d) cell.0 cell.1 w hold;
      })

  opening_over_shaped : (menu : Text ℕ) (main org : ℕ) (k : Track) → CanShow d main org → AreLooks menu
      → length (stack_of d.columns k) < DEPTH → IsShaped (opening_over d menu main org k)
  opening_over_shaped menu main org k can looks room =
      opened_shaped d menu main org shaped can looks (over k)
      (cover_keeps d.columns (new_id d) (left_of k) shaped.places.columns_hold new_fresh
      (subst (λ (j : Track). length (stack_of d.columns j) < DEPTH) (sym (left_at k)) room))

copy_shaped : (d : Desktop) (name : List ℕ) (text : Text ℕ) (cell : ℕ × ℕ) → IsShaped d → AreLooks text
    → IsShaped (opened_on_copy d name text cell)
copy_shaped d name text cell shaped looks =
    written_shaped _ (subst IsShaped (sym (opening_is d (plain_text (menu_line name)) text cell))
    (opening_on_shaped (text_more d text) (text_shaped d text shaped looks) (plain_text (menu_line name)) (new_number d) 0
    cell (new_shown d text shaped) (plain_looks (menu_line name))))

-- ---- commands

module _ (d : Desktop) (shaped : IsShaped d) where
  file_looks : (name : List ℕ) (text : Text ℕ) → file_of d name ≡ Some text → AreLooks text
  unfolding file_of
  file_looks name text is = subst (λ (o : Option (Text ℕ)). IfSome o AreLooks) is
      (IfSome-lookup_from_All AreLooks (is_at (name_cmp name)) d.files shaped.looks.files)

  found_looks : (o : Option (Text ℕ)) → ((text : Text ℕ) → o ≡ Some text → AreLooks text) → AreLooks (unwrap_or o [])
  found_looks None are = no_looks
  found_looks (Some text) are = are text refl

  file_opened_shaped : (name : List ℕ) → IfOk (file_opened d name) IsShaped
  unfolding file_opened
  file_opened_shaped name = by_need IsShaped (file_of d name) _ _
      (λ text is. copy_shaped d name text _ shaped (file_looks name text is))

  document_opened_shaped : (name : List ℕ) → IsShaped (document_opened d name)
  unfolding document_opened
  document_opened_shaped name = copy_shaped d name _ _ shaped (found_looks (file_of d name) (file_looks name))

  log_opened_shaped : IsShaped (log_opened d)
  unfolding log_opened
  log_opened_shaped = written_shaped _ (opening_on_shaped d shaped (plain_text (menu_line (codes "System.Log"))) 0 0
      (allocated d.columns System d.marker) (log_can d shaped) (plain_looks (menu_line (codes "System.Log"))))

  put_away_shaped : (v : ℕ) → IsOnTop v d.columns → IsShaped (put_away d v)
  put_away_shaped v placed =
      let hold = shaped.places.columns_hold in
      subst IsShaped (put_away_is d v) (anew_shaped (closed_desktop d v) (closed_columns d v) (closed_before d v)
      (closed_anew d v shaped placed (close_keeps d.columns v hold placed)
      (λ w. close_places d.columns v w hold placed) (closed_within d.columns v hold placed)))

  brought_back_shaped : (k : ClosedViewer) → d.closed ≡ Some k → IsShaped (brought_back d k)
  brought_back_shaped k is =
      let hold = shaped.places.columns_hold in
      subst IsShaped (brought_back_is d k)
      (anew_shaped (restood d d.columns d.caret d.selections None) (recalled_columns d k) (replaced_by_closed d k)
      (recalled_anew d k shaped is
      (open_keeps d.columns k.viewer (left_of k.track) k.top hold (closed_nowhere d k shaped is))
      (λ w. open_places d.columns k.viewer (left_of k.track) k.top w hold)))

  copied_shaped : (v : ℕ) → IsOnTop v d.columns → IfOk (viewer_copied d v) IsShaped
  unfolding viewer_copied
  copied_shaped v placed =
      let rows : ℕ = placed_top d.columns v - placed_bottom d.columns v in
      elim (rows == 1) as (λ b. IfOk (let r : Result Desktop ℕ = if b then Err too_low else Ok (after_copy d v rows) in r)
      IsShaped) [
        | true ↦ tt
        | false ↦ opening_on_shaped d shaped _ _ _ _ (viewer_can d v shaped (on_top_placed d.columns v placed))
            (text_looks d shaped (viewer_of d v).menu)
      ]

  grown_shaped : (v : ℕ) → IsOnTop v d.columns → IfOk (viewer_grown d v) IsShaped
  unfolding viewer_grown
  grown_shaped v placed =
      let k : Track = track_of d.columns v in
      by_test IsShaped (nat_lt (length (stack_of d.columns k)) DEPTH) too_deep (Ok (after_grow d v))
      (λ room. opening_over_shaped d shaped _ _ _ k (viewer_can d v shaped (on_top_placed d.columns v placed))
      (text_looks d shaped (viewer_of d v).menu) (ltb-true (length (stack_of d.columns k)) DEPTH room))

  log_cleared_shaped : IsShaped (log_cleared d)
  unfolding log_cleared
  log_cleared_shaped = deletion_shaped d shaped 0 0 (length (text_of d 0)) shaped.viewers.log (omega arith)
      (text_looks d shaped 0)

  directory_shaped : IsShaped (directory_logged d)
  unfolding directory_logged
  directory_shaped = all_logged_shaped d _ shaped

  collected_shaped : IsShaped (after_collect d)
  unfolding after_collect
  collected_shaped = written_shaped (characters_held d) shaped

  deleted_shaped : (names : List (List ℕ)) → IfOk (files_deleted d names) IsShaped
  unfolding files_deleted
  deleted_shaped names = by_test IsShaped (can_be_deleted (keys_of d.files) names) no_file
      (Ok (all_logged (record d { files = fold without_file d.files names }) (map deleting_line names)))
      (λ can. all_logged_shaped (record d { files = fold without_file d.files names }) (map deleting_line names) (record {
        viewers = shaped.viewers;
        places = shaped.places;
        marks = shaped.marks;
        marker = shaped.marker;
        files = files_without d.files names shaped.files;
        pattern = shaped.pattern;
        looks = files_looks d shaped.looks (fold without_file d.files names)
            (all_without AreLooks d.files names shaped.looks.files);
      }))

  stored_shaped : (v : ℕ) → IfOk (after_store d v) IsShaped
  unfolding after_store
  stored_shaped v = by_need IsShaped (menu_name d v) wrong_symbol (λ name. unless (has_file_room d.files name) too_many_files
      (Ok (stored_as d name (main_of d v)))) (λ name is.
      let valid : IsTrue (is_name name) = subst (λ (o : Option (List ℕ)). IfSome o (λ n. IsTrue (is_name n))) is
      (symbol_named (bytes_of (menu_of d v)) 0) in
      by_test IsShaped (has_file_room d.files name) too_many_files (Ok (stored_as d name (main_of d v)))
      (λ room. logged_shaped (record d { files = file_put d.files name (main_of d v) })
      (storing_line name (length (main_of d v))) (record {
        viewers = shaped.viewers;
        places = shaped.places;
        marks = shaped.marks;
        marker = shaped.marker;
        files = files_put d.files name (main_of d v) shaped.files valid room;
        pattern = shaped.pattern;
        looks = put_looks d shaped.looks name (main_of d v) (text_looks d shaped (viewer_of d v).main);
      })))

  look_set_shaped : (new : LookChange) → IsLook new.look → IsShaped (look_set d new)
  unfolding look_set
  look_set_shaped new is = shape_stays shaped refl shaped.pattern
      (typed_looks d shaped.looks _ (relooked_is_look new.selector new.look d.look is shaped.looks.look))

  selection_set_shaped : (new : LookChange) → IsLook new.look → IfOk (selection_set d new) IsShaped
  unfolding selection_set
  selection_set_shaped new is = by_need IsShaped (newest d) _ _
      (λ s newest_is. looks_set_shaped d shaped s new.selector new.look (newest_stands d shaped s newest_is) is)

-- ---- searches

find_passes : {X : Type 0} (test : X → Bool) (xs : List X) (x : X) → find test xs ≡ Some x → test x ≡ true
find_passes test [] x is = absurd (cc is)
find_passes {X} test (y ∷ ys) x is = by_head (find_passes test ys x) (test y) refl is where
  by_head : (find test ys ≡ Some x → test x ≡ true) → (b : Bool) → test y ≡ b
      → (let o : Option X = cond b (Some y) (find test ys) in o) ≡ Some x → test x ≡ true
  by_head later true here is = let same : y ≡ x = cc is in subst (λ z. test z ≡ true) same here
  by_head later false here is = later is

-- what is found ends within the bytes
found_within : (bs pattern : List ℕ) (p q : ℕ) → 0 < length pattern → found_at bs pattern p ≡ Some q
    → q + length pattern ≤ length bs
found_within bs pattern p q some is =
    let test = find_passes (λ r. bytes_eq pattern (take (length pattern) (drop r bs)))
    (range_with_len p (length bs + 1 - p)) q is in
    let same : pattern ≡ take (length pattern) (drop q bs)
    = (bytes_eq-Decides pattern (take (length pattern) (drop q bs))).0 test in
    let size = ap length same in
    let taken = length-take (length pattern) (drop q bs) in
    let left = length-drop q bs in
    omega (arith, some, size, taken, left)

bytes_long : (text : Text ℕ) → length (bytes_of text) ≡ length text
bytes_long text = length-map text (λ (c : ℕ × Look). c.0)

few_taken : (o : Option Selection) (d : Desktop) → length d.pattern ≤ most_pattern
    → length (unwrap_or (option_map (λ s. take most_pattern (bytes_of (selected d s))) o) d.pattern) ≤ most_pattern
few_taken None d few = few
few_taken (Some s) d few = let long = length-take most_pattern (bytes_of (selected d s)) in omega (arith, long)

module _ (d : Desktop) (shaped : IsShaped d) where
  searched_shaped : (v : ℕ) → IsOnTop v d.columns → IfOk (after_search d v) IsShaped
  unfolding after_search
  searched_shaped v placed =
      let pattern : List ℕ = pattern_after d in
      let with_pattern : Desktop = record d { pattern = pattern } in
      let start : ℕ = unwrap_or (caret_position v d.caret) 0 in
      let put_caret : ℕ → Result Desktop ℕ = λ p. Ok (caret_shown with_pattern v (p + length pattern)) in
      by_test IsShaped (nat_lt 0 (length pattern)) no_selection
      (needs (found_at (bytes_of (main_of d v)) pattern start) not_found put_caret)
      (λ some. by_need IsShaped (found_at (bytes_of (main_of d v)) pattern start) not_found put_caret
      (λ p found. caret_shown_shaped with_pattern
      (shape_stays shaped refl (few_taken (newest d) d shaped.pattern) (looks_stay shaped.looks refl)) v
      (p + length pattern) placed
      (let low = found_within (bytes_of (main_of d v)) pattern start p (ltb-true 0 (length pattern) some) found in
      let long = bytes_long (main_of d v) in omega (arith, low, long))))

  -- ---- calls

  seen_marker : (v : ℕ) → seen_at_marker d ≡ Some v → IsOnTop v d.columns
  seen_marker v = (elim d.marker as
      (λ (m : Option (ℕ × ℕ)). (let o : Option ℕ = elim m [ None ↦ None | Some m ↦ seen_at d.columns m.0 m.1 ] in o)
      ≡ Some v → IsOnTop v d.columns) [
        | None ↦ λ is. absurd (cc is)
        | Some m ↦ λ is. (seen_placed d.columns v m.0 m.1 shaped.places.columns_hold is).placed
      ])

  meant_placed : (call : Call) (v : ℕ) → IsOnTop call.viewer d.columns → target_viewer d call ≡ Some v → IsOnTop v d.columns
  meant_placed call v placed = elim call.in_menu as
      (λ b. (let o : Option ℕ = if b then Some call.viewer else seen_at_marker d in o) ≡ Some v → IsOnTop v d.columns) [
        | true ↦ λ is. (let same : call.viewer ≡ v = cc is in subst (λ w. IsOnTop w d.columns) same placed)
        | false ↦ seen_marker v
      ]

  set_shaped : (o : Option LookChange) → SetsLook o → (f : LookChange → Result Desktop ℕ)
      → ((new : LookChange) → IsLook new.look → IfOk (f new) IsShaped) → IfOk (needs o bad_value f) IsShaped
  set_shaped o sets f so = by_need IsShaped o bad_value f (λ new is. so new (sets new is))

  commanded_shaped : (command : Command) (call : Call) → IsOnTop call.viewer d.columns
      → IfOk (commanded d command call) IsShaped
  unfolding commanded done_with_name done_with_number done_with_viewer
  commanded_shaped EditOpen call placed =
      by_value IsShaped (name_of d call) (λ name. Ok (document_opened d name))
      (λ name is. document_opened_shaped d shaped name)
  commanded_shaped SystemOpen call placed =
      by_value IsShaped (name_of d call) (file_opened d) (λ name is. file_opened_shaped d shaped name)
  commanded_shaped SystemOpenLog call placed = log_opened_shaped d shaped
  commanded_shaped SystemClose call placed =
      by_need IsShaped (target_viewer d call) viewer_missing (λ v. Ok (put_away d v))
      (λ v is. put_away_shaped d shaped v (meant_placed call v placed is))
  commanded_shaped SystemRecall call placed =
      by_need IsShaped d.closed viewer_missing (λ k. Ok (brought_back d k)) (λ k is. brought_back_shaped d shaped k is)
  commanded_shaped SystemCopy call placed =
      by_need IsShaped (target_viewer d call) viewer_missing (viewer_copied d)
      (λ v is. copied_shaped d shaped v (meant_placed call v placed is))
  commanded_shaped SystemClear call placed = log_cleared_shaped d shaped
  commanded_shaped SystemDirectory call placed = directory_shaped d shaped
  commanded_shaped SystemDeleteFiles call placed =
      by_value IsShaped (names_of d call) (files_deleted d) (λ names is. deleted_shaped d shaped names)
  commanded_shaped SystemSetFont call placed =
      by_value IsShaped (name_of d call) (λ name. needs (font_set name) bad_value (λ new. Ok (look_set d new)))
      (λ name is. set_shaped (font_set name) (font_sets_look name) (λ new. Ok (look_set d new))
      (look_set_shaped d shaped))
  commanded_shaped SystemSetColor call placed =
      by_value IsShaped (number_called d call) (λ z. needs (colour_set z) bad_value (λ new. Ok (look_set d new)))
      (λ z is. set_shaped (colour_set z) (colour_sets_look z) (λ new. Ok (look_set d new)) (look_set_shaped d shaped))
  commanded_shaped SystemSetOffset call placed =
      by_value IsShaped (number_called d call) (λ z. needs (offset_set z) bad_value (λ new. Ok (look_set d new)))
      (λ z is. set_shaped (offset_set z) (offset_sets_look z) (λ new. Ok (look_set d new)) (look_set_shaped d shaped))
  commanded_shaped EditChangeFont call placed =
      by_value IsShaped (name_of d call) (λ name. needs (font_set name) bad_value (selection_set d))
      (λ name is. set_shaped (font_set name) (font_sets_look name) (selection_set d) (selection_set_shaped d shaped))
  commanded_shaped EditChangeColor call placed =
      by_value IsShaped (number_called d call) (λ z. needs (colour_set z) bad_value (selection_set d))
      (λ z is. set_shaped (colour_set z) (colour_sets_look z) (selection_set d) (selection_set_shaped d shaped))
  commanded_shaped EditChangeOffset call placed =
      by_value IsShaped (number_called d call) (λ z. needs (offset_set z) bad_value (selection_set d))
      (λ z is. set_shaped (offset_set z) (offset_sets_look z) (selection_set d) (selection_set_shaped d shaped))
  commanded_shaped EditStore call placed =
      by_need IsShaped (target_viewer d call) viewer_missing (after_store d) (λ v is. stored_shaped d shaped v)
  commanded_shaped EditSearch call placed =
      by_need IsShaped (target_viewer d call) viewer_missing (after_search d)
      (λ v is. searched_shaped v (meant_placed call v placed is))
  commanded_shaped EditRecall call placed =
      by_need IsShaped d.caret no_caret (λ c. Ok (put_at_caret d d.deleted c))
      (λ c is. put_at_caret_shaped d shaped d.deleted c (shaped.marks.caret_stands c is) shaped.looks.deleted)
  commanded_shaped SystemCollect call placed = collected_shaped d shaped
  commanded_shaped SystemGrow call placed =
      by_need IsShaped (target_viewer d call) viewer_missing (viewer_grown d)
      (λ v is. grown_shaped d shaped v (meant_placed call v placed is))

  called_shaped : (version v : ℕ) (in_menu : Bool) (p : ℕ) → IsOnTop v d.columns
      → IfOk (after_call version d v in_menu p) IsShaped
  unfolding after_call
  called_shaped version v in_menu p placed =
      by_need IsShaped (command_at version (bytes_of (text_called d v in_menu)) p) no_command
      (λ found. commanded d found.0 (record { viewer = v; in_menu = in_menu; after = found.1 }))
      (λ found is. commanded_shaped found.0 (record { viewer = v; in_menu = in_menu; after = found.1 }) placed)

  -- ---- typing and keys

  typed_shaped : (bytes : List ℕ) → IfOk (after_typing d bytes) IsShaped
  unfolding after_typing
  typed_shaped bytes =
      by_need IsShaped d.caret no_caret
      (λ c. Ok (more_written (put_at_caret d (in_look d.look bytes) c) (length bytes)))
      (λ c is. written_shaped _ (put_at_caret_shaped d shaped (in_look d.look bytes) c (shaped.marks.caret_stands c is)
      (in_look_looks d.look bytes shaped.looks.look)))

  before_shaped : (c : Caret) → IsCaretPlaced d.columns (main_length d.texts d.viewers) c
      → IsShaped (without_character_before d c)
  before_shaped c stands = (elim (c.position == 0) as (λ b. (c.position == 0) ≡ b
      → IsShaped (if b then d else
      caret_shown (deletion d (viewer_of d c.viewer).main (c.position - 1) c.position) c.viewer (c.position - 1))) [
        | true ↦ λ is. shaped
        | false ↦ λ is. taken_shaped d shaped c.viewer (c.position - 1) c.position stands.placed (omega arith)
            stands.within
      ]) refl

  with_copied_shaped : (s : Selection) → IsShaped (with_copied d s)
  with_copied_shaped s =
      shape_stays shaped refl shaped.pattern (copied_looks d shaped.looks (selected d s) (selected_looks d shaped s))

  escaped_shaped : IsShaped (without_marks d)
  unfolding without_marks
  escaped_shaped = record {
    viewers = shaped.viewers;
    places = shaped.places;
    marks = record {
      caret_stands = λ c here. absurd (cc here);
      all_stand = λ i s low. absurd (omega (arith, low));
      one_each = λ v. omega arith;
    };
    marker = λ m here. absurd (cc here);
    files = shaped.files;
    pattern = shaped.pattern;
    looks = looks_stay shaped.looks refl;
  }

pressed_shaped : (d : Desktop) → IsShaped d → (key : Key) → IfOk (after_key d key) IsShaped
unfolding after_key
pressed_shaped d shaped Back =
    by_need IsShaped d.caret no_caret (λ c. Ok (without_character_before d c))
    (λ c is. before_shaped d shaped c (shaped.marks.caret_stands c is))
pressed_shaped d shaped Copy =
    by_need IsShaped (newest d) no_selection (λ s. Ok (with_copied d s)) (λ s is. with_copied_shaped d shaped s)
pressed_shaped d shaped Paste =
    by_need IsShaped d.caret no_caret (λ c. Ok (put_at_caret d d.copied c))
    (λ c is. put_at_caret_shaped d shaped d.copied c (shaped.marks.caret_stands c is) shaped.looks.copied)
pressed_shaped d shaped Cut =
    by_need IsShaped (newest d) no_selection (λ s. Ok (cut_out (with_copied d s) s))
    (λ s is. cut_out_shaped (with_copied d s) (with_copied_shaped d shaped s) s (newest_stands d shaped s is))
pressed_shaped d shaped Escape = escaped_shaped d shaped

-- ---- gestures

module _ (d : Desktop) (shaped : IsShaped d) where
  tool_opened_shaped : (x y : ℕ) → IfOk (tool_opened d x y) IsShaped
  unfolding tool_opened
  tool_opened_shaped x y =
      let name : List ℕ = codes "System.Tool" in
      by_need IsShaped (file_of d name) no_file (λ text. Ok (opened_on_copy d name text (x, y + 1)))
      (λ text is. copy_shaped d name text (x, y + 1) shaped (file_looks d shaped name text is))

  resized_shaped : (v y : ℕ) → IsOnTop v d.columns → IsShaped (resized d v y)
  resized_shaped v y placed =
      let hold = shaped.places.columns_hold in
      subst IsShaped (sym (resized_is d v y)) (anew_shaped d (columns_changed d.columns v (y + 1)) None
      (none_comes d (columns_changed d.columns v (y + 1)) None shaped (change_keeps d.columns v (y + 1) hold placed)
      (λ w. let same = change_places d.columns v (y + 1) w hold placed in omega (arith, same))
      (change_stays d.columns v (y + 1) hold placed)))

  carried_shaped : (v x y : ℕ) → IsOnTop v d.columns → IsShaped (after_move d v x y)
  carried_shaped v x y placed =
      let hold = shaped.places.columns_hold in
      let closed : Columns = after_close d.columns v in
      let still = close_keeps d.columns v hold placed in
      let gone = λ (w : ℕ). close_places d.columns v w hold placed in
      subst IsShaped (sym (carried_is d v x y))
      (anew_shaped d (after_open closed v x (y + 1)) (replaced_at closed x (y + 1))
      (none_comes d (after_open closed v x (y + 1)) (replaced_at closed x (y + 1)) shaped
      (open_keeps closed v x (y + 1) still (closed_fresh d.columns closed v hold (gone v)))
      (λ w. let left = gone w in let new = open_places closed v x (y + 1) w still in omega (arith, left, new))
      (carry_stays d.columns v x (y + 1) hold placed)))

  place_within : (text : Text ℕ) (org column row : ℕ) → position_at (bytes_of text) org column row ≤ length text
  place_within text org column row =
      let low = greatest_within (stands_by (bytes_of text) org column row) (length (bytes_of text)) in
      let long = bytes_long text in
      omega (arith, low, long)

  row_shaped : (v row : ℕ) → IsShaped (scrolled_to_row d v row)
  unfolding scrolled_to_row
  row_shaped v row =
      let begin : ℕ = position_at (bytes_of (main_of d v)) (viewer_of d v).org 0 row in
      elim (row_of (bytes_of (main_of d v)) (viewer_of d v).org begin == row) as
      (λ b. IsShaped (if b then with_org d v begin else d)) [
        | true ↦ with_org_shaped d shaped v begin (place_within (main_of d v) (viewer_of d v).org 0 row)
        | false ↦ shaped
      ]

  -- a share of a length is no longer
  share_within : (long row rows : ℕ) → row < rows → long * row / rows ≤ long
  share_within long row rows low =
      let most = mul-add-lt row (long + 1) 0 rows low (omega arith) in
      let less = mul-le row long row (long + 1) (omega arith) (omega arith) in
      let all : long * row < (long + 1) * rows = omega (arith, most, less) in
      let below = div_below (long * row) rows (long + 1) (omega (arith, low)) all in
      omega (arith, below)

  text_within : (v x y : ℕ) → text_position d v x y ≤ length (main_of d v)
  unfolding text_position
  text_within v x y = place_within (main_of d v) (viewer_of d v).org _ _

  drawn_shaped : (s : Selection) → IsOnTop s.viewer d.columns → s.end ≤ length (main_of d s.viewer)
      → IsShaped (drawn_in d s)
  unfolding drawn_in
  drawn_shaped s placed low = (elim (is_some_stretch s) as (λ b. is_some_stretch s ≡ b
      → IsShaped (if b then with_selection d s else unselected d s.viewer)) [
        | true ↦ λ is. with_selection_shaped d s shaped
            (record { placed = placed; some = ltb-true s.beg s.end is; within = low })
        | false ↦ λ is. unselected_shaped d shaped s.viewer
      ]) refl

  -- in a scroll bar, in a row of the main frame
  share_shaped : (v row : ℕ) → row < rows_of d v → IsShaped (scrolled_to_share d v row)
  unfolding scrolled_to_share
  share_shaped v row low =
      let at : ℕ = length (main_of d v) * row / rows_of d v in
      let start = greatest_within (begins_line (bytes_of (main_of d v))) at in
      let share = share_within (length (main_of d v)) row (rows_of d v) low in
      with_org_shaped d shaped v (line_start (bytes_of (main_of d v)) at) (omega (arith, start, share))

  copied_to_shaped : (v p : ℕ) → IsOnTop v d.columns → p ≤ length (main_of d v) → IfOk (copied_to d v p) IsShaped
  unfolding copied_to
  copied_to_shaped v p placed low =
      by_need IsShaped (newest d) no_selection (λ s. Ok (put_in d v p (selected d s)))
      (λ s is. put_in_shaped d shaped v p (selected d s) placed low (selected_looks d shaped s))

  looks_columns : (s : Selection) (selector : ℕ) (look : Look) → (looks_set d s selector look).columns ≡ d.columns
  unfolding looks_set
  looks_columns s selector look = refl

  looks_taken_shaped : (v p : ℕ) → IsOnTop v d.columns → p ≤ length (main_of d v) → IfOk (looks_taken d v p) IsShaped
  unfolding looks_taken
  looks_taken_shaped v p placed low =
      let look : Look = look_at p (main_of d v) in
      by_need IsShaped (newest d) no_selection (λ s. Ok (with_caret (looks_set d s 7 look) v p))
      (λ s is.
      let stands = newest_stands d shaped s is in
      let some = stands.some in
      let is_look = look_at_looks p (main_of d v) (text_looks d shaped (viewer_of d v).main) in
      let long = looks_long d s 7 look v (omega (arith, some)) stands.within in
      with_caret_shaped (looks_set d s 7 look) (looks_set_shaped d shaped s 7 look stands is_look) v p
      (subst (λ (c : Columns). IsOnTop v c) (sym (looks_columns s 7 look)) placed) (omega (arith, low, long)))

  taken_out_shaped : (s : Selection) → IsOnTop s.viewer d.columns → s.end ≤ length (main_of d s.viewer)
      → IfOk (taken_out d s) IsShaped
  unfolding taken_out
  taken_out_shaped s placed low =
      by_test IsShaped (is_some_stretch s) no_selection (Ok (record (cut_out d s) { deleted = selected d s }))
      (λ some.
      let cut = cut_out_shaped d shaped s
      (record { placed = placed; some = ltb-true s.beg s.end some; within = low }) in
      shape_stays cut refl cut.pattern (taken_looks (cut_out d s) cut.looks (selected d s) (selected_looks d shaped s)))

  drawn_caret : (s : Selection) → (drawn_in d s).caret ≡ d.caret
  unfolding drawn_in
  drawn_caret s = elim (is_some_stretch s) as
      (λ b. (if b then with_selection d s else unselected d s.viewer).caret ≡ d.caret) [ true ↦ refl | false ↦ refl ]

  sent_shaped : (s : Selection) → IsOnTop s.viewer d.columns → s.end ≤ length (main_of d s.viewer)
      → IfOk (sent_to_caret d s) IsShaped
  unfolding sent_to_caret
  sent_shaped s placed low =
      by_test IsShaped (is_some_stretch s) no_selection
      (needs d.caret no_caret (λ c. Ok (put_at_caret (drawn_in d s) (selected d s) c)))
      (λ some. by_need IsShaped d.caret no_caret (λ c. Ok (put_at_caret (drawn_in d s) (selected d s) c))
      (λ c is.
      let now = drawn_shaped s placed low in
      put_at_caret_shaped (drawn_in d s) now (selected d s) c (now.marks.caret_stands c (drawn_caret s ∙ is))
      (selected_looks d shaped s)))

  -- the stretch that the mouse drew ends within the text
  drawn_within : (v x0 y0 x1 y1 : ℕ) → (stretch_drawn d v x0 y0 x1 y1).end ≤ length (main_of d v)
  drawn_within v x0 y0 x1 y1 = let le : min (max (text_position d v x0 y0) (text_position d v x1 y1) + 1)
      (length (main_of d v)) ≤ length (main_of d v) = omega arith in le

  -- ---- regions

  part_is : (x y : ℕ) (found : Option ℕ) → seen_at d.columns x y ≡ found → IsRegionOf d y (part_of d x y found)
  part_is x y None is = tt
  part_is x y (Some v) is = by_row (y + 1 == placed_top d.columns v) refl (x == left d v) where
    stands : StandsAt d.columns v x y
    stands = seen_placed d.columns v x y shaped.places.columns_hold is

    by_row : (top : Bool) → (y + 1 == placed_top d.columns v) ≡ top → (bar : Bool)
        → IsRegionOf d y (if top then Menu v else (if bar then Bar v else Body v))
    by_row true at bar = stands.placed
    by_row false at true = (stands.placed, row_low (eqb-false (y + 1) (placed_top d.columns v) at)) where
      row_low : ¬ (y + 1 ≡ placed_top d.columns v) → frame_row d v y < rows_of d v
      row_low other = let from = stands.from in let before = stands.before in omega (arith, from, before, other)
    by_row false at false = (stands.placed, row_low (eqb-false (y + 1) (placed_top d.columns v) at)) where
      row_low : ¬ (y + 1 ≡ placed_top d.columns v) → frame_row d v y < rows_of d v
      row_low other = let from = stands.from in let before = stands.before in omega (arith, from, before, other)

  region_is : (x y : ℕ) → IsRegionOf d y (region_at d x y)
  unfolding region_at
  region_is x y = part_is x y (seen_at d.columns x y) refl

  pointed_shaped : (version : ℕ) (region : Region) (keys : Keys) (x0 y0 x1 y1 : ℕ) → IsRegionOf d y0 region
      → IfOk (pointed version d region keys x0 y0 x1 y1) IsShaped
  unfolding pointed done_in_filler done_in_menu done_in_bar done_at done_with
  pointed_shaped version Filler Middle x0 y0 x1 y1 is = tool_opened_shaped x0 y0
  pointed_shaped version Filler Left x0 y0 x1 y1 is = shaped
  pointed_shaped version Filler LeftMiddle x0 y0 x1 y1 is = shaped
  pointed_shaped version Filler LeftRight x0 y0 x1 y1 is = shaped
  pointed_shaped version Filler MiddleLeft x0 y0 x1 y1 is = shaped
  pointed_shaped version Filler MiddleRight x0 y0 x1 y1 is = shaped
  pointed_shaped version Filler Right x0 y0 x1 y1 is = shaped
  pointed_shaped version Filler RightLeft x0 y0 x1 y1 is = shaped
  pointed_shaped version Filler RightMiddle x0 y0 x1 y1 is = shaped
  pointed_shaped version (Menu v) Left x0 y0 x1 y1 is = resized_shaped v y1 is
  pointed_shaped version (Menu v) LeftMiddle x0 y0 x1 y1 is = carried_shaped v x1 y1 is
  pointed_shaped version (Menu v) LeftRight x0 y0 x1 y1 is = shaped
  pointed_shaped version (Menu v) Middle x0 y0 x1 y1 is =
      called_shaped d shaped version v true (menu_position d v x1) is
  pointed_shaped version (Menu v) MiddleLeft x0 y0 x1 y1 is = shaped
  pointed_shaped version (Menu v) MiddleRight x0 y0 x1 y1 is = shaped
  pointed_shaped version (Menu v) Right x0 y0 x1 y1 is = shaped
  pointed_shaped version (Menu v) RightLeft x0 y0 x1 y1 is = shaped
  pointed_shaped version (Menu v) RightMiddle x0 y0 x1 y1 is = shaped
  pointed_shaped version (Bar v) Left x0 y0 x1 y1 is = row_shaped v (frame_row d v y0)
  pointed_shaped version (Bar v) LeftMiddle x0 y0 x1 y1 is = shaped
  pointed_shaped version (Bar v) LeftRight x0 y0 x1 y1 is = shaped
  pointed_shaped version (Bar v) Middle x0 y0 x1 y1 is = share_shaped v (frame_row d v y0) is.1
  pointed_shaped version (Bar v) MiddleLeft x0 y0 x1 y1 is = shaped
  pointed_shaped version (Bar v) MiddleRight x0 y0 x1 y1 is = shaped
  pointed_shaped version (Bar v) Right x0 y0 x1 y1 is = with_org_shaped d shaped v 0 (omega arith)
  pointed_shaped version (Bar v) RightLeft x0 y0 x1 y1 is = shaped
  pointed_shaped version (Bar v) RightMiddle x0 y0 x1 y1 is = shaped
  pointed_shaped version (Body v) Left x0 y0 x1 y1 is =
      with_caret_shaped d shaped v (text_position d v x1 y1) is.0 (text_within v x1 y1)
  pointed_shaped version (Body v) LeftMiddle x0 y0 x1 y1 is =
      copied_to_shaped v (text_position d v x1 y1) is.0 (text_within v x1 y1)
  pointed_shaped version (Body v) LeftRight x0 y0 x1 y1 is =
      looks_taken_shaped v (text_position d v x1 y1) is.0 (text_within v x1 y1)
  pointed_shaped version (Body v) Middle x0 y0 x1 y1 is =
      called_shaped d shaped version v false (text_position d v x1 y1) is.0
  pointed_shaped version (Body v) MiddleLeft x0 y0 x1 y1 is = shaped
  pointed_shaped version (Body v) MiddleRight x0 y0 x1 y1 is = shaped
  pointed_shaped version (Body v) Right x0 y0 x1 y1 is =
      drawn_shaped (stretch_drawn d v x0 y0 x1 y1) is.0 (drawn_within v x0 y0 x1 y1)
  pointed_shaped version (Body v) RightLeft x0 y0 x1 y1 is =
      taken_out_shaped (stretch_drawn d v x0 y0 x1 y1) is.0 (drawn_within v x0 y0 x1 y1)
  pointed_shaped version (Body v) RightMiddle x0 y0 x1 y1 is =
      sent_shaped (stretch_drawn d v x0 y0 x1 y1) is.0 (drawn_within v x0 y0 x1 y1)

  -- ---- events

  marked_shaped : (x y : ℕ) → is_on_display x y ≡ true → IsShaped (marked d x y)
  unfolding marked
  marked_shaped x y on = record {
    viewers = shaped.viewers;
    places = shaped.places;
    marks = shaped.marks;
    marker = λ m here.
        let this : (x, y) ≡ m = cc here in
        let both = and_parts (nat_lt x COLUMNS) (nat_lt y ROWS) on in
        subst (λ (c : ℕ × ℕ). (c.0 < COLUMNS) × (c.1 < ROWS)) this
        (ltb-true x COLUMNS both.0, ltb-true y ROWS both.1);
    files = shaped.files;
    pattern = shaped.pattern;
    looks = looks_stay shaped.looks refl;
  }

  pub raw_shaped : (version : ℕ) (event : Event) → IsEvent event → IfOk (raw version d event) IsShaped
  unfolding raw
  raw_shaped version (Typed bytes) is = typed_shaped d shaped bytes
  raw_shaped version (Pressed key) is = pressed_shaped d shaped key
  raw_shaped version (Mark x y) is = by_test IsShaped (is_on_display x y) outside (Ok (marked d x y)) (marked_shaped x
      y)
  raw_shaped version (Point keys x0 y0 x1 y1) is =
      by_test IsShaped (is_on_display x0 y0 && is_on_display x1 y1) outside
      (pointed version d (region_at d x0 y0) keys x0 y0 x1 y1)
      (λ on. pointed_shaped version (region_at d x0 y0) keys x0 y0 x1 y1 (region_is x0 y0))
  raw_shaped version (File name bytes) is =
      by_test IsShaped (has_file_room d.files name) too_many_files (Ok (filed d name (plain_text bytes)))
      (λ room. filed_shaped d name (plain_text bytes) shaped is.0 room (plain_looks bytes))

settled_sound : (d : Desktop) (r : Result Desktop ℕ) → IsSound d → IfOk r IsShaped → IsSound (outcome_after d r).desktop
unfolding outcome_after
settled_sound d (Err code) sound shaped = sound
settled_sound d (Ok new) sound shaped = (elim (fits (without_unshown new)) as (λ b. fits (without_unshown new) ≡ b
    → IsSound (let both : Outcome = if b then outcome_of (without_unshown new) Done else outcome_of d (No full) in both).desktop) [
      | true ↦ λ fit. record {
        shaped = dropped_shaped new shaped;
        shown = dropped_shown new;
        written_within = fit_written (without_unshown new) fit;
        held_within = fit_held (without_unshown new) fit;
      }
      | false ↦ λ unfit. sound
    ]) refl

pub steps_keep_sound : (version : ℕ) (d : Desktop) (event : Event) → IsSound d → IsEvent event
    → IsSound (step_in version d event).desktop
unfolding step_in
steps_keep_sound version d event sound is =
    settled_sound d (raw version d event) sound (raw_shaped d sound.shaped version event is)
