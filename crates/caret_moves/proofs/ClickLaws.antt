-- Clicks at cells of a viewer's text, and events one after another.
use Rattle.std.specs.Prelude.{◌≡◌, ℕ, ◌+◌, ◌<◌, ◌≤◌, ◌==◌, ◌&&◌, nat_lt, nat_le, Bool, true, false, if◌then◌else◌}
use Rattle.std.specs.Prelude.{List, [], ◌∷◌, ◌++◌, length, Option, Some, None, IfSome, Ok}
use Rattle.std.specs.Option.{option_map}
use Rattle.std.proofs.Common.{refl, sym, ap, subst, ◌∙◌, inl, inr, arith}
use Rattle.std.proofs.lemmas.Bool.{lt-ltb, le-ltb, leb-true, ltb-true, and_parts}
use Rattle.std.proofs.lemmas.Bool.Decides.{eqb_tells}
use Rattle.event_bytes.specs.declared.keys.Keys.TheVariants.{Left, Middle}
use Rattle.event_bytes.specs.declared.event.Event.{Event}
use Rattle.viewer_tracks.specs.declared.display.Track.{Track}
use Rattle.viewer_tracks.specs.declared.display.Track.TheVariants.{User, System}
use Rattle.viewer_tracks.specs.declared.display.TheConstants.{ROWS, COLUMNS, SYSTEM_LEFT}
use Rattle.viewer_tracks.specs.Display.{track_at, left_of}
use Rattle.viewer_tracks.specs.Columns.{IsColumns, IsOnTop, track_of, placed_top, seen_at}
use Rattle.screen_pictures.specs.Picture.{width_of}
use Rattle.text_frames.specs.Cells.{column_of, is_inside, position_at, row_of}
use Rattle.desktop_definitions.specs.declared.region.Region.TheVariants.{Menu, Bar, Body}
use Rattle.desktop_definitions.specs.declared.reply.Reply.TheVariants.{Done}
use Rattle.desktop_definitions.specs.Limits.{newest_version, outside}
use Rattle.desktop_definitions.specs.Needs.{unless}
use Rattle.desktop_definitions.specs.Desktop.{Desktop}
use Rattle.desktop_definitions.specs.Viewers.{viewer_of, main_of, rows_of, with_caret}
use Rattle.desktop_definitions.specs.Change.{bytes_of}
use Rattle.desktop_definitions.specs.Commands.{after_call}
use Rattle.desktop_definitions.specs.Gesture.{is_on_display, left, width, part_of, region_at, frame_row, text_column}
use Rattle.desktop_definitions.specs.Gesture.{text_row, text_position, pointed, done_at}
use Rattle.desktop_definitions.specs.Step.{Outcome, step, raw, outcome_of}
use Rattle.desk_input.specs.Scrolling.{LeadTo}
use Rattle.desk_input.proofs.BarLaws.{seen_left, seen_across}
use Rattle.desk_input.proofs.ScrollLaws.{step_leads}
use Rattle.caret_moves.specs.Leading.{text_width, text_click, display_cell, character_cell, LeadThen}
use Rattle.caret_moves.specs.Calling.{middle_press}
use Rattle.caret_moves.proofs.RowLaws.{own_there}

-- ---- events one after another

pub leads_on : (d mid last : Desktop) (xs ys : List Event) → LeadTo d xs mid → LeadTo mid ys last → LeadTo d (xs ++ ys) last
leads_on d mid last [] ys first rest = subst (λ (x : Desktop). LeadTo x ys last) (sym first) rest
leads_on d mid last (x ∷ xs) ys first rest = (first.0, leads_on (step d x).desktop mid last xs ys first.1 rest)

pub leads_more : (d mid last : Desktop) (event : Event) (events : Option (List Event))
    → IfSome events (λ events. LeadTo d events mid) → step mid event ≡ outcome_of last Done
    → IfSome (option_map (λ events. events ++ event ∷ []) events) (λ events. LeadTo d events last)
leads_more d mid last event None lead is = tt
leads_more d mid last event (Some events) lead is =
    leads_on d mid last events (event ∷ []) lead (step_leads mid last last event [] is refl)

-- and a last one comes to an outcome
last_then : (d mid : Desktop) (events : List Event) (last : Event) (out : Outcome) → LeadTo d events mid
    → step mid last ≡ out → LeadThen d (events ++ last ∷ []) mid out
last_then d mid [] last out lead is = (lead, ap (λ (x : Desktop). step x last) lead ∙ is)
last_then d mid (event ∷ []) last out lead is = (lead.0, last_then (step d event).desktop mid [] last out lead.1 is)
last_then d mid (event ∷ next ∷ more) last out lead is =
    (lead.0, last_then (step d event).desktop mid (next ∷ more) last out lead.1 is)

pub leads_then : (d mid : Desktop) (last : Event) (out : Outcome) (events : Option (List Event))
    → IfSome events (λ events. LeadTo d events mid) → step mid last ≡ out
    → IfSome (option_map (λ events. events ++ last ∷ []) events) (λ events. LeadThen d events mid out)
leads_then d mid last out None lead is = tt
leads_then d mid last out (Some events) lead is = last_then d mid events last out lead is

-- ---- a click in a viewer's text

pub in_track : (k : Track) (column : ℕ) → column + 1 < width_of k → track_at (left_of k + 1 + column) ≡ k
in_track User column low = ap (λ (b : Bool). if b then User else System)
    (lt-ltb (0 + 1 + column) SYSTEM_LEFT (omega (arith, low)))
in_track System column low = ap (λ (b : Bool). if b then User else System)
    (le-ltb (SYSTEM_LEFT + 1 + column) SYSTEM_LEFT (omega arith))

pub in_display : (k : Track) (column : ℕ) → column + 1 < width_of k → left_of k + 1 + column < COLUMNS
in_display User column low = omega (arith, low)
in_display System column low = omega (arith, low)

module _ (d : Desktop) (v column row : ℕ) (columns : IsColumns d.columns) (top : IsOnTop v d.columns)
    (narrow : column + 1 < width d v) (low : row < rows_of d v) where
  pub is_body : region_at d (left d v + 1 + column) (frame_row d v row) ≡ Body v
  unfolding region_at
  is_body =
      let x = left d v + 1 + column in
      let y = frame_row d v row in
      let seen : seen_at d.columns x y ≡ Some v = seen_across d.columns v x y columns top
      (in_track (track_of d.columns v) column narrow) (omega (arith, low)) (omega (arith, low)) in
      let below : (y + 1 == placed_top d.columns v) ≡ false = elim (eqb_tells (y + 1) (placed_top d.columns v)) [
        | inl same ↦ absurd (let no : ⊥ = omega (arith, same.1, low) in no)
        | inr other ↦ other.0
      ] in
      let right : (x == left d v) ≡ false = elim (eqb_tells x (left d v)) [
        | inl same ↦ absurd (let no : ⊥ = omega (arith, same.1) in no)
        | inr other ↦ other.0
      ] in
      ap (part_of d x y) seen ∙ (λ k. if below k then Menu v else (if right k then Bar v else Body v))

  pub on_display : is_on_display (left d v + 1 + column) (frame_row d v row) ≡ true
  on_display =
      let y = frame_row d v row in
      let here = seen_left d.columns v y columns top (omega (arith, low)) (omega (arith, low)) in
      λ k. lt-ltb (left d v + 1 + column) COLUMNS (in_display (track_of d.columns v) column narrow) k
      && lt-ltb y ROWS (let fits = here.top in omega (arith, low, fits)) k

  pub column_is : text_column d v (left d v + 1 + column) ≡ column
  column_is = omega (arith, narrow)

  pub row_is : text_row d v (frame_row d v row) ≡ row
  row_is = omega (arith, low)

  pub is_done_at : raw newest_version d (text_click d v column row)
      ≡ Ok (with_caret d v (position_at (bytes_of (main_of d v)) (viewer_of d v).org column row))
  unfolding raw pointed text_click text_position done_at
  is_done_at =
      let x = left d v + 1 + column in
      let y = frame_row d v row in
      (λ k. unless (on_display k && on_display k) outside (pointed newest_version d (is_body k) Left x y x y))
      ∙ (λ k. Ok (with_caret d v (position_at (bytes_of (main_of d v)) (viewer_of d v).org (column_is k) (row_is k))))

-- ---- a cell at which a character is shown

pub record IsShown (d : Desktop) (v q : ℕ) (cell : ℕ × ℕ) : Type 0 where
  pub column : ℕ
  pub row : ℕ
  pub is : (left d v + 1 + column, frame_row d v row) ≡ cell
  pub narrow : column + 1 < width d v
  pub low : row < rows_of d v
  pub there : position_at (bytes_of (main_of d v)) (viewer_of d v).org column row ≡ q

pub cell_shown : (d : Desktop) (v q : ℕ) (cell : ℕ × ℕ) → q ≤ length (bytes_of (main_of d v)) → character_cell d v q ≡ Some cell
    → IsShown d v q cell
unfolding character_cell display_cell
cell_shown d v q cell within is =
    let bs = bytes_of (main_of d v) in
    let org : ℕ = (viewer_of d v).org in
    let column : ℕ = column_of bs org q in
    let row : ℕ = row_of bs org q in
    (elim (nat_le org q && is_inside (text_width d v) (rows_of d v) column row) as (λ (b : Bool).
    (nat_le org q && is_inside (text_width d v) (rows_of d v) column row) ≡ b
    → option_map (display_cell d v) (if b then Some (column, row) else None) ≡ Some cell
    → IsShown d v q cell) [
      | true ↦ λ inside found.
          let parts = and_parts (nat_le org q) (is_inside (text_width d v) (rows_of d v) column row) inside in
          let both = and_parts (nat_lt row (rows_of d v)) (nat_lt column (text_width d v)) parts.1 in
          let slim = ltb-true column (text_width d v) both.1 in
          record {
            column = column;
            row = row;
            is = cc found;
            narrow = omega (arith, slim);
            low = ltb-true row (rows_of d v) both.0;
            there = own_there bs org q (leb-true org q parts.0) within;
          }
      | false ↦ λ out none. absurd (cc none)
    ]) refl is

module _ (d : Desktop) (v q : ℕ) (cell : ℕ × ℕ) (columns : IsColumns d.columns) (top : IsOnTop v d.columns)
    (shown : IsShown d v q cell) where
  pub shown_body : region_at d cell.0 cell.1 ≡ Body v
  shown_body = subst (λ (c : ℕ × ℕ). region_at d c.0 c.1 ≡ Body v) shown.is
      (is_body d v shown.column shown.row columns top shown.narrow shown.low)

  pub shown_on : is_on_display cell.0 cell.1 ≡ true
  shown_on = subst (λ (c : ℕ × ℕ). is_on_display c.0 c.1 ≡ true) shown.is
      (on_display d v shown.column shown.row columns top shown.narrow shown.low)

  pub shown_position : text_position d v cell.0 cell.1 ≡ q
  unfolding text_position
  shown_position = subst (λ (c : ℕ × ℕ). text_position d v c.0 c.1 ≡ q) shown.is
      ((λ k. position_at (bytes_of (main_of d v)) (viewer_of d v).org
      (column_is d v shown.column shown.row columns top shown.narrow shown.low k)
      (row_is d v shown.column shown.row columns top shown.narrow shown.low k)) ∙ shown.there)

  -- the middle button calls the word there
  pub word_pressed : raw newest_version d (middle_press cell) ≡ after_call newest_version d v false q
  unfolding raw pointed done_at
  word_pressed = (λ k. unless (shown_on k && shown_on k) outside
      (pointed newest_version d (shown_body k) Middle cell.0 cell.1 cell.0 cell.1))
      ∙ ap (after_call newest_version d v false) shown_position
