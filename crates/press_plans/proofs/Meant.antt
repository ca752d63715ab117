-- The events that presses come to at the desk.
use Rattle.std.proofs.Common.{◌≡◌, ◌≢◌, ◌∙◌, ℕ, true, false, refl, sym, ap, [], ◌∷◌}
use Rattle.std.specs.Prelude.{Bool, Option, Some, None, ◌&&◌, not, is_some, if◌then◌else◌, unwrap_or, List}
use Rattle.std.specs.List.{list_any}
use Rattle.std.proofs.lemmas.Bool.{cond-true, cond-false}
use Rattle.event_bytes.specs.declared.event.Event.{Event}
use Rattle.event_bytes.specs.declared.event.Event.TheVariants as event
use Rattle.desktop_definitions.specs.Desktop.{Desktop}
use Rattle.desktop_definitions.specs.Listing.{entries_of}
use Rattle.starter_desktop.specs.StarterDesktop.{tool_event}
use Rattle.desk_journal.specs.Views.{DeskInfo, Place as ViewerPlace, desk_info, place_at}
use Rattle.screen_pictures.specs.declared.cell.Cell.{Cell}
use Rattle.screen_reading.specs.Extended.{kept_end}
use Rattle.press_tasks.specs.declared.task.Task.TheVariants as kind
use Rattle.press_plans.specs.Listed.{begins_in_viewer, event_meant, is_tool, lacks_tool, middle_or}
use Rattle.status_line.specs.Deeds.{is_middle}
use Rattle.screen_reading.specs.Aims.{caret_cell}
use Rattle.desktop_definitions.specs.Shown.{shown_screen}
use Rattle.press_plans.specs.Plans.{Events, caret_seen, draw_of, empty_plan, is_call, plan_of, posted_plan}

no_tool : (middle lacks : Bool) (tool other : Event) → middle ≡ false
    → (if middle && lacks then tool else other) ≡ other
no_tool middle lacks tool other is = rw is refl

-- which calls no word, and is none of the marker
pub unlisted : (d : Desktop) (e : Event) → ((x y : ℕ) → e ≢ event.Mark x y) → is_call e ≡ false → event_meant d e ≡ e
unfolding event_meant
unlisted d (event.Typed bytes) marks is = refl
unlisted d (event.Key key) marks is = refl
unlisted d (event.Mark x y) marks is = absurd (marks x y refl)
unlisted d (event.Point keys x0 y0 x1 y1) marks is = no_tool (is_middle keys) (lacks_tool d (x0, y0)) _ _ is
unlisted d (event.File name bytes) marks is = refl

module _ (before : DeskInfo) (cell : Option (ℕ × ℕ)) where
  -- an event that calls no word, and one that does
  plain_plan : (e : Event) → is_call e ≡ false → Events (e ∷ []) None ≡ posted_plan e before cell
  unfolding posted_plan
  plain_plan e is = sym (ap (Events (e ∷ [])) (cond-false (is_call e) (Some (kind.After before cell)) None is))

  call_plan : (e : Event) → is_call e ≡ true → Events (e ∷ []) (Some (kind.After before cell)) ≡ posted_plan e before cell
  unfolding posted_plan
  call_plan e is = sym (ap (Events (e ∷ [])) (cond-true (is_call e) (Some (kind.After before cell)) None is))

  -- what was there where the button went down, and whether the text of all commands is
  in_viewer_plan : (middle there tool : Bool) (t e : Event) → there ≡ true → is_call e ≡ true
      → Events (e ∷ []) (Some (kind.After before cell)) ≡ posted_plan (if middle && (not there && not tool) then t else e) before cell
  in_viewer_plan true true tool t e is call = call_plan e call
  in_viewer_plan false true tool t e is call = call_plan e call
  in_viewer_plan middle false tool t e is call = absurd cc

  on_empty_plan : (middle there tool : Bool) (t e : Event) → middle ≡ true → there ≡ false → is_call e ≡ true
      → is_call t ≡ false
      → (if tool then Events (e ∷ []) (Some (kind.After before cell)) else Events (t ∷ []) None)
      ≡ posted_plan (if middle && (not there && not tool) then t else e) before cell
  on_empty_plan true false true t e m is call none = call_plan e call
  on_empty_plan true false false t e m is call none = plain_plan t none
  on_empty_plan true true tool t e m is call none = absurd cc
  on_empty_plan false there tool t e m is call none = absurd cc

module _ (d : Desktop) where
  pub uncalled : (e meant : Event) → is_call e ≡ false → meant ≡ event_meant d e
      → Events (meant ∷ []) None ≡ plan_of (kind.Post e) d
  unfolding plan_of event_meant
  uncalled (event.Typed bytes) meant is made = rw made (plain_plan (desk_info d) (caret_seen d (event.Typed bytes)) (event.Typed bytes) refl)
  uncalled (event.Key key) meant is made = rw made (plain_plan (desk_info d) (caret_seen d (event.Key key)) (event.Key key) refl)
  uncalled (event.Mark x y) meant is made = rw made (plain_plan (desk_info d) (caret_seen d (event.Mark x y))
      (event.Mark x (middle_or y (place_at d (x, y)))) refl)
  uncalled (event.Point keys x0 y0 x1 y1) meant is made =
      let same = no_tool (is_middle keys) (lacks_tool d (x0, y0)) tool_event (event.Point keys x0 y0 x1 y1) is in
      ap (λ (e : Event). Events (e ∷ []) None) (made ∙ same)
      ∙ plain_plan (desk_info d) (caret_seen d (event.Point keys x0 y0 x1 y1)) (event.Point keys x0 y0 x1 y1) is
      ∙ ap (λ (e : Event). posted_plan e (desk_info d) (caret_seen d (event.Point keys x0 y0 x1 y1))) (sym same)
  uncalled (event.File name bytes) meant is made = rw made (plain_plan (desk_info d) (caret_seen d (event.File name bytes)) (event.File name bytes) refl)

  pub called_in_viewer : (e : Event) → is_call e ≡ true → begins_in_viewer d e ≡ true
      → Events (e ∷ []) (Some (kind.After (desk_info d) (caret_cell (shown_screen d)))) ≡ plan_of (kind.Post e) d
  unfolding plan_of event_meant
  called_in_viewer (event.Point keys x0 y0 x1 y1) call there =
      let e : Event = event.Point keys x0 y0 x1 y1 in
      ap (λ (cell : Option (ℕ × ℕ)). Events (e ∷ []) (Some (kind.After (desk_info d) cell)))
      (sym (cond-true (begins_in_viewer d e) (caret_cell (shown_screen d)) None there))
      ∙ in_viewer_plan (desk_info d) (caret_seen d e) (is_middle keys) (is_some (place_at d (x0, y0))) (list_any is_tool (entries_of d))
      tool_event (event.Point keys x0 y0 x1 y1) there call
  called_in_viewer (event.Typed bytes) call there = absurd cc
  called_in_viewer (event.Key key) call there = absurd cc
  called_in_viewer (event.Mark x y) call there = absurd cc
  called_in_viewer (event.File name bytes) call there = absurd cc

  pub called_on_empty : (e : Event) → is_call e ≡ true → begins_in_viewer d e ≡ false
      → empty_plan e (desk_info d) (entries_of d) ≡ plan_of (kind.Post e) d
  unfolding plan_of event_meant
  called_on_empty (event.Point keys x0 y0 x1 y1) call none =
      let e : Event = event.Point keys x0 y0 x1 y1 in
      ap (λ (cell : Option (ℕ × ℕ)). if list_any is_tool (entries_of d)
      then Events (e ∷ []) (Some (kind.After (desk_info d) cell)) else Events (tool_event ∷ []) None)
      (sym (cond-false (begins_in_viewer d e) (caret_cell (shown_screen d)) None none))
      ∙ on_empty_plan (desk_info d) (caret_seen d e) (is_middle keys) (is_some (place_at d (x0, y0))) (list_any is_tool (entries_of d))
      tool_event (event.Point keys x0 y0 x1 y1) call none call refl
  called_on_empty (event.Typed bytes) call none = absurd cc
  called_on_empty (event.Key key) call none = absurd cc
  called_on_empty (event.Mark x y) call none = absurd cc
  called_on_empty (event.File name bytes) call none = absurd cc

-- what is selected is extended
pub extended : (start at : ℕ × ℕ) (d : Desktop) (place : Option ViewerPlace) (screen : List (List Cell)) (kept : Option (ℕ × ℕ))
    (from : ℕ × ℕ) (drawn : Event) → place ≡ place_at d start → screen ≡ shown_screen d → kept ≡ kept_end place start at screen
    → from ≡ unwrap_or kept start → drawn ≡ draw_of from at → Events (drawn ∷ []) None ≡ plan_of (kind.Extend start at) d
unfolding plan_of
extended start at d place screen kept from drawn place_is screen_is kept_is from_is drawn_is =
    let here : kept ≡ kept_end (place_at d start) start at (shown_screen d) =
    kept_is ∙ (λ k. kept_end (place_is k) start at (screen_is k)) in
    ap (λ (e : Event). Events (e ∷ []) None) drawn_is
    ∙ ap (λ (cell : ℕ × ℕ). Events (draw_of cell at ∷ []) None) from_is
    ∙ ap (λ (end : Option (ℕ × ℕ)). Events (draw_of (unwrap_or end start) at ∷ []) None) here
