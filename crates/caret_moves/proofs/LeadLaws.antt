-- The events for a wish lead the caret where it is wished, and change nothing else.
use Rattle.std.specs.Prelude.{◌≡◌, ℕ, zero, suc, ◌+◌, ◌-◌, ◌<◌, ◌≤◌, ◌==◌, ◌&&◌, nat_le, nat_lt, min, Bool, true, false}
use Rattle.std.specs.Prelude.{◌⊎◌, if◌then◌else◌, List, [], ◌∷◌, length, Option, Some, None, IfSome, IsSome, Result, Ok, Err, IfOk}
use Rattle.std.specs.Option.{unwrap_or, ok_or}
use Rattle.std.proofs.Common.{refl, sym, ap, subst, ◌∙◌, inl, inr, arith}
use Rattle.std.proofs.lemmas.Bool.{eq-eqb, eqb-true, le-leb, ltb-true, and_parts}
use Rattle.std.proofs.lemmas.List.{length-map}
use Rattle.event_bytes.specs.declared.keys.Key.TheVariants.{Back}
use Rattle.event_bytes.specs.declared.event.Event.{Event}
use Rattle.event_bytes.specs.declared.event.Event.TheVariants.{Key}
use Rattle.event_bytes.specs.Bytes.{carriage_return}
use Rattle.piece_ring.specs.declared.piece.Look.{Look}
use Rattle.viewer_tracks.specs.declared.display.Track.{Track}
use Rattle.viewer_tracks.specs.declared.display.Track.TheVariants.{User, System}
use Rattle.viewer_tracks.specs.Columns.{IsOnTop, track_of, placed_bottom, placed_top}
use Rattle.screen_pictures.specs.Picture.{width_of}
use Rattle.text_frames.specs.Lines.{begins_line}
use Rattle.text_frames.specs.Cells.{column_of, row_of, position_at}
use Rattle.text_frames.specs.Rules.{is_in_rows}
use Rattle.desktop_definitions.specs.declared.reply.Reply.TheVariants.{Done}
use Rattle.desktop_definitions.specs.declared.viewer.Viewer.{Viewer}
use Rattle.desktop_definitions.specs.declared.viewer.Caret.{Caret}
use Rattle.desktop_definitions.specs.Limits.{most_written, most_held}
use Rattle.desktop_definitions.specs.Tables.{text_numbered}
use Rattle.desktop_definitions.specs.Desktop.{Desktop, characters_held}
use Rattle.desktop_definitions.specs.Viewers.{bare_viewer, viewer_in, viewer_of, main_of, text_in, text_of, rows_of}
use Rattle.desktop_definitions.specs.Viewers.{with_org, with_caret}
use Rattle.desktop_definitions.specs.Change.{bytes_of, caret_shown, deletion}
use Rattle.desktop_definitions.specs.Changed.{CountsHeld}
use Rattle.desktop_definitions.specs.Gesture.{width}
use Rattle.desktop_definitions.specs.Keys.{after_key, after_typing, without_character_before}
use Rattle.desktop_definitions.specs.Step.{step, step_in, raw, outcome_after, outcome_of, fits}
use Rattle.desktop_definitions.specs.Sound.{IsSound}
use Rattle.desktop_definitions.proofs.ChangeLaws.{with_org_counts, with_caret_counts, counts_further, deletion_counts}
use Rattle.desktop_definitions.proofs.ChangeLaws.{caret_shown_counts, is_there}
use Rattle.desktop_definitions.proofs.RowLaws.{shown_rest, fit_sound}
use Rattle.desktop_definitions.proofs.StepLaws.{settled_done}
use Rattle.desk_input.specs.Lines.{lines_in_sight}
use Rattle.desk_input.specs.Scrolling.{line_presses, LeadTo}
use Rattle.desk_input.proofs.ScrollLaws.{line_leads, org_found, org_own, there}
use Rattle.caret_moves.specs.declared.wish.Step.{Step as AStep}
use Rattle.caret_moves.specs.declared.wish.CaretCommand.{CaretCommand}
use Rattle.caret_moves.specs.declared.wish.KeyWish.{KeyWish}
use Rattle.caret_moves.specs.declared.wish.KeyWish.TheVariants.{Select, SelectOn, SelectAll, CutSelected, CutLine}
use Rattle.caret_moves.specs.declared.wish.KeyWish.TheVariants.{Step, DeleteNext, Call, CallLine, Mark as MarkWish, Break, Place, Reach}
use Rattle.caret_moves.specs.Filling.{line_break, IsBreak}
use Rattle.caret_moves.specs.declared.wish.WhyNot.{WhyNot}
use Rattle.caret_moves.specs.declared.wish.WhyNot.TheVariants.{NoRow, TooFar, NothingBehind, PastEdge, NotInSight}
use Rattle.caret_moves.specs.Steps.{column_cut}
use Rattle.caret_moves.specs.Leading.{text_width, text_click, step_goal_in, org_in, has_column, landing_in, stood, after_wish}
use Rattle.caret_moves.specs.Leading.{click_for, org_presses, events_to, and_back, led_from, led_with, led, Fulfils, DoesWish}
use Rattle.caret_moves.proofs.RowLaws.{org_shown, org_begins, org_from, sight_is, lands_there}
use Rattle.caret_moves.proofs.StepLaws.{stepped_within}
use Rattle.caret_moves.proofs.CallLaws.{call_leads}
use Rattle.caret_moves.specs.Leading.{near_events, place_wished, line_end, and_line_end, ended_led, break_led, break_in, LeadThen, BreaksLine}
use Rattle.caret_moves.proofs.BreakLaws.{break_low, breaks_behind}
use Rattle.caret_moves.proofs.ClickLaws.{is_done_at, leads_more, leads_then}
use Rattle.caret_moves.proofs.LineLaws.{line_calls, mark_leads}
use Rattle.caret_moves.proofs.StretchLaws.{step_selected, step_selected_on, all_selected, selected_cut, line_cut}

module _ (d : Desktop) (v : ℕ) (sound : IsSound d) (top : IsOnTop v d.columns) where
  caret_fits : (b p : ℕ) → fits (with_caret (with_org d v b) v p) ≡ true
  caret_fits b p =
      let counts = with_org_counts d v b in
      let more = with_caret_counts (with_org d v b) v p in
      let held : characters_held (with_caret (with_org d v b) v p) ≡ characters_held d =
      (let c = counts.counted in let m = more.counted in omega (arith, c, m)) in
      (λ k. nat_le ((more.written ∙ counts.written) k) most_written && nat_le (held k) most_held) ∙ fit_sound d sound

  click_steps : (t column row : ℕ) → column + 1 < width d v → row < rows_of d v
      → step (with_org d v t) (text_click d v column row)
      ≡ outcome_of (with_caret (with_org d v t) v (position_at (bytes_of (main_of d v)) t column row)) Done
  unfolding step step_in text_click
  click_steps t column row narrow low =
      let x : Desktop = with_org d v t in
      let p : ℕ = position_at (bytes_of (main_of d v)) t column row in
      let counts = counts_further d x (with_caret x v p) 0 0 0 0 (with_org_counts d v t) (with_caret_counts x v p) in
      ap (outcome_after x) (is_done_at x v column row sound.shaped.places.columns_hold top narrow low
      ∙ ap (λ (w : Viewer). Ok (with_caret x v (position_at (bytes_of (text_in d.texts w.main)) w.org column row)))
      (org_found d v (there d v sound top) t))
      ∙ settled_done x (with_caret x v p) (shown_rest d (with_caret x v p) counts.numbers counts.viewers sound.shown)
      (caret_fits t p)

  module _ (p : ℕ) (within : p ≤ length (main_of d v)) where
    bytes_long : length (bytes_of (main_of d v)) ≡ length (main_of d v)
    bytes_long = length-map (main_of d v) (λ (c : ℕ × Look). c.0)

    p_within : p ≤ length (bytes_of (main_of d v))
    p_within = omega (arith, within, bytes_long)

    pub org_low : org_in d v p ≤ length (bytes_of (main_of d v))
    unfolding org_in
    org_low = let is = org_from (bytes_of (main_of d v)) (rows_of d v) (viewer_of d v).org p p_within in omega (arith, is, p_within)

    org_or : (org_in d v p ≡ (viewer_of d v).org) ⊎ (begins_line (bytes_of (main_of d v)) (org_in d v p) ≡ true)
    unfolding org_in
    org_or = org_begins (bytes_of (main_of d v)) (rows_of d v) (viewer_of d v).org p p_within

    org_leads : IfSome (org_presses d v (org_in d v p)) (λ events. LeadTo d events (with_org d v (org_in d v p)))
    unfolding org_presses
    org_leads =
        let t : ℕ = org_in d v p in
        let org : ℕ = (viewer_of d v).org in
        (elim (t == org) as (λ (b : Bool). (t == org) ≡ b
        → IfSome (if b then Some [] else line_presses d v t) (λ events. LeadTo d events (with_org d v t))) [
          | true ↦ λ is. sym (ap (λ (org : ℕ). with_org d v org) (eqb-true t org is) ∙ org_own d v (there d v sound top))
          | false ↦ λ is. line_leads d v sound top t org_low (elim org_or [
            | inl same ↦ absurd (let no : true ≡ false = sym (eq-eqb t org same) ∙ is in cc no)
            | inr begins ↦ begins
          ])
        ]) refl

    -- The events lead the caret there.
    pub events_lead : 0 < rows_of d v → IfSome (events_to d v p) (λ events. LeadTo d events (stood d v p))
    unfolding events_to stood landing_in click_for org_in
    events_lead some =
        let bs = bytes_of (main_of d v) in
        let t : ℕ = org_in d v p in
        let shown : is_in_rows bs (rows_of d v) t p ≡ true =
        org_shown bs (rows_of d v) (viewer_of d v).org p p_within some in
        let row : unwrap_or (lines_in_sight bs (rows_of d v) t p) 0 ≡ row_of bs t p = sight_is bs (rows_of d v) t p shown in
        let low : row_of bs t p < rows_of d v = ltb-true _ _ (and_parts _ _ shown).1 in
        leads_more d (with_org d v t) (stood d v p) (click_for d v t p) (org_presses d v t) org_leads
        (ap (λ (r : ℕ). step (with_org d v t) (text_click d v (column_cut bs (text_width d v) t p) r)) row
        ∙ click_steps t (column_cut bs (text_width d v) t p) (row_of bs t p) (cut_narrow (track_of d.columns v)) low)
      where
        cut_narrow : (k : Track) → min (column_of (bytes_of (main_of d v)) (org_in d v p) p) (width_of k - 1 - 1) + 1 < width_of k
        cut_narrow User = omega arith
        cut_narrow System = omega arith

    -- It stands at the very position where that has a column.
    pub lands_in : has_column d v p ≡ true → landing_in d v p ≡ p
    unfolding has_column landing_in org_in
    lands_in is = lands_there (bytes_of (main_of d v)) (org_in d v p) p
        (org_from (bytes_of (main_of d v)) (rows_of d v) (viewer_of d v).org p p_within) p_within (text_width d v)
        (ltb-true _ _ is)

  -- ---- the character before the caret is deleted

  module _ (t p : ℕ) (some : p + 1 ≤ length (main_of d v)) where
    abbrev seat : Desktop
    seat = with_caret (with_org d v t) v (p + 1)

    abbrev place : Caret
    place = record { viewer = v; position = p + 1 }

    main_is : (viewer_of seat v).main ≡ (viewer_of d v).main
    main_is = ap (λ (w : Viewer). w.main) (org_found d v (there d v sound top) t)

    main_there : IsSome (text_numbered seat.texts (viewer_of seat v).main)
    main_there = subst (λ (n : ℕ). IsSome (text_numbered d.texts n)) (sym main_is)
        (sound.shaped.viewers.each v (viewer_of d v)
        (is_there (viewer_in d.viewers v) bare_viewer (there d v sound top))).main

    main_long : p + 1 ≤ length (text_of seat (viewer_of seat v).main)
    main_long = subst (λ (n : ℕ). p + 1 ≤ length (text_in d.texts n)) (sym main_is) some

    done_by : (new : Desktop) (fewer : ℕ) → CountsHeld d new 0 fewer → outcome_after seat (Ok new) ≡ outcome_of new Done
    done_by new fewer counts =
        let c = counts.counted in let h = sound.held_within in let w = sound.written_within in let e = counts.written in
        settled_done seat new (shown_rest d new counts.numbers counts.viewers sound.shown)
        (λ k. le-leb new.written most_written (omega (arith, w, e)) k
        && le-leb (characters_held new) most_held (omega (arith, c, h)) k)

    seat_counts : CountsHeld d seat 0 0
    seat_counts = counts_further d (with_org d v t) seat 0 0 0 0 (with_org_counts d v t)
        (with_caret_counts (with_org d v t) v (p + 1))

    pub back_steps : step seat (Key Back) ≡ outcome_of (without_character_before seat place) Done
    unfolding step step_in raw after_key
    back_steps =
        let n : ℕ = (viewer_of seat v).main in
        let cut : Desktop = deletion seat n (p + 1 - 1) (p + 1) in
        let new : Desktop = caret_shown cut v (p + 1 - 1) in
        elim (p + 1 == 0) as (λ (b : Bool). outcome_after seat (Ok (if b then seat else new))
        ≡ outcome_of (if b then seat else new) Done) [
          | true ↦ done_by seat 0 seat_counts
          | false ↦ done_by new (0 + (p + 1 - (p + 1 - 1)) + 0)
              (counts_further d cut new 0 (0 + (p + 1 - (p + 1 - 1))) 0 0
              (counts_further d seat cut 0 0 0 (p + 1 - (p + 1 - 1)) seat_counts
              (deletion_counts seat n (p + 1 - 1) (p + 1) main_there (omega arith) main_long))
              (caret_shown_counts cut v (p + 1 - 1)))
        ]

-- ---- the theorem of wishes

if_ok_or : {X E : Type 0} (P : X → Type 0) (o : Option X) (e : E) → IfSome o P → IfOk (ok_or o e) P
if_ok_or P None e holds = tt
if_ok_or P (Some x) e holds = holds

module _ (d : Desktop) (sound : IsSound d) (c : Caret) (is : d.caret ≡ Some c) where
  c_top : IsOnTop c.viewer d.columns
  c_top = (sound.shaped.marks.caret_stands c is).placed

  c_within : c.position ≤ length (main_of d c.viewer)
  c_within = (sound.shaped.marks.caret_stands c is).within

  step_led : (s : AStep) → 0 < rows_of d c.viewer
      → IfOk (led_from d c.viewer c.position (Step s)) (Fulfils d c (Step s))
  unfolding led_from after_wish step_goal_in
  step_led s some =
      let bs = bytes_of (main_of d c.viewer) in
      let long : length bs ≡ length (main_of d c.viewer) = length-map (main_of d c.viewer) (λ (x : ℕ × Look). x.0) in
      let low = stepped_within bs (text_width d c.viewer) (rows_of d c.viewer) c.position s (omega (arith, c_within, long)) in
      if_ok_or (λ events. LeadTo d events (stood d c.viewer (step_goal_in d c.viewer c.position s)))
      (events_to d c.viewer (step_goal_in d c.viewer c.position s)) TooFar
      (events_lead d c.viewer sound c_top (step_goal_in d c.viewer c.position s) (omega (arith, low, long)) some)

  next_led : 0 < rows_of d c.viewer → c.position + 1 ≤ length (main_of d c.viewer) → has_column d c.viewer (c.position + 1) ≡ true
      → IfSome (and_back (events_to d c.viewer (c.position + 1))) (λ events. LeadTo d events (after_wish d c DeleteNext))
  unfolding after_wish stood
  next_led some low column =
      let p = c.position in
      let t : ℕ = org_in d c.viewer (p + 1) in
      let lands = lands_in d c.viewer sound c_top (p + 1) low column in
      let spot : Caret = record { viewer = c.viewer; position = p + 1 } in
      leads_more d (stood d c.viewer (p + 1)) (without_character_before (stood d c.viewer (p + 1)) spot) (Key Back) (events_to d c.viewer (p + 1))
      (events_lead d c.viewer sound c_top (p + 1) low some)
      (subst (λ (q : ℕ). step (with_caret (with_org d c.viewer t) c.viewer q) (Key Back)
      ≡ outcome_of (without_character_before (with_caret (with_org d c.viewer t) c.viewer q) spot) Done) (sym lands)
      (back_steps d c.viewer sound c_top t p low))

  delete_leads : 0 < rows_of d c.viewer → IfOk (led_from d c.viewer c.position DeleteNext) (Fulfils d c DeleteNext)
  unfolding led_from
  delete_leads some = (elim (nat_lt c.position (length (main_of d c.viewer))) as (λ (b : Bool).
      nat_lt c.position (length (main_of d c.viewer)) ≡ b
      → IfOk (if b then (if has_column d c.viewer (c.position + 1) then ok_or (and_back (events_to d c.viewer (c.position + 1))) TooFar
      else Err PastEdge) else Err NothingBehind) (λ events. LeadTo d events (after_wish d c DeleteNext))) [
        | true ↦ λ more. (elim (has_column d c.viewer (c.position + 1)) as (λ (b : Bool). has_column d c.viewer (c.position + 1) ≡ b
            → IfOk (if b then ok_or (and_back (events_to d c.viewer (c.position + 1))) TooFar else Err PastEdge)
            (λ events. LeadTo d events (after_wish d c DeleteNext))) [
              | true ↦ λ column. if_ok_or (λ events. LeadTo d events (after_wish d c DeleteNext))
                  (and_back (events_to d c.viewer (c.position + 1))) TooFar
                  (next_led some (let low = ltb-true _ _ more in omega (arith, low)) column)
              | false ↦ λ none. tt
            ]) refl
        | false ↦ λ none. tt
      ]) refl

  stand_led : 0 < rows_of d c.viewer → (p : ℕ) → p ≤ length (main_of d c.viewer)
      → IfSome (events_to d c.viewer p) (λ events. LeadTo d events (stood d c.viewer p))
  stand_led some p low = events_lead d c.viewer sound c_top p low some

  -- ---- a line is broken

  typed_step : (x : Desktop) → step x line_end ≡ outcome_after x (after_typing x (carriage_return ∷ []))
  unfolding step step_in raw
  typed_step x = refl

  abbrev Ends : ℕ → List Event → Type 0
  Ends q events =
      let mid = with_caret (with_org d c.viewer (org_in d c.viewer q)) c.viewer q in
      LeadThen d events mid (outcome_after mid (after_typing mid (carriage_return ∷ [])))

  near_lead : 0 < rows_of d c.viewer → (q : ℕ) → q ≤ length (main_of d c.viewer)
      → IfSome (near_events d c.viewer q) (λ events. LeadTo d events (stood d c.viewer q))
  unfolding near_events
  near_lead some q low = elim (org_in d c.viewer q == (viewer_of d c.viewer).org) as (λ (b : Bool).
      IfSome (if b then events_to d c.viewer q else None) (λ events. LeadTo d events (stood d c.viewer q))) [
        | true ↦ events_lead d c.viewer sound c_top q low some
        | false ↦ tt
      ]

  place_leads : (n : ℕ) → 0 < rows_of d c.viewer
      → IfOk (led_from d c.viewer c.position (Place n)) (Fulfils d c (Place n))
  unfolding led_from after_wish
  place_leads n some = if_ok_or (λ events. LeadTo d events (stood d c.viewer (place_wished d c.viewer n)))
      (near_events d c.viewer (place_wished d c.viewer n)) NotInSight
      (near_lead some (place_wished d c.viewer n) (omega arith))

  reach_leads : (n : ℕ) → 0 < rows_of d c.viewer
      → IfOk (led_from d c.viewer c.position (Reach n)) (Fulfils d c (Reach n))
  unfolding led_from after_wish
  reach_leads n some = if_ok_or (λ events. LeadTo d events (stood d c.viewer (place_wished d c.viewer n)))
      (events_to d c.viewer (place_wished d c.viewer n)) TooFar
      (stand_led some (place_wished d c.viewer n) (omega arith))

  ended_there : 0 < rows_of d c.viewer → (q : ℕ) → q ≤ length (main_of d c.viewer) → has_column d c.viewer q ≡ true
      → IfSome (and_line_end (near_events d c.viewer q)) (Ends q)
  unfolding stood
  ended_there some q low column =
      let v : ℕ = c.viewer in
      let mid : Desktop = with_caret (with_org d v (org_in d v q)) v q in
      leads_then d mid line_end (outcome_after mid (after_typing mid (carriage_return ∷ []))) (near_events d v q)
      (subst (λ (r : ℕ). IfSome (near_events d v q) (λ events. LeadTo d events (with_caret (with_org d v (org_in d v q)) v r)))
      (lands_in d v sound c_top q low column) (near_lead some q low))
      (typed_step mid)

  ended_leads : 0 < rows_of d c.viewer → (q : ℕ) → q ≤ length (main_of d c.viewer) → IfOk (ended_led d c.viewer q) (Ends q)
  ended_leads some q low = (elim (has_column d c.viewer q) as (λ (b : Bool). has_column d c.viewer q ≡ b
      → IfOk (if b then ok_or (and_line_end (near_events d c.viewer q)) NotInSight else Err PastEdge) (Ends q)) [
        | true ↦ λ column. if_ok_or (Ends q) (and_line_end (near_events d c.viewer q)) NotInSight
            (ended_there some q low column)
        | false ↦ λ none. tt
      ]) refl

  by_break : 0 < rows_of d c.viewer → (o : Option ℕ) → IfSome o (λ q. q ≤ length (main_of d c.viewer))
      → IfOk (break_led d c.viewer c.position o) (λ events. BreaksLine d events c o)
  by_break some None low = tt
  by_break some (Some q) low = elim (q == c.position) as (λ (b : Bool).
      IfOk (if b then Ok (line_end ∷ []) else ended_led d c.viewer q) (λ events.
      let mid = if b then d else with_caret (with_org d c.viewer (org_in d c.viewer q)) c.viewer q in
      LeadThen d events mid (outcome_after mid (after_typing mid (carriage_return ∷ []))))) [
        | true ↦ (refl, typed_step d)
        | false ↦ ended_leads some q low
      ]

  breaks_within : (n : ℕ) → IfSome (break_in d c.viewer n c.position) (λ q. q ≤ length (main_of d c.viewer))
  unfolding break_in
  breaks_within n =
      let long : length (bytes_of (main_of d c.viewer)) ≡ length (main_of d c.viewer) =
      length-map (main_of d c.viewer) (λ (x : ℕ × Look). x.0) in
      subst (λ (m : ℕ). IfSome (line_break (bytes_of (main_of d c.viewer)) (text_width d c.viewer) n c.position) (λ q. q ≤ m))
      long (break_low (bytes_of (main_of d c.viewer)) c.position (text_width d c.viewer) n (omega (arith, c_within, long)))

  break_leads : (n : ℕ) → 0 < rows_of d c.viewer
      → IfOk (led_from d c.viewer c.position (Break n)) (Fulfils d c (Break n))
  unfolding led_from
  break_leads n some = by_break some (break_in d c.viewer n c.position) (breaks_within n)

  pub broken_behind : (n : ℕ) → IfSome (break_in d c.viewer n c.position)
      (IsBreak (bytes_of (main_of d c.viewer)) c.position)
  unfolding break_in
  broken_behind n = breaks_behind (bytes_of (main_of d c.viewer)) c.position (text_width d c.viewer) n

  text_long : c.position ≤ length (bytes_of (main_of d c.viewer))
  text_long = let long = length-map (main_of d c.viewer) (λ (x : ℕ × Look). x.0) in
      let is : length (bytes_of (main_of d c.viewer)) ≡ length (main_of d c.viewer) = long in omega (arith, c_within, is)

  some_place : 0 < rows_of d c.viewer → placed_bottom d.columns c.viewer < placed_top d.columns c.viewer
  some_place some = omega (arith, some)

  mark_led : 0 < rows_of d c.viewer → IfOk (led_from d c.viewer c.position MarkWish) (Fulfils d c MarkWish)
  unfolding led_from after_wish
  mark_led some = mark_leads d c.viewer sound c_top c.position text_long (some_place some)

  line_called : IfOk (led_from d c.viewer c.position CallLine) (Fulfils d c CallLine)
  unfolding led_from
  line_called = line_calls d c.viewer sound c_top c.position text_long

  command_called : (command : CaretCommand) → 0 < rows_of d c.viewer
      → IfOk (led_from d c.viewer c.position (Call command)) (Fulfils d c (Call command))
  unfolding led_from
  command_called command some = call_leads d c.viewer sound c_top (some_place some) command

  wish_led : (wish : KeyWish) → 0 < rows_of d c.viewer → IfOk (led_from d c.viewer c.position wish) (Fulfils d c wish)
  wish_led (Step s) some = step_led s some
  wish_led DeleteNext some = delete_leads some
  wish_led (Call command) some = command_called command some
  wish_led CallLine some = line_called
  wish_led MarkWish some = mark_led some
  wish_led (Select s) some = step_selected d sound c c_top c_within (stand_led some) s
  wish_led (SelectOn s) some = step_selected_on d sound c c_top c_within (stand_led some) s
  wish_led SelectAll some = all_selected d sound c c_top c_within (stand_led some)
  wish_led CutSelected some = selected_cut d sound c c_top c_within
  wish_led CutLine some = line_cut d sound c c_top c_within
  wish_led (Break n) some = break_leads n some
  wish_led (Place n) some = place_leads n some
  wish_led (Reach n) some = reach_leads n some

  leads_from : (wish : KeyWish) → IfOk (led_with d (Some c) wish) (Fulfils d c wish)
  leads_from wish = (elim (rows_of d c.viewer == 0) as (λ (b : Bool). (rows_of d c.viewer == 0) ≡ b
      → IfOk (if b then Err NoRow else led_from d c.viewer c.position wish) (Fulfils d c wish)) [
        | true ↦ λ none. tt
        | false ↦ λ other. wish_led wish (some_row (rows_of d c.viewer) other)
      ]) refl
    where
      some_row : (n : ℕ) → (n == 0) ≡ false → 0 < n
      some_row zero other = absurd (cc other)
      some_row (suc n) other = omega arith

module _ (d : Desktop) (sound : IsSound d) (wish : KeyWish) where
  by_caret : (caret : Option Caret) → d.caret ≡ caret
      → IfSome caret (λ c. IfOk (led_with d caret wish) (Fulfils d c wish))
  by_caret None is = tt
  by_caret (Some c) is = leads_from d sound c is wish

  all_land : (caret : Option Caret) → d.caret ≡ caret → IfSome caret (λ c. (p : ℕ) → p ≤ length (main_of d c.viewer)
      → has_column d c.viewer p ≡ true → landing_in d c.viewer p ≡ p)
  all_land None is = tt
  all_land (Some c) is = λ p low column. lands_in d c.viewer sound (sound.shaped.marks.caret_stands c is).placed p low column

  all_break : (caret : Option Caret) → d.caret ≡ caret → IfSome caret (λ c. (n : ℕ)
      → IfSome (break_in d c.viewer n c.position) (IsBreak (bytes_of (main_of d c.viewer)) c.position))
  all_break None is = tt
  all_break (Some c) is = λ n. broken_behind d sound c is n

  -- The events for a wish lead to it.
  pub wish_leads : DoesWish d wish (led d wish)
  unfolding led
  wish_leads = record { exact = refl; lead = by_caret d.caret refl; lands = all_land d.caret refl; breaks = all_break d.caret refl }

  pub told_leads : (told : Result (List Event) WhyNot) → told ≡ led d wish → DoesWish d wish told
  told_leads told is = subst (λ (r : Result (List Event) WhyNot). DoesWish d wish r) (sym is) wish_leads
