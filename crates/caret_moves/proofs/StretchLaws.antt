-- A stretch is selected, or cut, by one draw of the right button between two cells in sight.
use Rattle.std.specs.Prelude.{◌≡◌, ℕ, ◌+◌, ◌-◌, ◌<◌, ◌≤◌, ◌==◌, ◌&&◌, nat_lt, nat_le, min, max, Bool, true, false, if◌then◌else◌}
use Rattle.std.specs.Prelude.{List, [], ◌∷◌, ◌++◌, length, Option, Some, None, IfSome, IsSome, Result, Ok, Err, IfOk}
use Rattle.std.specs.Option.{option_map, ok_or}
use Rattle.std.specs.Map.{keys_of}
use Rattle.std.proofs.Common.{refl, sym, ap, subst, ◌∙◌, arith}
use Rattle.std.proofs.lemmas.Bool.{eqb-true, le-leb, lt-ltb, ltb-true}
use Rattle.std.proofs.lemmas.List.{length-map}
use Rattle.event_bytes.specs.declared.keys.Keys.{Keys}
use Rattle.event_bytes.specs.declared.keys.Keys.TheVariants.{Right, RightLeft}
use Rattle.event_bytes.specs.declared.event.Event.{Event}
use Rattle.event_bytes.specs.declared.event.Event.TheVariants.{Point}
use Rattle.piece_ring.specs.declared.piece.Look.{Look}
use Rattle.piece_ring.proofs.Lengths.{length-stretch}
use Rattle.viewer_tracks.specs.Columns.{IsColumns, IsOnTop}
use Rattle.text_frames.specs.Cells.{cell_of}
use Rattle.text_frames.specs.Lines.{line_start}
use Rattle.desktop_definitions.specs.declared.region.Region.TheVariants.{Body}
use Rattle.desktop_definitions.specs.declared.reply.Reply.TheVariants.{Done}
use Rattle.desktop_definitions.specs.declared.viewer.Selection.{Selection}
use Rattle.desktop_definitions.specs.declared.viewer.Viewer.{Viewer}
use Rattle.desktop_definitions.specs.declared.viewer.Caret.{Caret}
use Rattle.desktop_definitions.specs.Limits.{newest_version, most_written, most_held, outside, no_selection}
use Rattle.desktop_definitions.specs.Needs.{unless}
use Rattle.desktop_definitions.specs.Tables.{text_numbered}
use Rattle.desktop_definitions.specs.Desktop.{Desktop, characters_held}
use Rattle.desktop_definitions.specs.Viewers.{bare_viewer, viewer_in, viewer_of, main_of, main_length, text_in, text_of, rows_of}
use Rattle.desktop_definitions.specs.Viewers.{with_org, with_selection, unselected, newest, selected}
use Rattle.desktop_definitions.specs.Change.{bytes_of, caret_shown, cut_out, deletion}
use Rattle.desktop_definitions.specs.Changed.{CountsHeld, texts_shown}
use Rattle.desktop_definitions.specs.Gesture.{text_position, pointed, done_with, drawn_in, taken_out, selection_drawn}
use Rattle.desktop_definitions.specs.Step.{step, step_in, raw, outcome_after, outcome_of}
use Rattle.desktop_definitions.specs.Sound.{IsSound, IsSelection}
use Rattle.desktop_definitions.proofs.ChangeLaws.{with_org_counts, with_caret_counts, with_selection_counts, counts_further}
use Rattle.desktop_definitions.proofs.ChangeLaws.{deletion_counts, caret_shown_counts, is_there}
use Rattle.desktop_definitions.proofs.PartSound.{newest_stands}
use Rattle.desktop_definitions.proofs.RowLaws.{shown_rest}
use Rattle.desktop_definitions.proofs.StepLaws.{settled_done}
use Rattle.desk_input.specs.Scrolling.{LeadTo}
use Rattle.desk_input.proofs.ScrollLaws.{org_found, step_leads, there}
use Rattle.caret_moves.specs.declared.wish.Step.{Step as AStep}
use Rattle.caret_moves.specs.declared.wish.KeyWish.TheVariants.{Select, SelectOn, SelectAll, CutSelected, CutLine}
use Rattle.caret_moves.specs.declared.wish.WhyNot.TheVariants.{TooFar, PastEdge, NothingThere}
use Rattle.caret_moves.specs.Steps.{end_of_line}
use Rattle.caret_moves.specs.Stretches.{stretch_of, stop_by, other_end, end_by, anchor_by, line_around, without_stretch, drag_by}
use Rattle.caret_moves.specs.Stretches.{with_stretch}
use Rattle.caret_moves.specs.Leading.{text_width, display_cell, character_cell, cell_from, stood, landing_in, org_in, has_column}
use Rattle.caret_moves.specs.Leading.{step_goal_in, stepped_over, whole_text, after_wish, events_to, drawn, then_drawn, draw_led}
use Rattle.caret_moves.specs.Leading.{select_led, cut_led, select_all_led, cut_all_led, without_hidden_end, stop_in, anchor_in}
use Rattle.caret_moves.specs.Leading.{selected_up_to, led_from, Fulfils}
use Rattle.caret_moves.proofs.ClickLaws.{IsShown, cell_shown, shown_body, shown_on, shown_position, leads_on}
use Rattle.caret_moves.proofs.RowLaws.{start_low}
use Rattle.caret_moves.proofs.StepLaws.{stepped_within, line_end_within}

-- ---- what a draw comes to

module _ (d : Desktop) (s : Selection) (from to : ℕ × ℕ) (columns : IsColumns d.columns) (top : IsOnTop s.viewer d.columns)
    (some : s.beg < s.end) (within : s.end ≤ length (main_of d s.viewer))
    (first : IsShown d s.viewer s.beg from) (last : IsShown d s.viewer (s.end - 1) to) where
  begins : min s.beg (s.end - 1) ≡ s.beg
  begins = omega (arith, some)

  ends : min (max s.beg (s.end - 1) + 1) (length (main_of d s.viewer)) ≡ s.end
  ends = omega (arith, some, within)

  stretch_is : selection_drawn d s.viewer (text_position d s.viewer from.0 from.1) (text_position d s.viewer to.0 to.1) ≡ s
  stretch_is = (λ k. selection_drawn d s.viewer (shown_position d s.viewer s.beg from columns top first k)
      (shown_position d s.viewer (s.end - 1) to columns top last k))
      ∙ (λ k. record { viewer = s.viewer; beg = begins k; end = ends k })

  drawn_there : (keys : Keys) (new : Desktop)
      → pointed newest_version d (Body s.viewer) keys from.0 from.1 to.0 to.1 ≡ Ok new
      → raw newest_version d (Point keys from.0 from.1 to.0 to.1) ≡ Ok new
  unfolding raw
  drawn_there keys new is = (λ k. unless (shown_on d s.viewer s.beg from columns top first k
      && shown_on d s.viewer (s.end - 1) to columns top last k) outside
      (pointed newest_version d (shown_body d s.viewer s.beg from columns top first k) keys from.0 from.1 to.0 to.1)) ∙ is

  selects : raw newest_version d (Point Right from.0 from.1 to.0 to.1) ≡ Ok (with_selection d s)
  unfolding pointed done_with drawn_in
  selects = drawn_there Right (with_selection d s) (ap (done_with d Right) stretch_is
      ∙ ap (λ (b : Bool). let o : Result Desktop ℕ = Ok (if b then with_selection d s else unselected d s.viewer) in o)
      (lt-ltb s.beg s.end some))

  cuts : raw newest_version d (Point RightLeft from.0 from.1 to.0 to.1) ≡ Ok (without_stretch d s)
  unfolding pointed done_with taken_out
  cuts = drawn_there RightLeft (without_stretch d s) (ap (done_with d RightLeft) stretch_is
      ∙ ap (λ (b : Bool). unless b no_selection (Ok (without_stretch d s))) (lt-ltb s.beg s.end some))

-- ---- an event that shows the same texts, and holds no more, is done

settles : (d at new : Desktop) → IsSound d → keys_of new.texts ≡ keys_of d.texts
    → texts_shown new.viewers ≡ texts_shown d.viewers → new.written ≡ d.written → characters_held new ≤ characters_held d
    → outcome_after at (Ok new) ≡ outcome_of new Done
settles d at new sound numbers viewers written held =
    let w = sound.written_within in let h = sound.held_within in
    settled_done at new (shown_rest d new numbers viewers sound.shown)
    (λ k. le-leb new.written most_written (omega (arith, w, written)) k
    && le-leb (characters_held new) most_held (omega (arith, h, held)) k)

-- ---- after the caret went to a position

module _ (d : Desktop) (v p : ℕ) (sound : IsSound d) (top : IsOnTop v d.columns) where
  found : viewer_of (stood d v p) v ≡ record (viewer_of d v) { org = org_in d v p }
  unfolding stood
  found = org_found d v (there d v sound top) (org_in d v p)

  main_same : main_of (stood d v p) v ≡ main_of d v
  unfolding stood
  main_same = ap (λ (w : Viewer). text_in d.texts w.main) found

  cell_same : (q : ℕ) → character_cell (stood d v p) v q ≡ cell_from d v (org_in d v p) q
  unfolding stood character_cell cell_from display_cell
  cell_same q = ap (λ (w : Viewer). option_map (display_cell d v)
      (cell_of (text_width d v) (rows_of d v) (bytes_of (text_in d.texts w.main)) w.org q)) found

  shown_at : (q : ℕ) (cell : ℕ × ℕ) → q ≤ length (main_of d v) → cell_from d v (org_in d v p) q ≡ Some cell
      → IsShown (stood d v p) v q cell
  shown_at q cell low is =
      let long : length (bytes_of (main_of (stood d v p) v)) ≡ length (main_of (stood d v p) v) =
      length-map (main_of (stood d v p) v) (λ (c : ℕ × Look). c.0) in
      let same : length (main_of (stood d v p) v) ≡ length (main_of d v) = ap length main_same in
      cell_shown (stood d v p) v q cell (omega (arith, low, long, same)) (cell_same q ∙ is)

  stood_counts : CountsHeld d (stood d v p) 0 0
  unfolding stood
  stood_counts = counts_further d (with_org d v (org_in d v p)) (stood d v p) 0 0 0 0 (with_org_counts d v (org_in d v p))
      (with_caret_counts (with_org d v (org_in d v p)) v (landing_in d v p))

-- ---- a stretch is selected there

module _ (d : Desktop) (p : ℕ) (s : Selection) (sound : IsSound d) (top : IsOnTop s.viewer d.columns)
    (some : s.beg < s.end) (within : s.end ≤ length (main_of d s.viewer)) where
  columns_hold : IsColumns (stood d s.viewer p).columns
  unfolding stood
  columns_hold = sound.shaped.places.columns_hold

  stands_top : IsOnTop s.viewer (stood d s.viewer p).columns
  unfolding stood
  stands_top = top

  within_there : s.end ≤ length (main_of (stood d s.viewer p) s.viewer)
  within_there = let same : length (main_of (stood d s.viewer p) s.viewer) ≡ length (main_of d s.viewer) =
      ap length (main_same d s.viewer p sound top) in omega (arith, within, same)

  select_steps : (from to : ℕ × ℕ) → IsShown (stood d s.viewer p) s.viewer s.beg from
      → IsShown (stood d s.viewer p) s.viewer (s.end - 1) to
      → step (stood d s.viewer p) (Point Right from.0 from.1 to.0 to.1) ≡ outcome_of (with_selection (stood d s.viewer p) s) Done
  unfolding step step_in
  select_steps from to first last =
      let now : Desktop = stood d s.viewer p in
      let counts = counts_further d now (with_selection now s) 0 0 0 0 (stood_counts d s.viewer p sound top)
      (with_selection_counts now s) in
      ap (outcome_after now) (selects now s from to columns_hold stands_top some within_there first last)
      ∙ settles d now (with_selection now s) sound counts.numbers counts.viewers counts.written
      (let c = counts.counted in omega (arith, c))

  by_cells : (events : Option (List Event)) (a b : Option (ℕ × ℕ))
      → IfSome events (λ events. LeadTo d events (stood d s.viewer p))
      → cell_from d s.viewer (org_in d s.viewer p) s.beg ≡ a → cell_from d s.viewer (org_in d s.viewer p) (s.end - 1) ≡ b
      → IfOk (then_drawn events (drag_by Right a b)) (λ events. LeadTo d events (with_selection (stood d s.viewer p) s))
  by_cells None a b lead first last = tt
  by_cells (Some events) None b lead first last = tt
  by_cells (Some events) (Some from) None lead first last = tt
  by_cells (Some events) (Some from) (Some to) lead first last =
      let now : Desktop = stood d s.viewer p in
      let new : Desktop = with_selection now s in
      leads_on d now new events (Point Right from.0 from.1 to.0 to.1 ∷ []) lead
      (step_leads now new new (Point Right from.0 from.1 to.0 to.1) []
      (select_steps from to (shown_at d s.viewer p sound top s.beg from (omega (arith, some, within)) first)
      (shown_at d s.viewer p sound top (s.end - 1) to (omega (arith, some, within)) last)) refl)

  draws : IfSome (events_to d s.viewer p) (λ events. LeadTo d events (stood d s.viewer p))
      → IfOk (draw_led d p s) (λ events. LeadTo d events (with_selection (stood d s.viewer p) s))
  unfolding drawn
  draws lead = by_cells (events_to d s.viewer p) (cell_from d s.viewer (org_in d s.viewer p) s.beg)
      (cell_from d s.viewer (org_in d s.viewer p) (s.end - 1)) lead refl refl

-- ---- a stretch is cut

module _ (d : Desktop) (s : Selection) (sound : IsSound d) (top : IsOnTop s.viewer d.columns)
    (some : s.beg < s.end) (within : s.end ≤ length (main_of d s.viewer)) where
  cut_shown : (q : ℕ) (cell : ℕ × ℕ) → q ≤ length (main_of d s.viewer)
      → cell_from d s.viewer (viewer_of d s.viewer).org q ≡ Some cell → IsShown d s.viewer q cell
  unfolding cell_from character_cell
  cut_shown q cell low is =
      let long : length (bytes_of (main_of d s.viewer)) ≡ length (main_of d s.viewer) =
      length-map (main_of d s.viewer) (λ (c : ℕ × Look). c.0) in
      cell_shown d s.viewer q cell (omega (arith, low, long)) is

  abbrev text_cut : ℕ
  text_cut = (viewer_of d s.viewer).main

  abbrev cut : Desktop
  cut = deletion d text_cut s.beg s.end

  main_there : IsSome (text_numbered d.texts text_cut)
  main_there = (sound.shaped.viewers.each s.viewer (viewer_of d s.viewer)
      (is_there (viewer_in d.viewers s.viewer) bare_viewer (there d s.viewer sound top))).main

  cut_counts : CountsHeld d (cut_out d s) 0 (s.end - s.beg + 0)
  cut_counts = counts_further d cut (cut_out d s) 0 (s.end - s.beg) 0 0
      (deletion_counts d text_cut s.beg s.end main_there (omega (arith, some)) within)
      (caret_shown_counts cut s.viewer s.beg)

  held_after : (x : Desktop) → characters_held (record x { deleted = selected d s }) + length x.deleted
      ≡ characters_held x + length (selected d s)
  unfolding characters_held
  held_after x = omega arith

  cut_steps : (from to : ℕ × ℕ) → IsShown d s.viewer s.beg from → IsShown d s.viewer (s.end - 1) to
      → step d (Point RightLeft from.0 from.1 to.0 to.1) ≡ outcome_of (without_stretch d s) Done
  unfolding step step_in
  cut_steps from to first last =
      let held = held_after (cut_out d s) in
      let size : length (selected d s) ≡ s.end - s.beg =
      length-stretch s.beg s.end (main_of d s.viewer) (omega (arith, some)) within in
      let c = cut_counts.counted in
      ap (outcome_after d) (cuts d s from to sound.shaped.places.columns_hold top some within first last)
      ∙ settles d d (without_stretch d s) sound cut_counts.numbers cut_counts.viewers cut_counts.written
      (omega (arith, held, size, c, some))

  cut_by_cells : (a b : Option (ℕ × ℕ)) → cell_from d s.viewer (viewer_of d s.viewer).org s.beg ≡ a
      → cell_from d s.viewer (viewer_of d s.viewer).org (s.end - 1) ≡ b
      → IfOk (then_drawn (Some []) (drag_by RightLeft a b)) (λ events. LeadTo d events (without_stretch d s))
  cut_by_cells None b first last = tt
  cut_by_cells (Some from) None first last = tt
  cut_by_cells (Some from) (Some to) first last =
      step_leads d (without_stretch d s) (without_stretch d s) (Point RightLeft from.0 from.1 to.0 to.1) []
      (cut_steps from to (cut_shown s.beg from (omega (arith, some, within)) first)
      (cut_shown (s.end - 1) to (omega (arith, some, within)) last)) refl

  cut_drawn : IfOk (then_drawn (Some []) (drawn d RightLeft (viewer_of d s.viewer).org s))
      (λ events. LeadTo d events (without_stretch d s))
  unfolding drawn
  cut_drawn = cut_by_cells (cell_from d s.viewer (viewer_of d s.viewer).org s.beg)
      (cell_from d s.viewer (viewer_of d s.viewer).org (s.end - 1)) refl refl

-- ---- where a stretch stops

pub stop_low : (p start : ℕ) (is_shown : Bool) → stop_by p start is_shown ≤ p
stop_low p start is_shown = elim (start == p) as (λ (b : Bool). (if b then (if is_shown then p else p - 1) else p) ≤ p) [
  | true ↦ elim is_shown as (λ (b : Bool). (if b then p else p - 1) ≤ p) [
    | true ↦ omega arith
    | false ↦ omega arith
  ]
  | false ↦ omega arith
]

-- ---- the theorem of stretches

module _ (d : Desktop) (sound : IsSound d) (c : Caret) (top : IsOnTop c.viewer d.columns)
    (low : c.position ≤ length (main_of d c.viewer)) where
  module _ (beg end : ℕ) (end_low : end ≤ length (main_of d c.viewer)) where
    abbrev all : Selection
    all = record { viewer = c.viewer; beg = beg; end = end }

    cut_leads : IfOk (cut_all_led d all) (λ events. LeadTo d events (without_stretch d all))
    unfolding cut_all_led
    cut_leads = (elim (nat_lt beg end) as (λ (b : Bool). nat_lt beg end ≡ b
        → IfOk (if b then then_drawn (Some []) (drawn d RightLeft (viewer_of d c.viewer).org all)
        else Err NothingThere) (λ events. LeadTo d events (without_stretch d all))) [
          | true ↦ λ is. cut_drawn d all sound top (ltb-true _ _ is) end_low
          | false ↦ λ is. tt
        ]) refl

    module _ (p : ℕ) (lead : IfSome (events_to d c.viewer p) (λ events. LeadTo d events (stood d c.viewer p))) where
      abbrev after : Bool → Desktop
      after some = if some then with_selection (stood d c.viewer p) all else stood d c.viewer p

      alone : (events : Option (List Event)) → IfSome events (λ events. LeadTo d events (stood d c.viewer p))
          → IfOk (ok_or events TooFar) (λ events. LeadTo d events (stood d c.viewer p))
      alone None leads = tt
      alone (Some events) leads = leads

      select_leads : IfOk (select_all_led d p all) (λ events. LeadTo d events (with_stretch (stood d c.viewer p) all))
      unfolding select_all_led
      select_leads = (elim (nat_lt beg end) as (λ (b : Bool). nat_lt beg end ≡ b
          → IfOk (if b then (if has_column d c.viewer p then draw_led d p all else Err PastEdge)
          else ok_or (events_to d c.viewer p) TooFar) (λ events. LeadTo d events (after b))) [
            | true ↦ λ is. elim (has_column d c.viewer p) as (λ (b : Bool).
                IfOk (if b then draw_led d p all else Err PastEdge) (λ events. LeadTo d events (after true))) [
                  | true ↦ draws d p all sound top (ltb-true _ _ is) end_low lead
                  | false ↦ tt
                ]
            | false ↦ λ is. alone (events_to d c.viewer p) lead
          ]) refl

  -- ---- without a line end that has no column

  stop_within : (p : ℕ) → stop_in d c.viewer p ≤ p
  unfolding stop_in
  stop_within p = stop_low p (line_start (bytes_of (main_of d c.viewer)) p) (has_column d c.viewer (p - 1))

  module _ (q r : ℕ) (q_low : q ≤ length (main_of d c.viewer)) (r_low : r ≤ length (main_of d c.viewer)) where
    abbrev last : ℕ
    last = stop_in d c.viewer (max q r)

    last_low : last ≤ length (main_of d c.viewer)
    last_low = let is = stop_within (max q r) in omega (arith, is, q_low, r_low)

    part_cut : IfOk (cut_led d (stretch_of c.viewer q r))
        (λ events. LeadTo d events (without_stretch d (without_hidden_end d (stretch_of c.viewer q r))))
    unfolding cut_led without_hidden_end
    part_cut = cut_leads (min (min q r) last) last last_low

    part_selected : (p : ℕ) (lead : IfSome (events_to d c.viewer p) (λ events. LeadTo d events (stood d c.viewer p)))
        → IfOk (select_led d p (stretch_of c.viewer q r))
        (λ events. LeadTo d events (with_stretch (stood d c.viewer p) (without_hidden_end d (stretch_of c.viewer q r))))
    unfolding select_led without_hidden_end
    part_selected p lead = select_leads (min (min q r) last) last last_low p lead

  -- ---- their ends

  bytes_long : length (bytes_of (main_of d c.viewer)) ≡ length (main_of d c.viewer)
  bytes_long = length-map (main_of d c.viewer) (λ (x : ℕ × Look). x.0)

  other_low : (x : Selection) → IsSelection d.columns (main_length d.texts d.viewers) x → (stop : ℕ)
      → other_end x c.viewer c.position stop ≤ length (main_of d c.viewer)
  other_low x is stop = (elim (x.viewer == c.viewer) as (λ (b : Bool). (x.viewer == c.viewer) ≡ b
      → (if b then (if x.beg == c.position then x.end else
      (if x.end == c.position then x.beg else (if x.end == stop then x.beg else c.position))) else c.position)
      ≤ length (main_of d c.viewer)) [
        | true ↦ λ same. (let all = is.within in let some = is.some in
            let here : main_length d.texts d.viewers x.viewer ≡ length (main_of d c.viewer) =
            ap (main_length d.texts d.viewers) (eqb-true x.viewer c.viewer same) in
            let first : x.beg ≤ length (main_of d c.viewer) = omega (arith, all, here, some) in
            elim (x.beg == c.position) as (λ (b : Bool). (if b then x.end else
            (if x.end == c.position then x.beg else (if x.end == stop then x.beg else c.position)))
            ≤ length (main_of d c.viewer)) [
              | true ↦ omega (arith, all, here)
              | false ↦ elim (x.end == c.position) as (λ (b : Bool).
                  (if b then x.beg else (if x.end == stop then x.beg else c.position)) ≤ length (main_of d c.viewer)) [
                    | true ↦ first
                    | false ↦ elim (x.end == stop) as (λ (b : Bool).
                        (if b then x.beg else c.position) ≤ length (main_of d c.viewer)) [
                          | true ↦ first
                          | false ↦ low
                        ]
                  ]
            ])
        | false ↦ λ other. low
      ]) refl

  anchor_from : (o : Option Selection) → newest d ≡ o → (stop : ℕ)
      → end_by o c.viewer c.position stop ≤ length (main_of d c.viewer)
  anchor_from None is stop = low
  anchor_from (Some x) is stop = other_low x (newest_stands d sound.shaped x is) stop

  anchor_low : anchor_in d c.viewer c.position ≤ length (main_of d c.viewer)
  unfolding anchor_in anchor_by
  anchor_low = anchor_from (newest d) refl (stop_in d c.viewer c.position)

  goal_low : (a : AStep) → step_goal_in d c.viewer c.position a ≤ length (main_of d c.viewer)
  unfolding step_goal_in
  goal_low a = let is = stepped_within (bytes_of (main_of d c.viewer)) (text_width d c.viewer) (rows_of d c.viewer) c.position a
      (omega (arith, low, bytes_long)) in omega (arith, is, bytes_long)

  -- ---- each wish

  pub selected_cut : IfOk (led_from d c.viewer c.position CutSelected) (Fulfils d c CutSelected)
  unfolding led_from after_wish
  selected_cut = part_cut (anchor_in d c.viewer c.position) c.position anchor_low low

  pub line_cut : IfOk (led_from d c.viewer c.position CutLine) (Fulfils d c CutLine)
  unfolding led_from after_wish line_around
  line_cut = part_cut (line_start (bytes_of (main_of d c.viewer)) c.position)
      (min (end_of_line (bytes_of (main_of d c.viewer)) c.position + 1) (length (bytes_of (main_of d c.viewer))))
      (let first = start_low (bytes_of (main_of d c.viewer)) c.position in omega (arith, first, low))
      (omega (arith, bytes_long))

  module _ (lead : (p : ℕ) → p ≤ length (main_of d c.viewer)
      → IfSome (events_to d c.viewer p) (λ events. LeadTo d events (stood d c.viewer p))) where
    pub step_selected : (a : AStep) → IfOk (led_from d c.viewer c.position (Select a)) (Fulfils d c (Select a))
    unfolding led_from after_wish stepped_over
    step_selected a = part_selected c.position (step_goal_in d c.viewer c.position a) low
        (goal_low a) (step_goal_in d c.viewer c.position a) (lead (step_goal_in d c.viewer c.position a) (goal_low a))

    pub step_selected_on : (a : AStep) → IfOk (led_from d c.viewer c.position (SelectOn a)) (Fulfils d c (SelectOn a))
    unfolding led_from after_wish stepped_over
    step_selected_on a = part_selected (anchor_in d c.viewer c.position) (step_goal_in d c.viewer c.position a) anchor_low
        (goal_low a) (step_goal_in d c.viewer c.position a) (lead (step_goal_in d c.viewer c.position a) (goal_low a))

    pub all_selected : IfOk (led_from d c.viewer c.position SelectAll) (Fulfils d c SelectAll)
    unfolding led_from after_wish whole_text
    all_selected = part_selected 0 (length (main_of d c.viewer)) (omega arith) (omega arith) (length (main_of d c.viewer))
        (lead (length (main_of d c.viewer)) (omega arith))
