-- A stretch that a key selects or cuts, as it is told of a desktop that was read.
use Rattle.std.specs.Prelude.{◌≡◌, ℕ, ◌+◌, ◌-◌, ◌<◌, ◌≤◌, ◌==◌, nat_lt, min, Bool, true, false, if◌then◌else◌}
use Rattle.std.specs.Prelude.{List, [], ◌∷◌, ◌++◌, length, Option, Some, None, option_map, ok_or, IfSome, Result, Ok, Err}
use Rattle.std.proofs.Common.{refl, sym, ap, subst, ◌∙◌, arith}
use Rattle.std.proofs.lemmas.Bool.{eqb-true, lt-ltb, le-ltb}
use Rattle.event_bytes.specs.declared.event.Event.{Event}
use Rattle.event_bytes.specs.declared.keys.Keys.TheVariants.{Right, RightLeft}
use Rattle.piece_ring.specs.declared.piece.Piece.{Piece}
use Rattle.piece_ring.specs.Flat.{flat}
use Rattle.readers_scanners.specs.Reading.{bytes_of_text}
use Rattle.text_frames.specs.Cells.{cell_of}
use Rattle.text_frames.specs.Lines.{line_start}
use Rattle.desktop_definitions.specs.declared.viewer.Selection.{Selection}
use Rattle.desktop_definitions.specs.Desktop.{Desktop, KeptDesktop}
use Rattle.desktop_definitions.specs.Viewers.{text_in, viewer_or_none, viewer_of, main_of, rows_of}
use Rattle.desktop_definitions.specs.Change.{bytes_of}
use Rattle.desktop_definitions.specs.Gesture.{width}
use Rattle.desktop_definitions.specs.Seen.{seen}
use Rattle.desk_core.specs.Positions.{IsPosition}
use Rattle.caret_moves.specs.declared.wish.Step.{Step as AStep}
use Rattle.caret_moves.specs.declared.wish.KeyWish.TheVariants.{Select, SelectOn, SelectAll, CutSelected, CutLine}
use Rattle.caret_moves.specs.declared.wish.WhyNot.{WhyNot}
use Rattle.caret_moves.specs.declared.wish.WhyNot.TheVariants.{TooFar, PastEdge, NotInSight, NothingThere}
use Rattle.caret_moves.specs.Steps.{end_of_line}
use Rattle.caret_moves.specs.Stretches.{stretch_of, stop_by, up_to, other_end, anchor_by, line_around}
use Rattle.caret_moves.specs.Leading.{text_width, display_cell, cell_from, org_in, has_column, events_to, drawn, then_drawn}
use Rattle.caret_moves.specs.Leading.{character_cell, draw_led, select_led, cut_led, led_from, step_goal_in, stepped_over, whole_text}
use Rattle.caret_moves.specs.Leading.{stop_in, without_hidden_end, anchor_in, select_all_led, cut_all_led}
use Rattle.caret_moves.proofs.Told.{bytes_are}

-- ---- what was read of a viewer

pub cell_own : (old : List ℕ) (d : KeptDesktop) (v org p : ℕ) → org ≡ (viewer_or_none d.viewers v).org
    → cell_from (seen old d) v org p ≡ character_cell (seen old d) v p
unfolding cell_from character_cell seen display_cell
cell_own old d v org p is = ap (λ (o : ℕ). option_map (display_cell d v)
    (cell_of (text_width d v) (rows_of d v) (bytes_of (main_of (seen old d) v)) o p)) is

module _ (old : List ℕ) (d : KeptDesktop) (v : ℕ) (text : List Piece)
    (text_is : text ≡ text_in d.texts (viewer_or_none d.viewers v).main) where
  pub cell_told : (h w org p : ℕ) → h ≡ rows_of d v → w + 1 ≡ width d v
      → option_map (display_cell d v) (cell_of w h (bytes_of_text old (flat text)) org p) ≡ cell_from (seen old d) v org p
  unfolding cell_from display_cell seen
  cell_told h w org p rows_is width_is =
      let told : w ≡ text_width d v = omega (arith, width_is) in
      λ k. option_map (display_cell d v) (cell_of (told k) (rows_is k) (bytes_are old d v text text_is k) org p)

  pub line_told : (start end p : ℕ) → start ≡ line_start (bytes_of_text old (flat text)) p
      → end ≡ end_of_line (bytes_of_text old (flat text)) p
      → stretch_of v start (min (end + 1) (length (bytes_of_text old (flat text)))) ≡ line_around (seen old d) v p
  unfolding line_around
  line_told start end p start_is end_is =
      (λ k. stretch_of v (start_is k) (min (end_is k + 1) (length (bytes_of_text old (flat text)))))
      ∙ ap (λ (bs : List ℕ). stretch_of v (line_start bs p) (min (end_of_line bs p + 1) (length bs)))
      (bytes_are old d v text text_is)

-- ---- the other end of a selection

pub other_within : (d : KeptDesktop) (s : Selection) (v p stop : ℕ) → s.beg < s.end → IsPosition d s.viewer s.end
    → IsPosition d v p → IsPosition d v (other_end s v p stop)
other_within d s v p stop some stands at = (elim (s.viewer == v) as (λ (b : Bool). (s.viewer == v) ≡ b
    → IsPosition d v (if b then (if s.beg == p then s.end else
    (if s.end == p then s.beg else (if s.end == stop then s.beg else p))) else p)) [
      | true ↦ λ same. (let here : IsPosition d v s.end = subst (λ (u : ℕ). IsPosition d u s.end) (eqb-true s.viewer v same) stands in
          let first : IsPosition d v s.beg =
          record { placed = here.placed; place = (let low = here.place in omega (arith, low, some)) } in
          elim (s.beg == p) as (λ (b : Bool). IsPosition d v (if b then s.end else
          (if s.end == p then s.beg else (if s.end == stop then s.beg else p)))) [
            | true ↦ here
            | false ↦ elim (s.end == p) as (λ (b : Bool). IsPosition d v (if b then s.beg else (if s.end == stop then s.beg else p))) [
              | true ↦ first
              | false ↦ elim (s.end == stop) as (λ (b : Bool). IsPosition d v (if b then s.beg else p)) [
                | true ↦ first
                | false ↦ at
              ]
            ]
          ])
      | false ↦ λ other. at
    ]) refl

-- ---- events as they are told

module _ (d : Desktop) (p : ℕ) (s : Selection) where
  module _ (events : Option (List Event)) (is : events ≡ events_to d s.viewer p) where
    pub draw_far : events ≡ None → Err TooFar ≡ draw_led d p s
    draw_far none = ap (λ (o : Option (List Event)). then_drawn o (drawn d Right (org_in d s.viewer p) s)) (sym none ∙ is)

    pub draw_told : (org : ℕ) (event : Option Event) → org ≡ org_in d s.viewer p → event ≡ drawn d Right org s
        → then_drawn events event ≡ draw_led d p s
    draw_told org event org_is event_is = λ k. then_drawn (is k)
        ((event_is ∙ ap (λ (o : ℕ). drawn d Right o s) org_is) k)

  abbrev by_column : Bool → Result (List Event) WhyNot
  by_column column = if column then draw_led d p s else Err PastEdge

  abbrev by_size : Bool → Result (List Event) WhyNot
  by_size some = if some then by_column (has_column d s.viewer p) else ok_or (events_to d s.viewer p) TooFar

  pub select_nothing : s.end ≤ s.beg → ok_or (events_to d s.viewer p) TooFar ≡ select_all_led d p s
  unfolding select_all_led
  select_nothing none = ap by_size (sym (le-ltb s.beg s.end none))

  module _ (some : s.beg < s.end) where
    pub select_past : false ≡ has_column d s.viewer p → Err PastEdge ≡ select_all_led d p s
    unfolding select_all_led
    select_past is = ap by_column is ∙ ap by_size (sym (lt-ltb s.beg s.end some))

    pub select_there : true ≡ has_column d s.viewer p → draw_led d p s ≡ select_all_led d p s
    unfolding select_all_led
    select_there is = ap by_column is ∙ ap by_size (sym (lt-ltb s.beg s.end some))

module _ (d : Desktop) (s : Selection) where
  abbrev cut_by_size : Bool → Result (List Event) WhyNot
  cut_by_size some = if some then then_drawn (Some []) (drawn d RightLeft (viewer_of d s.viewer).org s) else Err NothingThere

  pub cut_nothing : s.end ≤ s.beg → Err NothingThere ≡ cut_all_led d s
  unfolding cut_all_led
  cut_nothing none = ap cut_by_size (sym (le-ltb s.beg s.end none))

  pub cut_told : s.beg < s.end → (org : ℕ) (event : Option Event) → org ≡ (viewer_of d s.viewer).org
      → event ≡ drawn d RightLeft org s → then_drawn (Some []) event ≡ cut_all_led d s
  unfolding cut_all_led
  cut_told some org event org_is event_is =
      ap (then_drawn (Some [])) (event_is ∙ ap (λ (o : ℕ). drawn d RightLeft o s) org_is)
      ∙ ap cut_by_size (sym (lt-ltb s.beg s.end some))

-- ---- the wishes

pub anchor_seen : (old : List ℕ) (d : KeptDesktop) (v p stop : ℕ) → anchor_by d v p stop ≡ anchor_by (seen old d) v p stop
unfolding anchor_by seen
anchor_seen old d v p stop = refl

-- ---- where a stretch stops

module _ (d : Desktop) (v p : ℕ) where
  pub stop_told : (start : ℕ) (is_shown : Bool) → start ≡ line_start (bytes_of (main_of d v)) p
      → is_shown ≡ has_column d v (p - 1) → stop_by p start is_shown ≡ stop_in d v p
  unfolding stop_in
  stop_told start is_shown start_is shown_is = λ k. stop_by p (start_is k) (shown_is k)

  pub anchor_told : (stop : ℕ) → stop ≡ stop_in d v p → anchor_by d v p stop ≡ anchor_in d v p
  unfolding anchor_in
  anchor_told stop is = ap (anchor_by d v p) is

module _ (d : Desktop) (s : Selection) where
  pub part_told : (stop : ℕ) → stop ≡ stop_in d s.viewer s.end → up_to s stop ≡ without_hidden_end d s
  unfolding without_hidden_end
  part_told stop is = ap (up_to s) is

  pub select_of_part : (p : ℕ) (part : Selection) → part ≡ without_hidden_end d s → select_all_led d p part ≡ select_led d p s
  unfolding select_led
  select_of_part p part is = ap (select_all_led d p) is

  pub cut_of_part : (part : Selection) → part ≡ without_hidden_end d s → cut_all_led d part ≡ cut_led d s
  unfolding cut_led
  cut_of_part part is = ap (cut_all_led d) is

module _ (d : Desktop) (v p : ℕ) where
  pub step_is : (a : AStep) (goal : ℕ) (s : Selection) → goal ≡ step_goal_in d v p a → s ≡ stretch_of v p goal
      → select_led d goal s ≡ led_from d v p (Select a)
  unfolding led_from stepped_over
  step_is a goal s goal_is s_is = ap (select_led d goal) s_is ∙ (λ k. select_led d (goal_is k) (stretch_of v p (goal_is k)))

  pub select_is : (a : AStep) (goal anchor : ℕ) (s : Selection) → goal ≡ step_goal_in d v p a → anchor ≡ anchor_in d v p
      → s ≡ stretch_of v anchor goal → select_led d goal s ≡ led_from d v p (SelectOn a)
  unfolding led_from stepped_over
  select_is a goal anchor s goal_is anchor_is s_is =
      ap (select_led d goal) s_is ∙ (λ k. select_led d (goal_is k) (stretch_of v (anchor_is k) (goal_is k)))

  pub all_is : (len : ℕ) (s : Selection) → len ≡ length (main_of d v) → s ≡ stretch_of v 0 len
      → select_led d len s ≡ led_from d v p SelectAll
  unfolding led_from whole_text
  all_is len s len_is s_is = ap (select_led d len) s_is ∙ (λ k. select_led d (len_is k) (stretch_of v 0 (len_is k)))

  pub cut_is : (anchor : ℕ) (s : Selection) → anchor ≡ anchor_in d v p → s ≡ stretch_of v anchor p
      → cut_led d s ≡ led_from d v p CutSelected
  unfolding led_from
  cut_is anchor s anchor_is s_is = ap (cut_led d) s_is ∙ (λ k. cut_led d (stretch_of v (anchor_is k) p))

  pub line_is : (s : Selection) → s ≡ line_around d v p → cut_led d s ≡ led_from d v p CutLine
  unfolding led_from
  line_is s s_is = ap (cut_led d) s_is
