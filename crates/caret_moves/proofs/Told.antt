-- What is wished of the caret, as it is told of a desktop that was read.
use Rattle.std.specs.Prelude.{◌≡◌, ℕ, ◌+◌, ◌<◌, ◌≤◌, nat_lt, min, Bool, true, false, if◌then◌else◌, List, [], ◌∷◌, ◌++◌, ◌==◌}
use Rattle.std.specs.Prelude.{length, Option, Some, None, is_some, option_map, ok_or, unwrap_or, Result, Ok, Err}
use Rattle.std.specs.Result.{result_map_both}
use Rattle.std.proofs.Common.{refl, sym, ap, ◌∙◌, arith}
use Rattle.std.proofs.lemmas.Bool.{eq-eqb, ne_eqb, lt-ltb, le-ltb}
use Rattle.event_bytes.specs.declared.event.Event.{Event}
use Rattle.event_bytes.specs.declared.event.Event.TheVariants.{Key, Mark}
use Rattle.event_bytes.specs.declared.keys.Key.TheVariants.{Back}
use Rattle.piece_ring.specs.declared.piece.Piece.{Piece}
use Rattle.piece_ring.specs.Flat.{flat}
use Rattle.readers_scanners.specs.Reading.{bytes_of_text}
use Rattle.text_frames.specs.Cells.{cell_of, column_of}
use Rattle.text_frames.specs.Near.{below}
use Rattle.desktop_definitions.specs.declared.viewer.Caret.{Caret}
use Rattle.desktop_definitions.specs.Desktop.{Desktop, KeptDesktop}
use Rattle.desktop_definitions.specs.Viewers.{text_in, viewer_or_none, main_of, rows_of}
use Rattle.desktop_definitions.specs.Change.{bytes_of}
use Rattle.desktop_definitions.specs.Gesture.{width}
use Rattle.desktop_definitions.specs.Seen.{seen}
use Rattle.desktop_definitions.specs.Sound.{IsOver}
use Rattle.desk_core.proofs.PositionLemmas.{bytes_read}
use Rattle.desk_input.specs.Lines.{lines_in_sight}
use Rattle.desk_input.specs.Scrolling.{line_presses}
use Rattle.caret_moves.specs.declared.wish.Step.{Step as AStep}
use Rattle.caret_moves.specs.declared.wish.KeyWish.{KeyWish}
use Rattle.caret_moves.specs.declared.wish.KeyWish.TheVariants.{DeleteNext, Call, CallLine, Mark as MarkWish, Break}
use Rattle.caret_moves.specs.Filling.{line_break}
use Rattle.caret_moves.specs.declared.wish.WhyNot.{WhyNot}
use Rattle.caret_moves.specs.declared.wish.WhyNot.TheVariants.{NoCaret, NoRow, TooFar, NothingBehind, PastEdge}
use Rattle.caret_moves.specs.declared.wish.WhyNot.TheVariants.{NoWord, NotInSight, NoBreak}
use Rattle.caret_moves.specs.declared.wish.CaretCommand.{CaretCommand}
use Rattle.caret_moves.specs.Calling.{word_cell, call_by, call_led, marked_call, middle_press, line_word}
use Rattle.caret_moves.specs.Steps.{column_cut, step_goal, org_for}
use Rattle.caret_moves.specs.Leading.{text_width, text_click, step_goal_in, org_in, has_column, click_for, org_presses, events_to}
use Rattle.caret_moves.specs.Leading.{and_back, led_from, led_with, led, DoesWish}
use Rattle.caret_moves.specs.Leading.{near_events, line_end, and_line_end, ended_led, break_led, break_in}
use Rattle.caret_moves.specs.Leading.{character_cell, display_cell, marker_cell, word_led, line_led}
use Rattle.caret_moves.proofs.LeadLaws.{told_leads}

-- ---- what was read of a viewer

module _ (old : List ℕ) (d : KeptDesktop) (v : ℕ) (text : List Piece)
    (text_is : text ≡ text_in d.texts (viewer_or_none d.viewers v).main) where
  pub bytes_are : bytes_of_text old (flat text) ≡ bytes_of (main_of (seen old d) v)
  bytes_are = ap (λ (t : List Piece). bytes_of_text old (flat t)) text_is ∙ sym (bytes_read old d v)

  module _ (h w : ℕ) (rows_is : h ≡ rows_of d v) (width_is : w + 1 ≡ width d v) where
    width_told : w ≡ text_width d v
    width_told = omega (arith, width_is)

    pub step_read : (p : ℕ) (step : AStep) → step_goal (bytes_of_text old (flat text)) w h p step ≡ step_goal_in (seen old d) v p step
    unfolding step_goal_in seen
    step_read p step = λ k. step_goal (bytes_are k) (width_told k) (rows_is k) p step

    pub click_read : (org p : ℕ) → text_click d v (column_cut (bytes_of_text old (flat text)) w org p)
        (unwrap_or (lines_in_sight (bytes_of_text old (flat text)) h org p) 0) ≡ click_for (seen old d) v org p
    unfolding click_for seen text_click
    click_read org p = λ k. text_click d v (column_cut (bytes_are k) (width_told k) org p)
        (unwrap_or (lines_in_sight (bytes_are k) (rows_is k) org p) 0)

    pub cell_read : (org p : ℕ) → org ≡ (viewer_or_none d.viewers v).org
        → option_map (display_cell d v) (cell_of w h (bytes_of_text old (flat text)) org p) ≡ character_cell (seen old d) v p
    unfolding character_cell display_cell seen
    cell_read org p org_is =
        λ k. option_map (display_cell d v) (cell_of (width_told k) (rows_is k) (bytes_are k) (org_is k) p)

  pub word_read : (w p : ℕ) → w + 1 ≡ width d v → line_word (bytes_of_text old (flat text)) w p
      ≡ line_word (bytes_of (main_of (seen old d) v)) (text_width (seen old d) v) p
  unfolding seen
  word_read w p width_is =
      let told : w ≡ text_width d v = omega (arith, width_is) in
      λ k. line_word (bytes_are k) (told k) p

  pub break_read : (w p : ℕ) (n : ℕ) → w + 1 ≡ width d v
      → line_break (bytes_of_text old (flat text)) w n p ≡ break_in (seen old d) v n p
  unfolding break_in seen
  break_read w p n width_is =
      let told : w ≡ text_width d v = omega (arith, width_is) in
      λ k. line_break (bytes_are k) (told k) n p

  pub org_read : (h org p : ℕ) → h ≡ rows_of d v → org ≡ (viewer_or_none d.viewers v).org
      → org_for (bytes_of_text old (flat text)) h org p ≡ org_in (seen old d) v p
  unfolding org_in seen
  org_read h org p rows_is org_is = λ k. org_for (bytes_are k) (rows_is k) (org_is k) p

  pub column_seen : (w p org : ℕ) (column : Option ℕ) → w + 1 ≡ width d v → org ≡ org_in (seen old d) v p
      → column ≡ below w (column_of (bytes_of_text old (flat text)) org p)
      → is_some column ≡ has_column (seen old d) v p
  unfolding has_column seen
  column_seen w p org column width_is org_is column_is =
      let told : w ≡ text_width d v = omega (arith, width_is) in
      ap is_some (column_is ∙ (λ k. below (told k) (column_of (bytes_are k) (org_is k) p)))
      ∙ by_test (nat_lt (column_of (bytes_of (main_of (seen old d) v)) (org_in (seen old d) v p) p) (text_width d v))
      (column_of (bytes_of (main_of (seen old d) v)) (org_in (seen old d) v p) p)
    where
      by_test : (b : Bool) (column : ℕ) → is_some (if b then Some column else None) ≡ b
      by_test true column = refl
      by_test false column = refl

-- ---- events as they are told

module _ (old : List ℕ) (d : KeptDesktop) (v t org : ℕ) (org_is : org ≡ (viewer_or_none d.viewers v).org) where
  pub presses_none : t ≡ org → Some [] ≡ org_presses (seen old d) v t
  unfolding org_presses seen
  presses_none same = ap (λ (b : Bool).
      let o : Option (List Event) = if b then Some [] else line_presses (seen old d) v t in o)
      (sym (eq-eqb t (viewer_or_none d.viewers v).org (same ∙ org_is)))

  pub presses_some : (t ≡ org → ⊥) → line_presses (seen old d) v t ≡ org_presses (seen old d) v t
  unfolding org_presses seen
  presses_some other = ap (λ (b : Bool).
      let o : Option (List Event) = if b then Some [] else line_presses (seen old d) v t in o)
      (sym (ne_eqb t (viewer_or_none d.viewers v).org (λ same. other (same ∙ sym org_is))))

module _ (d : Desktop) (v p org : ℕ) (org_is : org ≡ org_in d v p) where
  pub events_none : None ≡ org_presses d v org → None ≡ events_to d v p
  unfolding events_to
  events_none is = ap (λ (o : Option (List Event)). option_map (λ presses. presses ++ click_for d v (org_in d v p) p ∷ []) o)
      (is ∙ ap (org_presses d v) org_is)

  pub events_some : (presses all : List Event) (click : Event) → Some presses ≡ org_presses d v org → click ≡ click_for d v org p
      → all ≡ presses ++ click ∷ [] → Some all ≡ events_to d v p
  unfolding events_to
  events_some presses all click is click_is all_is =
      ap (λ (l : List Event). Some l) (all_is ∙ ap (λ (e : Event). presses ++ e ∷ []) (click_is ∙ ap (λ (o : ℕ). click_for d v o p) org_is))
      ∙ ap (λ (o : Option (List Event)). option_map (λ presses. presses ++ click_for d v (org_in d v p) p ∷ []) o)
      (is ∙ ap (org_presses d v) org_is)

pub mapped_ok : {A B E : Type 0} (f : A → B) (o : Option A) (e : E)
    → result_map_both f (λ (why : E). why) (ok_or o e) ≡ ok_or (option_map f o) e
mapped_ok f None e = refl
mapped_ok f (Some a) e = refl

-- ---- to delete

module _ (d : Desktop) (v p : ℕ) where
  abbrev choice : Bool → Bool → Result (List Event) WhyNot
  choice more column = if more
      then (if column then ok_or (and_back (events_to d v (p + 1))) TooFar else Err PastEdge)
      else Err NothingBehind

  pub delete_last : length (main_of d v) ≤ p → Err NothingBehind ≡ led_from d v p DeleteNext
  unfolding led_from
  delete_last none = ap (λ (b : Bool). choice b (has_column d v (p + 1))) (sym (le-ltb p (length (main_of d v)) none))

  module _ (more : p < length (main_of d v)) where
    pub delete_past : false ≡ has_column d v (p + 1) → Err PastEdge ≡ led_from d v p DeleteNext
    unfolding led_from
    delete_past is = ap (choice true) is ∙ ap (λ (b : Bool). choice b (has_column d v (p + 1))) (sym (lt-ltb p _ more))

    module _ (column : true ≡ has_column d v (p + 1)) where
      by_events : (o : Option (List Event)) → o ≡ events_to d v (p + 1)
          → ok_or (and_back o) TooFar ≡ led_from d v p DeleteNext
      unfolding led_from
      by_events o is = ap (λ (o : Option (List Event)). ok_or (and_back o) TooFar) is
          ∙ ap (choice true) column ∙ ap (λ (b : Bool). choice b (has_column d v (p + 1))) (sym (lt-ltb p _ more))

      pub delete_far : None ≡ events_to d v (p + 1) → Err TooFar ≡ led_from d v p DeleteNext
      delete_far is = by_events None is

      pub delete_done : (events all : List Event) → Some events ≡ events_to d v (p + 1) → all ≡ events ++ Key Back ∷ []
          → Ok all ≡ led_from d v p DeleteNext
      delete_done events all is all_is =
          ap (λ (l : List Event). let r : Result (List Event) WhyNot = Ok l in r) all_is ∙ by_events (Some events) is

-- ---- to break a line

module _ (d : Desktop) (v p : ℕ) (n : ℕ) where
  pub break_none : None ≡ break_in d v n p → Err NoBreak ≡ led_from d v p (Break n)
  unfolding led_from
  break_none is = ap (break_led d v p) is

  module _ (q : ℕ) (is : Some q ≡ break_in d v n p) where
    pub break_here : q ≡ p → Ok (line_end ∷ []) ≡ led_from d v p (Break n)
    unfolding led_from
    break_here same = ap (λ (b : Bool). if b then Ok (line_end ∷ []) else ended_led d v q) (sym (eq-eqb q p same))
        ∙ ap (break_led d v p) is

    pub break_there : (told : Result (List Event) WhyNot) → (q ≡ p → ⊥) → told ≡ ended_led d v q
        → told ≡ led_from d v p (Break n)
    unfolding led_from
    break_there told other told_is = told_is
        ∙ ap (λ (b : Bool). if b then Ok (line_end ∷ []) else ended_led d v q) (sym (ne_eqb q p other))
        ∙ ap (break_led d v p) is

module _ (d : Desktop) (v q : ℕ) where
  pub end_past : false ≡ has_column d v q → Err PastEdge ≡ ended_led d v q
  end_past is = ap (λ (b : Bool). if b then ok_or (and_line_end (near_events d v q)) NotInSight else Err PastEdge) is

  module _ (column : true ≡ has_column d v q) where
    ended_by : (o : Option (List Event)) → o ≡ near_events d v q → ok_or (and_line_end o) NotInSight ≡ ended_led d v q
    ended_by o is = ap (λ (o : Option (List Event)). ok_or (and_line_end o) NotInSight) is
        ∙ ap (λ (b : Bool). if b then ok_or (and_line_end (near_events d v q)) NotInSight else Err PastEdge) column

    pub end_far : None ≡ near_events d v q → Err NotInSight ≡ ended_led d v q
    end_far is = ended_by None is

    pub end_done : (events all : List Event) → Some events ≡ near_events d v q → all ≡ events ++ line_end ∷ []
        → Ok all ≡ ended_led d v q
    end_done events all is all_is =
        ap (λ (l : List Event). let r : Result (List Event) WhyNot = Ok l in r) all_is ∙ ended_by (Some events) is

-- ---- events to a position in sight

module _ (old : List ℕ) (d : KeptDesktop) (v p org t : ℕ) (org_is : org ≡ (viewer_or_none d.viewers v).org)
    (t_is : t ≡ org_in (seen old d) v p) where
  near_by : (b : Bool) → (t == org) ≡ b
      → (if b then events_to (seen old d) v p else None) ≡ near_events (seen old d) v p
  unfolding near_events seen
  near_by b is = sym (ap (λ (b : Bool). if b then events_to (seen old d) v p else None)
      ((λ k. sym t_is k == sym org_is k) ∙ is))

  pub near_none : (t ≡ org → ⊥) → None ≡ near_events (seen old d) v p
  near_none other = near_by false (ne_eqb t org other)

  pub near_some : t ≡ org → events_to (seen old d) v p ≡ near_events (seen old d) v p
  near_some same = near_by true (eq-eqb t org same)

pub place_told : (d : Desktop) (v n p long : ℕ) → p ≡ min n long → long ≡ length (main_of d v)
    → ok_or (near_events d v p) NotInSight ≡ ok_or (near_events d v (min n (length (main_of d v)))) NotInSight
place_told d v n p long is long_is =
    ap (λ (q : ℕ). ok_or (near_events d v q) NotInSight) (is ∙ ap (min n) long_is)

pub reach_told : (d : Desktop) (v n p long : ℕ) → p ≡ min n long → long ≡ length (main_of d v)
    → ok_or (events_to d v p) TooFar ≡ ok_or (events_to d v (min n (length (main_of d v)))) TooFar
reach_told d v n p long is long_is =
    ap (λ (q : ℕ). ok_or (events_to d v q) TooFar) (is ∙ ap (min n) long_is)

-- ---- to call a command, and to set the marker

module _ (d : Desktop) (v p : ℕ) (command : CaretCommand) where
  pub call_in_menu : (cell : ℕ × ℕ) → Some cell ≡ word_cell d command (Some v)
      → Ok (middle_press cell ∷ []) ≡ led_from d v p (Call command)
  unfolding led_from call_led
  call_in_menu cell is = ap (λ (o : Option (ℕ × ℕ)). call_by d v o (word_cell d command None)) is

  module _ (none : None ≡ word_cell d command (Some v)) where
    pub call_nowhere : None ≡ word_cell d command None → Err NoWord ≡ led_from d v p (Call command)
    unfolding led_from call_led
    call_nowhere other = λ k. call_by d v (none k) (other k)

    pub call_in_text : (cell : ℕ × ℕ) → Some cell ≡ word_cell d command None
        → Ok (marked_call d v cell) ≡ led_from d v p (Call command)
    unfolding led_from call_led
    call_in_text cell is = λ k. call_by d v (none k) (is k)

module _ (d : Desktop) (v p : ℕ) where
  pub line_none : None ≡ line_word (bytes_of (main_of d v)) (text_width d v) p → Err NoWord ≡ led_from d v p CallLine
  unfolding led_from line_led
  line_none is = ap (word_led d v) is

  module _ (q : ℕ) (word : Some q ≡ line_word (bytes_of (main_of d v)) (text_width d v) p) where
    pub line_hidden : None ≡ character_cell d v q → Err NotInSight ≡ led_from d v p CallLine
    unfolding led_from line_led
    line_hidden is = ap (λ (o : Option (ℕ × ℕ)). ok_or (option_map (λ (c : ℕ × ℕ). middle_press c ∷ []) o) NotInSight) is
        ∙ ap (word_led d v) word

    pub line_pressed : (cell : ℕ × ℕ) → Some cell ≡ character_cell d v q → Ok (middle_press cell ∷ []) ≡ led_from d v p CallLine
    unfolding led_from line_led
    line_pressed cell is = ap (λ (o : Option (ℕ × ℕ)). ok_or (option_map (λ (c : ℕ × ℕ). middle_press c ∷ []) o) NotInSight) is
        ∙ ap (word_led d v) word

  pub marked_at : (x y : ℕ) (cell : ℕ × ℕ) → (x, y) ≡ cell → cell ≡ marker_cell d v p
      → Ok (Mark x y ∷ []) ≡ led_from d v p MarkWish
  unfolding led_from
  marked_at x y cell same is = λ k. Ok (Mark ((same ∙ is) k).0 ((same ∙ is) k).1 ∷ [])

-- ---- all wishes

module _ (old : List ℕ) (d : KeptDesktop) (wish : KeyWish) (over : IsOver old d) where
  by_led : (told : Result (List Event) WhyNot) → told ≡ led (seen old d) wish → DoesWish (seen old d) wish told
  by_led told is = told_leads (seen old d) (over.whole.sound old) wish told is

  pub led_none : None ≡ d.caret → DoesWish (seen old d) wish (Err NoCaret)
  unfolding led seen
  led_none is = by_led (Err NoCaret) (ap (λ (c : Option Caret). led_with (seen old d) c wish) is)

  module _ (c : Caret) (is : Some c ≡ d.caret) where
    pub led_rowless : rows_of d c.viewer ≡ 0 → DoesWish (seen old d) wish (Err NoRow)
    unfolding led seen
    led_rowless none = by_led (Err NoRow)
        (ap (λ (b : Bool). if b then Err NoRow else led_from (seen old d) c.viewer c.position wish)
        (sym (eq-eqb (rows_of d c.viewer) 0 none))
        ∙ ap (λ (c : Option Caret). led_with (seen old d) c wish) is)

    pub led_some : (told : Result (List Event) WhyNot) → (rows_of d c.viewer ≡ 0 → ⊥)
        → told ≡ led_from (seen old d) c.viewer c.position wish → DoesWish (seen old d) wish told
    unfolding led seen
    led_some told some told_is = by_led told (told_is
        ∙ ap (λ (b : Bool). if b then Err NoRow else led_from (seen old d) c.viewer c.position wish)
        (sym (ne_eqb (rows_of d c.viewer) 0 some))
        ∙ ap (λ (c : Option Caret). led_with (seen old d) c wish) is)
