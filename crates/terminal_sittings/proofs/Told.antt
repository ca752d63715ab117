-- Each click of the middle button that a press posts was told.
use Rattle.std.proofs.Common.{ℕ, zero, suc, Bool, true, false, List, [], ◌∷◌, ◌++◌, length, take, refl, sym, subst}
use Rattle.std.specs.Prelude.{◌-◌, drop, min, Option, Some, None, IfSome, All, if◌then◌else◌, option_map, nat_lt, ◌&&◌, ◌≡◌, ◌==◌, ok_or, Result, Ok, Err, IfOk}
use Rattle.std.proofs.lemmas.List.Elements.{All-append, All-cons, All-head, All-nil, All-tail}
use Rattle.event_bytes.specs.declared.event.Event.{Event}
use Rattle.event_bytes.specs.declared.event.Event.TheVariants as event
use Rattle.event_bytes.specs.declared.keys.Keys.TheVariants as keys
use Rattle.event_bytes.specs.declared.keys.Key.TheVariants as key
use Rattle.desktop_definitions.specs.Desktop.{Desktop}
use Rattle.desktop_definitions.specs.Shown.{shown_screen}
use Rattle.starter_desktop.specs.StarterDesktop.{tool_event}
use Rattle.terminal_presses.specs.declared.action.Action.TheVariants as action
use Rattle.desktop_definitions.specs.declared.viewer.Caret.{Caret}
use Rattle.desktop_definitions.specs.declared.viewer.Selection.{Selection}
use Rattle.desktop_definitions.specs.Change.{bytes_of}
use Rattle.desktop_definitions.specs.Viewers.{main_of, rows_of, viewer_of}
use Rattle.caret_moves.specs.declared.wish.CaretCommand.{CaretCommand}
use Rattle.caret_moves.specs.declared.wish.CaretCommand.TheVariants as caret
use Rattle.caret_moves.specs.declared.wish.KeyWish.{KeyWish}
use Rattle.caret_moves.specs.declared.wish.KeyWish.TheVariants.{Call, CallLine, CutSelected, Mark as MarkWish, Break, Place}
use Rattle.caret_moves.specs.declared.wish.WhyNot.{WhyNot}
use Rattle.caret_moves.specs.declared.wish.WhyNot.TheVariants.{NoBreak, NoCaret, NoRow, NoWord, NothingBehind, NothingThere}
use Rattle.caret_moves.specs.declared.wish.WhyNot.TheVariants.{NotInSight, PastEdge, TooFar}
use Rattle.caret_moves.specs.Calling.{call_by, call_led, line_word, mark_cell, middle_press, word_cell}
use Rattle.caret_moves.specs.Stretches.{drag_by}
use Rattle.caret_moves.proofs.NearLaws.{near_click}
use Rattle.caret_moves.specs.Leading.{near_events, org_in, click_for, text_click, has_column}
use Rattle.caret_moves.specs.Leading.{line_end, and_line_end, ended_led, break_led, break_in, place_wished}
use Rattle.caret_moves.specs.Leading.{character_cell, led, led_from, led_with, line_led, marker_cell, text_width, word_led}
use Rattle.caret_moves.specs.Leading.{cell_from, cut_all_led, cut_led, drawn, selected_up_to, then_drawn, without_hidden_end}
use Rattle.desk_journal.specs.Session.{Session, is_worn, taken}
use Rattle.desk_journal.specs.Views.{DeskInfo, ShownViewer, desk_info, last_log_line}
use Rattle.status_line.specs.Deeds.{deed_of, is_middle}
use Rattle.screen_reading.specs.Frames.{text_start}
use Rattle.status_line.specs.declared.clicks.MiddleClick.{MiddleClick}
use Rattle.status_line.specs.Clicks.{click_in, middle_click}
use Rattle.press_tasks.specs.declared.task.Filling.{Filling}
use Rattle.press_tasks.specs.declared.task.Filling.TheVariants.{Letters, Off, Pasted}
use Rattle.press_tasks.specs.declared.task.Stage.{Stage}
use Rattle.press_tasks.specs.declared.task.Stage.TheVariants.{First, Back, On}
use Rattle.press_tasks.specs.declared.task.Task.{Task}
use Rattle.press_tasks.specs.declared.task.Task.TheVariants as kind
use Rattle.press_plans.specs.Listed.{event_meant, lacks_tool}
use Rattle.press_plans.specs.Plans.{Plan, Aims, Asks, Events, Keeps, PutsAway, Refused as NotDone, Says, Shows, answer_plan}
use Rattle.press_plans.specs.Plans.{Tells as SaysMore}
use Rattle.screen_reading.specs.Picked.{picked_word}
use Rattle.press_plans.specs.Plans.{caret_seen, comeback_plan, go_plan, has_lost_caret, word_plan}
use Rattle.press_plans.specs.Plans.{call_plan, erase_plan, erasing, lead_plan, over_plan}
use Rattle.press_plans.specs.Plans.{click_of, enter_plan, is_call, opened_viewer, plan_of, plan_on}
use Rattle.press_tasks.specs.Tasks.{calling_wish, lead_deed, posted, posting, posting_over, task_of, typed_task}
use Rattle.desk_sitting.specs.Questions.{click_led, click_made}
use Rattle.press_plans.specs.Plans.{posted_plan, type_plan, unbroken_plan, broken_plan, placed_plan}
use Rattle.press_plans.specs.Plans.{column_clicked, from_column, front_plan, poured_plan, room_plan, standing, typable}
use Rattle.filled_pastes.specs.Poured.{poured_at, word_length}
use Rattle.press_plans.specs.Filling.{room_if, place_behind, is_place}
use Rattle.earlier_presses.specs.Replacing.{TypingView, first_typed, first_byte_typed, rest_typed, typed_behind, nothing_typed}
use Rattle.earlier_presses.specs.Replacing.{replacement}
use Rattle.done_presses.specs.Past.{selects}
use Rattle.terminal_presses.specs.Sights.{Sight}
use Rattle.status_line.specs.declared.deed.Deed.{Deed}
use Rattle.desk_sitting.specs.Sittings.{Seat, accepted_as, accepted_by, accepted_in}
use Rattle.terminal_sittings.specs.Laws.{ClicksAreTold, IsClickTold}
use Rattle.desk_sitting.specs.Sittings.{accepted_stage, after_stage, filling, task_or_word}
use Rattle.earlier_presses.specs.Twice.{cell_again, cell_clicked}
use Rattle.desk_sitting.specs.Sittings.{after_planned, does, does_all, left_by, most_plans, noted_at, planned, task_left}
use Rattle.press_tasks.specs.declared.finding.Finding.TheVariants as finding
use Rattle.press_plans.specs.Plans.{begin_plan}
use Rattle.desktop_definitions.specs.Words.{Text}
use Rattle.desktop_definitions.specs.Viewers.{newest, selected}

module _ (told : Option MiddleClick) where
  abbrev Told : Event → Type 0
  Told = IsClickTold told

  -- tasks that post what was told, and nothing else of that button
  data Posts : Task → Type 0 where
    post : (e : Event) → Told e → Posts (kind.Post e)
    calls : (e : Event) (deed : Option Deed) → Told e → Posts (kind.Call e deed)
    after : (before : DeskInfo) (cell : Option (ℕ × ℕ)) → Posts (kind.After before cell)
    word : (at : ℕ × ℕ) → Posts (kind.Word at)
    enter : (cell : ℕ × ℕ) → Posts (kind.Enter cell)
    reveal : (cell : ℕ × ℕ) → Posts (kind.Reveal cell)
    types : (t : TypingView) (fills : Bool) (deed : Deed) → Posts (kind.TypeOn t fills deed)
    goes_back : (place : ℕ) (t : TypingView) (fills : Bool) (deed : Deed) → Posts (kind.GoBack place t fills deed)
    over : (e : Event) (fills : Filling) → Told e → Posts (kind.TypeOver e fills)
    pours : (stage : Stage) (bytes : List ℕ) (typed : ℕ) → Posts (kind.Pour stage bytes typed)
    erase : Posts (kind.Erase false)

  abbrev next_of : Plan → Option Task
  next_of (NotDone why) = None
  next_of (Events events next) = next
  next_of (Says line) = None
  next_of (Aims cell) = None
  next_of (Shows cell) = None
  next_of (SaysMore saying) = None
  next_of (Asks before) = None
  next_of (Keeps words next) = Some next
  next_of (PutsAway next) = Some next

  record IsTelling (plan : Plan) : Type 0 where
    events : All Told (planned plan)
    next : IfSome (next_of plan) Posts

  nothing : All Told []
  nothing = All-nil Told

  one : (e : Event) → Told e → All Told (e ∷ [])
  one e t = All-cons Told e [] t nothing

  -- ---- what is accepted

  left_if : (b : Bool) (next : Option Task) → IfSome next Posts → IfSome (if b then next else None) Posts
  left_if true next g = g
  left_if false next g = tt

  left_telling : (plan : Plan) (s : Session) → IfSome (next_of plan) Posts → IfSome (left_by plan s) Posts
  left_telling (NotDone why) s g = tt
  left_telling (Events events next) s g = left_if (does_all s events) next g
  left_telling (Says line) s g = tt
  left_telling (Aims cell) s g = tt
  left_telling (Shows cell) s g = tt
  left_telling (SaysMore saying) s g = tt
  left_telling (Asks before) s g = tt
  left_telling (Keeps words next) s g = g
  left_telling (PutsAway next) s g = g

  one_if : (b : Bool) (e : Event) → Told e → All Told (if b then [] else e ∷ [])
  one_if true e t = nothing
  one_if false e t = one e t

  rest_if : (b : Bool) (events : List Event) → All Told events → All Told (if b then events else [])
  rest_if true events all = all
  rest_if false events all = nothing

  accepted_told : (s : Session) (events : List Event) → All Told events → All Told (accepted_by s events)
  accepted_told s [] all = nothing
  accepted_told s (e ∷ events) all =
      let rest : List Event = accepted_by (taken s e) events in
      All-append Told (if is_worn s then [] else e ∷ []) (if does s e then rest else [])
      (one_if (is_worn s) e (All-head Told e events all))
      (rest_if (does s e) rest (accepted_told (taken s e) events (All-tail Told e events all)))

  -- ---- plans

  empty_telling : IsTelling (Events [] None)
  empty_telling = record { events = nothing; next = tt }

  chosen : (b : Bool) (one other : Plan) → IsTelling one → IsTelling other → IsTelling (if b then one else other)
  chosen true one other a c = a
  chosen false one other a c = c

  event_if : (b : Bool) (e other : Event) → Told e → Told other → Told (if b then e else other)
  event_if true e other a c = a
  event_if false e other a c = c

  meant_told : (d : Desktop) (e : Event) → Told e → Told (event_meant d e)
  unfolding event_meant
  meant_told d (event.Typed bytes) t = t
  meant_told d (event.Key key) t = t
  meant_told d (event.Mark x y) t = tt
  meant_told d (event.Point keys x0 y0 x1 y1) t = event_if (is_middle keys && lacks_tool d (x0, y0)) tool_event _ tt t
  meant_told d (event.File name bytes) t = t

  after_if : (b : Bool) (before : DeskInfo) (cell : Option (ℕ × ℕ))
      → IfSome (if b then Some (kind.After before cell) else None) Posts
  after_if true before cell = after before cell
  after_if false before cell = tt

  coming_back : (cell : Option (ℕ × ℕ)) → IsTelling (go_plan cell)
  coming_back None = empty_telling
  coming_back (Some cell) = record { events = one (click_of cell) tt; next = tt }

  picking : (at : ℕ × ℕ) (word : Option (ℕ × ℕ)) → IsTelling (word_plan at word)
  picking at None = record { events = one (click_of at) tt; next = tt }
  picking at (Some ends) = record {
    events = one (click_of (ends.0, at.1)) tt;
    next = post (event.Point keys.Right ends.0 at.1 ends.1 at.1) tt;
  }

  entering : (is_log : Bool) (cell : Option (ℕ × ℕ)) → IsTelling (enter_plan is_log cell)
  entering is_log None = empty_telling
  entering true (Some cell) = record { events = nothing; next = reveal cell }
  entering false (Some cell) = record { events = nothing; next = enter cell }

  answering : (viewer : Option ShownViewer) (before : DeskInfo) (cell : Option (ℕ × ℕ)) (d : Desktop)
      → IsTelling (answer_plan viewer before cell d)
  answering (Some viewer) before cell d = entering viewer.is_log (text_start viewer.place)
  answering None before cell d = chosen (nat_lt before.log_length (desk_info d).log_length) (Says (last_log_line d))
      (comeback_plan before cell d) (record { events = nothing; next = tt })
      (chosen (has_lost_caret before d) (go_plan cell) (Events [] None) (coming_back cell) empty_telling)

  -- what is typed, before which a line may be broken
  byte_told : (bytes : List ℕ) → IfSome (first_byte_typed bytes) Told
  byte_told [] = tt
  byte_told (b ∷ bytes) = tt

  first_event_told : (t : TypingView) → IfSome (first_typed t) Told
  unfolding first_typed
  first_event_told t = elim (nat_lt 0 t.backs) as (λ (b : Bool).
      IfSome (if b then Some (event.Key key.Back) else first_byte_typed t.bytes) Told) [ true ↦ tt | false ↦ byte_told t.bytes ]

  typing : (next : Option Event) (t : TypingView) (fills : Bool) (deed : Deed) → IfSome next Told
      → IsTelling (unbroken_plan next t fills deed)
  typing None t fills deed told = empty_telling
  typing (Some e) t fills deed told = record { events = one e told; next = types (rest_typed t) fills deed }

  -- events to a position in sight, and others behind them
  only : (o : Option (List Event)) (e : Event) → Told e → IfSome o (λ events. events ≡ e ∷ [])
      → IfSome o (λ events. All Told events)
  only None e t is = tt
  only (Some events) e t is = subst (λ (l : List Event). All Told l) (sym is) (one e t)

  left_click : (d : Desktop) (v org p : ℕ) → Told (click_for d v org p)
  unfolding click_for text_click
  left_click d v org p = tt

  click_told : (d : Desktop) (v p : ℕ) → IfSome (near_events d v p) (λ events. All Told events)
  click_told d v p = only (near_events d v p) (click_for d v (org_in d v p) p) (left_click d v (org_in d v p) p)
      (near_click d v p)

  end_told : (o : Option (List Event)) → IfSome o (λ events. All Told events)
      → IfOk (ok_or (and_line_end o) NotInSight) (λ events. All Told events)
  end_told None all = tt
  end_told (Some events) all = All-append Told events (line_end ∷ []) all (one line_end tt)

  place_told : (o : Option (List Event)) → IfSome o (λ events. All Told events)
      → IfOk (ok_or o NotInSight) (λ events. All Told events)
  place_told None all = tt
  place_told (Some events) all = all

  ended_told : (d : Desktop) (v q : ℕ) → IfOk (ended_led d v q) (λ events. All Told events)
  ended_told d v q = elim (has_column d v q) as (λ (b : Bool). IfOk (if b
      then ok_or (and_line_end (near_events d v q)) NotInSight else Err PastEdge) (λ events. All Told events)) [
        | true ↦ end_told (near_events d v q) (click_told d v q)
        | false ↦ tt
      ]

  break_told : (d : Desktop) (v p : ℕ) (o : Option ℕ) → IfOk (break_led d v p o) (λ events. All Told events)
  break_told d v p None = tt
  break_told d v p (Some q) = elim (q == p) as (λ (b : Bool).
      IfOk (if b then Ok (line_end ∷ []) else ended_led d v q) (λ events. All Told events)) [
        | true ↦ one line_end tt
        | false ↦ ended_told d v q
      ]

  led_told : (d : Desktop) (wish : KeyWish) → ((v p : ℕ) → IfOk (led_from d v p wish) (λ events. All Told events))
      → (c : Option Caret) → IfOk (led_with d c wish) (λ events. All Told events)
  led_told d wish each None = tt
  led_told d wish each (Some c) = elim (rows_of d c.viewer == 0) as (λ (b : Bool).
      IfOk (if b then Err NoRow else led_from d c.viewer c.position wish) (λ events. All Told events)) [
        | true ↦ tt
        | false ↦ each c.viewer c.position
      ]

  broken_told : (d : Desktop) (n : ℕ) → IfOk (led d (Break n)) (λ events. All Told events)
  unfolding led led_from
  broken_told d n = led_told d (Break n) (λ v p. break_told d v p (break_in d v n p)) d.caret

  placed_told : (d : Desktop) (n : ℕ) → IfOk (led d (Place n)) (λ events. All Told events)
  unfolding led led_from
  placed_told d n = led_told d (Place n)
      (λ v p. place_told (near_events d v (place_wished d v n)) (click_told d v (place_wished d v n))) d.caret

  breaking : (result : Result (List Event) WhyNot) (place : ℕ) (next : Option Event) (t : TypingView) (fills : Bool) (deed : Deed)
      → IfOk result (λ events. All Told events) → IfSome next Told → IsTelling (broken_plan result place next t fills deed)
  breaking (Ok events) place next t fills deed all told = record { events = all; next = goes_back place t fills deed }
  breaking (Err why) place next t fills deed all told = typing next t fills deed told

  by_room : (room : Option ℕ) (next : Option Event) (t : TypingView) (fills : Bool) (deed : Deed) (d : Desktop)
      → IfSome next Told → IsTelling (type_plan room next t fills deed d)
  by_room None next t fills deed d told = typing next t fills deed told
  by_room (Some n) next t fills deed d told =
      breaking (led d (Break n)) (place_behind d) next t fills deed (broken_told d n) told

  placing : (wish : KeyWish) (result : Result (List Event) WhyNot) (next : Task) → Posts next
      → IfOk result (λ events. All Told events) → IsTelling (placed_plan wish result next)
  placing wish (Ok events) next posts all = record { events = all; next = posts }
  placing wish (Err why) next posts all = record { events = nothing; next = tt }

  -- ---- what is pasted

  rooming : (result : Result (List Event) WhyNot) (place : ℕ) (bytes : List ℕ) (typed : ℕ)
      → IfOk result (λ events. All Told events) → IsTelling (room_plan result place bytes typed)
  rooming (Ok events) place bytes typed all = record { events = all; next = pours (Back place) bytes typed }
  rooming (Err why) place bytes typed all = record { events = nothing; next = pours On bytes typed }

  fronting : (bytes : Option (List ℕ)) (next : Option Task) → IfSome next Posts → IsTelling (front_plan bytes next)
  fronting None next posts = empty_telling
  fronting (Some bytes) next posts = record { events = one (event.Typed bytes) tt; next = posts }

  more_posts : (o : Option (List ℕ)) → IfSome (option_map (λ (more : List ℕ). kind.Post (event.Typed more)) o) Posts
  more_posts None = tt
  more_posts (Some more) = post (event.Typed more) tt

  more_pours : (n : ℕ) (o : Option (List ℕ)) → IfSome (option_map (λ (more : List ℕ). kind.Pour First more n) o) Posts
  more_pours n None = tt
  more_pours n (Some more) = pours First more n

  as_it_is : (bytes : List ℕ) → IsTelling (Events (event.Typed bytes ∷ []) None)
  as_it_is bytes = record { events = one (event.Typed bytes) tt; next = tt }

  columned : (column : Option ℕ) (bytes : List ℕ) → IsTelling (from_column column bytes)
  columned None bytes = as_it_is bytes
  columned (Some x) bytes = fronting (typable (take 900 (poured_at x bytes))) _ (more_posts (typable (drop 900 (poured_at x bytes))))

  pouring : (r : Result (List Event) WhyNot) (bytes : List ℕ) (typed : ℕ) → IsTelling (poured_plan r bytes typed)
  pouring (Ok events) bytes typed = columned (column_clicked events) bytes
  pouring (Err NotInSight) bytes typed = fronting (typable (take 1 bytes)) _ (more_pours _ (typable (drop 1 bytes)))
  pouring (Err NoCaret) bytes typed = as_it_is bytes
  pouring (Err NoRow) bytes typed = as_it_is bytes
  pouring (Err TooFar) bytes typed = as_it_is bytes
  pouring (Err NothingBehind) bytes typed = as_it_is bytes
  pouring (Err PastEdge) bytes typed = as_it_is bytes
  pouring (Err NoWord) bytes typed = as_it_is bytes
  pouring (Err NothingThere) bytes typed = as_it_is bytes
  pouring (Err NoBreak) bytes typed = as_it_is bytes

  -- ---- what cuts what is selected up to the caret

  drawn_told : (from to : Option (ℕ × ℕ))
      → IfOk (then_drawn (Some []) (drag_by keys.RightLeft from to)) (λ events. All Told events)
  drawn_told (Some from) (Some to) = one (event.Point keys.RightLeft from.0 from.1 to.0 to.1) tt
  drawn_told (Some from) None = tt
  drawn_told None to = tt

  cut_all_told : (d : Desktop) (s : Selection) → IfOk (cut_all_led d s) (λ events. All Told events)
  unfolding cut_all_led drawn
  cut_all_told d s =
      let org : ℕ = (viewer_of d s.viewer).org in
      elim (nat_lt s.beg s.end) as (λ (b : Bool). IfOk (if b then then_drawn (Some [])
      (drag_by keys.RightLeft (cell_from d s.viewer org s.beg) (cell_from d s.viewer org (s.end - 1)))
      else Err NothingThere) (λ events. All Told events)) [
        | true ↦ drawn_told (cell_from d s.viewer org s.beg) (cell_from d s.viewer org (s.end - 1))
        | false ↦ tt
      ]

  cut_told : (d : Desktop) (s : Selection) → IfOk (cut_led d s) (λ events. All Told events)
  unfolding cut_led
  cut_told d s = cut_all_told d (without_hidden_end d s)

  cut_wish_told : (d : Desktop) → IfOk (led d CutSelected) (λ events. All Told events)
  unfolding led led_from
  cut_wish_told d = led_told d CutSelected (λ v p. cut_told d (selected_up_to d v p)) d.caret

  typing_over : (next : Task) → Posts next → (r : Result (List Event) WhyNot) → IfOk r (λ events. All Told events)
      → IsTelling (over_plan next r)
  typing_over next g (Ok events) all = record { events = all; next = g }
  typing_over next g (Err why) all = record { events = nothing; next = g }

  erases : (r : Result (List Event) WhyNot) → IfOk r (λ events. All Told events) → IsTelling (erase_plan false r)
  unfolding erasing
  erases (Ok events) all = record { events = all; next = tt }
  erases (Err why) all = record { events = nothing; next = post (event.Key key.Back) tt }

  posts_by : (fills : Filling) (e : Event) → Told e → Posts (posting fills e)
  posts_by Off (event.Typed bytes) t = post (event.Typed bytes) tt
  posts_by (Pasted typed) (event.Typed bytes) t = pours First bytes typed
  posts_by Letters (event.Typed bytes) t = by_count (length bytes == 1)
    where
      by_room_left : (t : Option TypingView) → Posts (typed_task t bytes)
      by_room_left None = post (event.Typed bytes) tt
      by_room_left (Some t) = types t true (deed_of (event.Typed bytes))

      by_count : (b : Bool) → Posts (if b then typed_task (typed_behind bytes nothing_typed) bytes
          else kind.Post (event.Typed bytes))
      by_count true = by_room_left (typed_behind bytes nothing_typed)
      by_count false = post (event.Typed bytes) tt
  posts_by fills (event.Key key) t = post (event.Key key) t
  posts_by fills (event.Mark x y) t = post (event.Mark x y) t
  posts_by fills (event.Point keys x0 y0 x1 y1) t = post (event.Point keys x0 y0 x1 y1) t
  posts_by fills (event.File name bytes) t = post (event.File name bytes) t

  telling : (task : Task) (d : Desktop) → Posts task → IsTelling (plan_of task d)
  unfolding plan_of plan_on posted_plan
  telling _ d (post e t) = record {
    events = one (event_meant d e) (meant_told d e t);
    next = after_if (is_call (event_meant d e)) (desk_info d) (caret_seen d e);
  }
  telling _ d (calls e deed t) = record {
    events = one (event_meant d e) (meant_told d e t);
    next = after_if (is_call (event_meant d e)) (desk_info d) (caret_seen d e);
  }
  telling _ d (after before cell) = answering (opened_viewer before d) before cell d
  telling _ d (word at) = picking at (picked_word (shown_screen d) at)
  telling _ d (enter cell) = chosen (desk_info d).is_marked _ _
      (record { events = one (event.Key key.Escape) tt; next = post (click_of cell) tt })
      (record { events = one (click_of cell) tt; next = tt })
  telling _ d (reveal cell) = record { events = nothing; next = tt }
  telling _ d (types t fills deed) =
      by_room (room_if fills (first_typed t)) (first_typed t) t fills deed d (first_event_told t)
  telling _ d (goes_back place t fills deed) = chosen (is_place place (desk_info d).caret_position) _ _
      (record { events = nothing; next = types t fills deed })
      (placing (Place place) (led d (Place place)) (kind.TypeOn t fills deed) (types t fills deed) (placed_told d place))
  telling _ d (pours First bytes typed) = let n : ℕ = min (word_length bytes) 255 in
      rooming (led d (Break n)) (place_behind d) bytes typed (broken_told d n)
  telling _ d (pours (Back place) bytes typed) = chosen (is_place place (desk_info d).caret_position) _ _
      (record { events = nothing; next = pours On bytes typed })
      (placing (Place place) (led d (Place place)) (kind.Pour On bytes typed) (pours On bytes typed) (placed_told d place))
  telling _ d (pours On bytes typed) = pouring (led d (Place (standing d))) bytes typed
  telling _ d (over e fills t) = typing_over (posting fills e) (posts_by fills e t) (led d CutSelected) (cut_wish_told d)
  telling _ d erase = erases (led d CutSelected) (cut_wish_told d)

  -- ---- all plans of a press

  all_told : (n : ℕ) (left : Option Task) (seat : Seat) → IfSome left Posts → All Told (accepted_in n left seat)
  all_told zero left seat g = nothing
  all_told (suc n) None seat g = All-append Told [] (accepted_in n None seat) nothing (all_told n None seat tt)
  all_told (suc n) (Some task) seat g =
      let made : IsTelling (plan_of task seat.session.desktop) = telling task seat.session.desktop g in
      All-append Told (accepted_stage (Some task) seat)
      (accepted_in n (task_left (Some task) seat.session) (after_stage (Some task) seat))
      (accepted_told seat.session (planned (plan_of task seat.session.desktop)) made.events)
      (all_told n (task_left (Some task) seat.session) (after_stage (Some task) seat)
      (left_telling (plan_of task seat.session.desktop) seat.session made.next))

  first_told : (n : ℕ) (task : Task) (seat : Seat) → IsTelling (plan_of task seat.session.desktop)
      → All Told (accepted_in n (Some task) seat)
  first_told zero task seat made = nothing
  first_told (suc n) task seat made = All-append Told (accepted_stage (Some task) seat)
      (accepted_in n (task_left (Some task) seat.session) (after_stage (Some task) seat))
      (accepted_told seat.session (planned (plan_of task seat.session.desktop)) made.events)
      (all_told n (task_left (Some task) seat.session) (after_stage (Some task) seat)
      (left_telling (plan_of task seat.session.desktop) seat.session made.next))

  -- ---- a task that only looks, and what is left of it over the same desktop

  -- a plan without events, and what it leaves to do tells what was told over that desktop
  abbrev TellsNext : Desktop → Option Task → Type 0
  TellsNext d next = IfSome next (λ (task : Task). IsTelling (plan_of task d))

  record IsLooking (plan : Plan) (d : Desktop) : Type 0 where
    none : planned plan ≡ []
    next : TellsNext d (next_of plan)

  next_if : (b : Bool) (d : Desktop) (next : Option Task) → TellsNext d next → TellsNext d (if b then next else None)
  next_if true d next g = g
  next_if false d next g = tt

  left_looking : (plan : Plan) (s : Session) (d : Desktop) → TellsNext d (next_of plan) → TellsNext d (left_by plan s)
  left_looking (NotDone why) s d g = tt
  left_looking (Events events next) s d g = next_if (does_all s events) d next g
  left_looking (Says line) s d g = tt
  left_looking (Aims cell) s d g = tt
  left_looking (Shows cell) s d g = tt
  left_looking (SaysMore saying) s d g = tt
  left_looking (Asks before) s d g = tt
  left_looking (Keeps words next) s d g = g
  left_looking (PutsAway next) s d g = g

  same_session : (plan : Plan) (seat : Seat) → planned plan ≡ [] → (after_planned plan seat).session ≡ seat.session
  same_session (NotDone why) seat is = refl
  same_session (Events [] next) seat is = refl
  same_session (Events (e ∷ events) next) seat is = absurd (cc is)
  same_session (Says line) seat is = refl
  same_session (Aims cell) seat is = refl
  same_session (Shows cell) seat is = refl
  same_session (SaysMore saying) seat is = refl
  same_session (Asks before) seat is = refl
  same_session (Keeps words next) seat is = refl
  same_session (PutsAway next) seat is = refl

  looked_next : (n : ℕ) (left : Option Task) (seat : Seat) → TellsNext seat.session.desktop left → All Told (accepted_in n left seat)
  looked_next n None seat made = all_told n None seat tt
  looked_next n (Some task) seat made = first_told n task seat made

  looked_told : (n : ℕ) (task : Task) (seat : Seat) → IsLooking (plan_of task seat.session.desktop) seat.session.desktop
      → All Told (accepted_in n (Some task) seat)
  looked_told zero task seat made = nothing
  looked_told (suc n) task seat made = All-append Told (accepted_stage (Some task) seat)
      (accepted_in n (task_left (Some task) seat.session) (after_stage (Some task) seat))
      (subst (λ (events : List Event). All Told (accepted_by seat.session events)) (sym made.none) nothing)
      (looked_next n (task_left (Some task) seat.session) (after_stage (Some task) seat)
      (subst (λ (s : Session). TellsNext s.desktop (task_left (Some task) seat.session))
      (sym (same_session (plan_of task seat.session.desktop) seat made.none))
      (left_looking (plan_of task seat.session.desktop) seat.session seat.session.desktop made.next)))

-- ---- the first plan of each kind

itself : (e : Event) → IsClickTold (middle_click e) e
itself (event.Typed bytes) = tt
itself (event.Key key) = tt
itself (event.Mark x y) = tt
itself (event.Point keys.Left x0 y0 x1 y1) = tt
itself (event.Point keys.Middle x0 y0 x1 y1) = refl
itself (event.Point keys.Right x0 y0 x1 y1) = tt
itself (event.Point keys.LeftMiddle x0 y0 x1 y1) = tt
itself (event.Point keys.LeftRight x0 y0 x1 y1) = tt
itself (event.Point keys.MiddleLeft x0 y0 x1 y1) = tt
itself (event.Point keys.MiddleRight x0 y0 x1 y1) = tt
itself (event.Point keys.RightLeft x0 y0 x1 y1) = tt
itself (event.Point keys.RightMiddle x0 y0 x1 y1) = tt
itself (event.File name bytes) = tt

over_posts : (fills : Filling) (e : Event) → Posts (middle_click e) (posting_over fills e)
over_posts fills (event.Typed bytes) = over (event.Typed bytes) fills tt
over_posts fills (event.Key key.Back) = erase
over_posts fills (event.Key key.Copy) = post (event.Key key.Copy) tt
over_posts fills (event.Key key.Paste) = post (event.Key key.Paste) tt
over_posts fills (event.Key key.Cut) = post (event.Key key.Cut) tt
over_posts fills (event.Key key.Escape) = post (event.Key key.Escape) tt
over_posts fills (event.Mark x y) = post (event.Mark x y) tt
over_posts fills (event.Point keys x0 y0 x1 y1) = post _ (itself (event.Point keys x0 y0 x1 y1))
over_posts fills (event.File name bytes) = post (event.File name bytes) tt

hand_posts : (over : Bool) (fills : Filling) (e : Event) → Posts (middle_click e) (posted over fills e)
hand_posts true fills e = over_posts fills e
hand_posts false fills e = posts_by (middle_click e) fills e (itself e)

-- and of a second click
or_word_posts : (e : Event) (again : Option (ℕ × ℕ)) (fills : Filling) (selects : Bool) (typed : Option TypingView)
    (sight : Sight) → IfSome (task_or_word again fills selects typed sight (action.Post e)) (Posts (middle_click e))
unfolding task_of
or_word_posts e (Some cell) fills b typed sight = word cell
or_word_posts e None fills b typed sight = hand_posts b fills e

-- ---- what is wished of the caret

-- what tells the click by which its events call, before which the marker may be set; or there are none
abbrev Tells : KeyWish → Result (List Event) WhyNot → Type 0
Tells wish result = IsTelling (click_led result) (lead_plan wish result)

refused : (wish : KeyWish) (why : WhyNot) → Tells wish (Err why)
refused wish why = record { events = nothing None; next = tt }

-- a click, and one after the marker is set
pressed : (deed : Option Deed) (cell : ℕ × ℕ)
    → IsTelling (middle_click (middle_press cell)) (call_plan deed (middle_press cell ∷ []))
pressed deed cell = record {
  events = nothing (middle_click (middle_press cell));
  next = calls (middle_press cell) deed (itself (middle_press cell));
}

pressed_marked : (deed : Option Deed) (at cell : ℕ × ℕ)
    → IsTelling (click_in (event.Mark at.0 at.1 ∷ middle_press cell ∷ []))
    (call_plan deed (event.Mark at.0 at.1 ∷ middle_press cell ∷ []))
pressed_marked deed at cell = record {
  events = one (click_in (event.Mark at.0 at.1 ∷ middle_press cell ∷ [])) (event.Mark at.0 at.1) tt;
  next = calls (middle_press cell) deed refl;
}

call_told : (d : Desktop) (command : CaretCommand) (v : ℕ) (menu text : Option (ℕ × ℕ))
    → Tells (Call command) (call_by d v menu text)
call_told d command v (Some cell) text = pressed (lead_deed (Call command)) cell
call_told d command v None (Some cell) = pressed_marked (lead_deed (Call command)) (mark_cell d v) cell
call_told d command v None None = refused (Call command) NoWord

press_told : (cell : Option (ℕ × ℕ))
    → Tells CallLine (ok_or (option_map (λ (c : ℕ × ℕ). middle_press c ∷ []) cell) NotInSight)
press_told None = refused CallLine NotInSight
press_told (Some cell) = pressed (lead_deed CallLine) cell

word_told : (d : Desktop) (v : ℕ) (word : Option ℕ) → Tells CallLine (word_led d v word)
word_told d v None = refused CallLine NoWord
word_told d v (Some q) = press_told (character_cell d v q)

rows_told : (wish : KeyWish) (b : Bool) (result : Result (List Event) WhyNot) → Tells wish result
    → Tells wish (if b then Err NoRow else result)
rows_told wish true result all = refused wish NoRow
rows_told wish false result all = all

caret_told : (d : Desktop) (wish : KeyWish) → ((v p : ℕ) → Tells wish (led_from d v p wish)) → (c : Option Caret)
    → Tells wish (led_with d c wish)
caret_told d wish each None = refused wish NoCaret
caret_told d wish each (Some c) =
    rows_told wish (rows_of d c.viewer == 0) (led_from d c.viewer c.position wish) (each c.viewer c.position)

from_told : (d : Desktop) (command : CaretCommand) (v p : ℕ) → Tells (Call command) (led_from d v p (Call command))
unfolding led_from call_led
from_told d command v p = call_told d command v (word_cell d command (Some v)) (word_cell d command None)

line_told : (d : Desktop) (v p : ℕ) → Tells CallLine (led_from d v p CallLine)
unfolding led_from line_led
line_told d v p = word_told d v (line_word (bytes_of (main_of d v)) (text_width d v) p)

command_told : (d : Desktop) (command : CaretCommand) → Tells (Call command) (led d (Call command))
unfolding led
command_told d command = caret_told d (Call command) (from_told d command) d.caret

line_wish_told : (d : Desktop) → Tells CallLine (led d CallLine)
unfolding led
line_wish_told d = caret_told d CallLine (line_told d) d.caret

-- the marker alone
marks : (result : Result (List Event) WhyNot) → IfOk result (λ events. All (IsClickTold None) events)
    → IsTelling None (lead_plan MarkWish result)
marks (Err why) all = record { events = nothing None; next = tt }
marks (Ok events) all = record { events = all; next = tt }

mark_told : (d : Desktop) (c : Option Caret) → IfOk (led_with d c MarkWish) (λ events. All (IsClickTold None) events)
unfolding led_from
mark_told d None = tt
mark_told d (Some c) = elim (rows_of d c.viewer == 0) as (λ (b : Bool).
    IfOk (if b then Err NoRow else led_from d c.viewer c.position MarkWish) (λ events. All (IsClickTold None) events)) [
      | true ↦ tt
      | false ↦ let cell = marker_cell d c.viewer c.position in one None (event.Mark cell.0 cell.1) tt
    ]

mark_wish_told : (d : Desktop) → IsTelling None (lead_plan MarkWish (led d MarkWish))
unfolding led
mark_wish_told d = marks (led_with d d.caret MarkWish) (mark_told d d.caret)

-- what is selected is searched by the command, and else it is asked for words
search_looks : (d : Desktop) (viewer : Option ℕ) (selected : Option (Text ℕ))
    → IsLooking (click_led (led d (Call caret.Search))) (begin_plan false viewer selected) d
unfolding plan_of
search_looks d None selected = record { none = refl; next = tt }
search_looks d (Some viewer) None = record { none = refl; next = tt }
search_looks d (Some viewer) (Some text) = record { none = refl; next = command_told d caret.Search }

search_told : (d : Desktop) (b : Bool)
    → IsLooking (click_led (led d (Call caret.Search))) (plan_of (kind.Find (finding.Search b false)) d) d
unfolding plan_of
search_told d b = search_looks d (desk_info d).caret_viewer (if b then option_map (selected d) (newest d) else None)

pub clicks_told : ClicksAreTold
unfolding accepted_as task_of click_made calling_wish plan_of plan_on
clicks_told (action.Post e) seat is = all_told (middle_click e) most_plans _ (noted_at (action.Post e) seat)
    (or_word_posts e (cell_again (cell_clicked (action.Post e)) seat.sitting.clicked) (filling seat.sitting)
    (selects seat.sitting.past) (replacement seat.sitting.replacing) seat.sitting.sight)
clicks_told action.Search seat is = looked_told _ most_plans (kind.Find (finding.Search (selects seat.sitting.past) false))
    (noted_at action.Search seat) (search_told seat.session.desktop (selects seat.sitting.past))
clicks_told action.Store seat is = first_told _ most_plans _ (noted_at action.Store seat)
    (command_told seat.session.desktop caret.Store)
clicks_told action.CallLine seat is = first_told _ most_plans _ (noted_at action.CallLine seat)
    (line_wish_told seat.session.desktop)
clicks_told action.Mark seat is = first_told _ most_plans _ (noted_at action.Mark seat)
    (mark_wish_told seat.session.desktop)
clicks_told action.Nothing seat is = absurd cc
clicks_told action.Ring seat is = absurd cc
clicks_told action.LookAnew seat is = absurd cc
clicks_told action.Leave seat is = absurd cc
clicks_told action.Undo seat is = absurd cc
clicks_told action.Redo seat is = absurd cc
clicks_told (action.TypeFile name) seat is = absurd cc
clicks_told action.SearchBefore seat is = absurd cc
clicks_told (action.Find words before) seat is = absurd cc
clicks_told (action.Move page) seat is = absurd cc
clicks_told (action.Scroll at scroll) seat is = absurd cc
clicks_told (action.GoTo line) seat is = absurd cc
clicks_told action.Replace seat is = absurd cc
clicks_told action.Fill seat is = absurd cc
clicks_told (action.Seek at) seat is = absurd cc
clicks_told (action.Step arrow) seat is = absurd cc
clicks_told action.Delete seat is = absurd cc
clicks_told (action.Select arrow) seat is = absurd cc
clicks_told action.SelectAll seat is = absurd cc
clicks_told (action.Extend start at) seat is = absurd cc
clicks_told action.CutLine seat is = absurd cc
clicks_told action.Refill seat is = absurd cc
clicks_told (action.Fit rows columns) seat is = absurd cc
clicks_told action.FileFailed seat is = absurd cc
