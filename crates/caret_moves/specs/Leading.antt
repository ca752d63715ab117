-- What is wished of the caret: the events that do it, and what they leave.
use Rattle.std.specs.Prelude.{◌≡◌, ℕ, ◌+◌, ◌-◌, ◌==◌, ◌≤◌, nat_lt, min, Bool, if◌then◌else◌, true, false}
use Rattle.std.specs.Prelude.{List, [], ◌∷◌, ◌++◌, length}
use Rattle.std.specs.Prelude.{Option, Some, None, option_map, ok_or, unwrap_or, IfSome, Result, Ok, Err, IfOk}
use Rattle.event_bytes.specs.declared.keys.Keys.{Keys}
use Rattle.event_bytes.specs.declared.keys.Keys.TheVariants.{Left, Right, RightLeft}
use Rattle.event_bytes.specs.declared.keys.Key.TheVariants.{Back}
use Rattle.event_bytes.specs.declared.event.Event.{Event}
use Rattle.event_bytes.specs.declared.event.Event.TheVariants.{Key, Mark, Point, Typed}
use Rattle.event_bytes.specs.Bytes.{carriage_return}
use Rattle.text_frames.specs.Cells.{cell_of, column_of}
use Rattle.text_frames.specs.Lines.{line_start}
use Rattle.desktop_definitions.specs.declared.viewer.Caret.{Caret}
use Rattle.desktop_definitions.specs.declared.viewer.Selection.{Selection}
use Rattle.desktop_definitions.specs.declared.reply.Reply.TheVariants.{Done}
use Rattle.desktop_definitions.specs.Limits.{newest_version}
use Rattle.desktop_definitions.specs.Desktop.{DesktopOf, Desktop}
use Rattle.desktop_definitions.specs.Viewers.{viewer_of, main_of, rows_of, with_org, with_caret}
use Rattle.desktop_definitions.specs.Change.{bytes_of}
use Rattle.desktop_definitions.specs.Commands.{after_call}
use Rattle.desktop_definitions.specs.Gesture.{left, width, frame_row}
use Rattle.desktop_definitions.specs.Keys.{without_character_before, after_typing}
use Rattle.desktop_definitions.specs.Step.{Outcome, marked, outcome_after, step}
use Rattle.desk_input.specs.Lines.{lines_in_sight}
use Rattle.desk_input.specs.Scrolling.{line_presses, LeadTo}
use Rattle.caret_moves.specs.declared.wish.Step.{Step as AStep}
use Rattle.caret_moves.specs.declared.wish.KeyWish.{KeyWish}
use Rattle.caret_moves.specs.declared.wish.KeyWish.TheVariants.{Select, SelectOn, SelectAll, CutSelected, CutLine}
use Rattle.caret_moves.specs.declared.wish.KeyWish.TheVariants.{Step, DeleteNext, Call, CallLine, Mark as MarkWish, Break, Place, Reach}
use Rattle.caret_moves.specs.declared.wish.WhyNot.{WhyNot}
use Rattle.caret_moves.specs.declared.wish.WhyNot.TheVariants.{NoCaret, NoRow, TooFar, NothingBehind, PastEdge}
use Rattle.caret_moves.specs.declared.wish.WhyNot.TheVariants.{NoWord, NotInSight, NoBreak, NothingThere}
use Rattle.caret_moves.specs.Filling.{line_break, IsBreak}
use Rattle.caret_moves.specs.Steps.{column_cut, step_goal, org_for, landing}
use Rattle.caret_moves.specs.Calling.{middle_press, mark_cell, call_led, call_desktop, done_on, line_word}
use Rattle.caret_moves.specs.Stretches.{stretch_of, stop_by, up_to, anchor_by, line_around, with_stretch, without_stretch}
use Rattle.caret_moves.specs.Stretches.{drag_by}

module _ {T : Type 0} where
  -- how many columns of text a viewer has: all but its scroll bar
  abbrev pub text_width : DesktopOf T → ℕ → ℕ
  text_width d v = width d v - 1

  -- a left click at a column and a row of a viewer's text
  unfoldable pub text_click : DesktopOf T → ℕ → ℕ → ℕ → Event
  text_click d v column row =
      let x = left d v + 1 + column in let y = frame_row d v row in Point Left x y x y

  -- a cell of the display, by the column and the row of a viewer's text
  unfoldable pub display_cell : DesktopOf T → ℕ → ℕ × ℕ → ℕ × ℕ
  display_cell d v cell = (left d v + 1 + cell.0, frame_row d v cell.1)

-- ---- where the caret goes

-- the position to which a step leads from p
unfoldable pub step_goal_in : Desktop → ℕ → ℕ → AStep → ℕ
step_goal_in d v p step = step_goal (bytes_of (main_of d v)) (text_width d v) (rows_of d v) p step

-- where the viewer shows its text from, so that the line of p is in sight
unfoldable pub org_in : Desktop → ℕ → ℕ → ℕ
org_in d v p = org_for (bytes_of (main_of d v)) (rows_of d v) (viewer_of d v).org p

-- whether p has a cell there, and doesn't stand right of the last column
unfoldable pub has_column : Desktop → ℕ → ℕ → Bool
has_column d v p =
    nat_lt (column_of (bytes_of (main_of d v)) (org_in d v p) p) (text_width d v)

-- the position at which the caret comes to stand
unfoldable pub landing_in : Desktop → ℕ → ℕ → ℕ
landing_in d v p = landing (bytes_of (main_of d v)) (text_width d v) (org_in d v p) p

-- the line of p is in sight, and the caret stands where it can stand for p
unfoldable pub stood : Desktop → ℕ → ℕ → Desktop
stood d v p = with_caret (with_org d v (org_in d v p)) v (landing_in d v p)

-- the cell of the display at which a viewer shows the character at p, where it shows it
unfoldable pub character_cell : Desktop → ℕ → ℕ → Option (ℕ × ℕ)
character_cell d v p = option_map (display_cell d v)
    (cell_of (text_width d v) (rows_of d v) (bytes_of (main_of d v)) (viewer_of d v).org p)

-- the same where the viewer shows its text from org on
unfoldable pub cell_from : Desktop → ℕ → ℕ → ℕ → Option (ℕ × ℕ)
cell_from d v org p = option_map (display_cell d v)
    (cell_of (text_width d v) (rows_of d v) (bytes_of (main_of d v)) org p)

-- where a stretch up to p ends: before a line end that has no column, since its line fills the row
unfoldable pub stop_in : Desktop → ℕ → ℕ → ℕ
stop_in d v p =
    stop_by p (line_start (bytes_of (main_of d v)) p) (has_column d v (p - 1))

-- a stretch without such a line end
unfoldable pub without_hidden_end : Desktop → Selection → Selection
without_hidden_end d s = up_to s (stop_in d s.viewer s.end)

-- where what is selected up to p begins; where nothing is it is p
unfoldable pub anchor_in : Desktop → ℕ → ℕ → ℕ
anchor_in d v p = anchor_by d v p (stop_in d v p)

-- what is selected up to p, which may have no character
abbrev pub selected_up_to : Desktop → ℕ → ℕ → Selection
selected_up_to d v p = stretch_of v (anchor_in d v p) p

-- what a step from p goes over, from a position on
unfoldable pub stepped_over : Desktop → ℕ → ℕ → ℕ → AStep → Selection
stepped_over d v start p step = stretch_of v start (step_goal_in d v p step)

-- all of a text
unfoldable pub whole_text : Desktop → ℕ → Selection
whole_text d v = stretch_of v 0 (length (main_of d v))

-- the caret's own cell, and where that isn't in sight the middle of its viewer
unfoldable pub marker_cell : Desktop → ℕ → ℕ → ℕ × ℕ
marker_cell d v p = unwrap_or (character_cell d v p) (mark_cell d v)

-- the desktop after what is wished, from a caret
unfoldable pub after_wish : Desktop → Caret → KeyWish → Desktop
after_wish d c (Step step) = stood d c.viewer (step_goal_in d c.viewer c.position step)
after_wish d c DeleteNext = without_character_before (stood d c.viewer (c.position + 1))
    (record { viewer = c.viewer; position = c.position + 1 })
after_wish d c MarkWish = let cell = marker_cell d c.viewer c.position in marked d cell.0 cell.1
after_wish d c (Select step) =
    with_stretch (stood d c.viewer (step_goal_in d c.viewer c.position step))
    (without_hidden_end d (stepped_over d c.viewer c.position c.position step))
after_wish d c (SelectOn step) =
    with_stretch (stood d c.viewer (step_goal_in d c.viewer c.position step))
    (without_hidden_end d
    (stepped_over d c.viewer (anchor_in d c.viewer c.position) c.position step))
after_wish d c SelectAll = with_stretch (stood d c.viewer (length (main_of d c.viewer)))
    (without_hidden_end d (whole_text d c.viewer))
after_wish d c CutSelected =
    without_stretch d (without_hidden_end d (selected_up_to d c.viewer c.position))
after_wish d c CutLine =
    without_stretch d (without_hidden_end d (line_around d c.viewer c.position))
after_wish d c (Call command) = call_desktop d c.viewer command
after_wish d c CallLine = d
after_wish d c (Break n) = d
after_wish d c (Place n) = stood d c.viewer (min n (length (main_of d c.viewer)))
after_wish d c (Reach n) = stood d c.viewer (min n (length (main_of d c.viewer)))

-- ---- the events

-- the click at the cell of p, where the text is shown from org on
unfoldable pub click_for : Desktop → ℕ → ℕ → ℕ → Event
click_for d v org p =
    let bs = bytes_of (main_of d v) in
    text_click d v (column_cut bs (text_width d v) org p)
    (unwrap_or (lines_in_sight bs (rows_of d v) org p) 0)

-- the presses after which the text is shown from org on, where it isn't yet
unfoldable pub org_presses : Desktop → ℕ → ℕ → Option (List Event)
org_presses d v org = if org == (viewer_of d v).org then Some [] else line_presses d v org

-- these presses, and then the click
unfoldable pub events_to : Desktop → ℕ → ℕ → Option (List Event)
events_to d v p = option_map (λ presses. presses ++ click_for d v (org_in d v p) p ∷ [])
    (org_presses d v (org_in d v p))

-- where its line is in sight: the click alone
unfoldable pub near_events : Desktop → ℕ → ℕ → Option (List Event)
near_events d v p = if org_in d v p == (viewer_of d v).org then events_to d v p else None

-- and then the character before the caret is deleted
abbrev pub and_back : Option (List Event) → Option (List Event)
and_back events = option_map (λ events. events ++ Key Back ∷ []) events

abbrev pub delete_led : Desktop → ℕ → ℕ → Result (List Event) WhyNot
delete_led d v p = if nat_lt p (length (main_of d v))
    then (if has_column d v (p + 1) then ok_or (and_back (events_to d v (p + 1))) TooFar
    else Err PastEdge)
    else Err NothingBehind

-- ---- stretches

-- buttons draw a stretch of a text that is shown from org on, if both ends are in sight
unfoldable pub drawn : Desktop → Keys → ℕ → Selection → Option Event
drawn d keys org s =
    drag_by keys (cell_from d s.viewer org s.beg) (cell_from d s.viewer org (s.end - 1))

-- these events, and then that one
abbrev pub then_drawn : Option (List Event) → Option Event → Result (List Event) WhyNot
then_drawn None event = Err TooFar
then_drawn (Some events) None = Err NotInSight
then_drawn (Some events) (Some event) = Ok (events ++ event ∷ [])

-- the caret goes to p, and then a stretch is drawn
abbrev pub draw_led : Desktop → ℕ → Selection → Result (List Event) WhyNot
draw_led d p s = then_drawn (events_to d s.viewer p) (drawn d Right (org_in d s.viewer p) s)

-- so a stretch is selected, if the caret can stand at p; where it has no character the caret goes alone
unfoldable pub select_all_led : Desktop → ℕ → Selection → Result (List Event) WhyNot
select_all_led d p s = if nat_lt s.beg s.end
    then (if has_column d s.viewer p then draw_led d p s else Err PastEdge)
    else ok_or (events_to d s.viewer p) TooFar

-- it is cut as it is in sight
unfoldable pub cut_all_led : Desktop → Selection → Result (List Event) WhyNot
cut_all_led d s = if nat_lt s.beg s.end
    then then_drawn (Some []) (drawn d RightLeft (viewer_of d s.viewer).org s)
    else Err NothingThere

-- a line end at its end that has no column isn't selected, and isn't cut: no cell is drawn to for it
unfoldable pub select_led : Desktop → ℕ → Selection → Result (List Event) WhyNot
select_led d p s = select_all_led d p (without_hidden_end d s)

unfoldable pub cut_led : Desktop → Selection → Result (List Event) WhyNot
cut_led d s = cut_all_led d (without_hidden_end d s)

-- ---- a line is broken

-- where the line of p is broken in a viewer's text for a word of n characters
unfoldable pub break_in : Desktop → ℕ → ℕ → ℕ → Option ℕ
break_in d v n p = line_break (bytes_of (main_of d v)) (text_width d v) n p

-- an end of line is typed
abbrev pub line_end : Event
line_end = Typed (carriage_return ∷ [])

abbrev pub and_line_end : Option (List Event) → Option (List Event)
and_line_end events = option_map (λ events. events ++ line_end ∷ []) events

-- at the caret, or where another position in sight has its cell
abbrev pub ended_led : Desktop → ℕ → ℕ → Result (List Event) WhyNot
ended_led d v q = if has_column d v q
    then ok_or (and_line_end (near_events d v q)) NotInSight else Err PastEdge

abbrev pub break_led : Desktop → ℕ → ℕ → Option ℕ → Result (List Event) WhyNot
break_led d v p None = Err NoBreak
break_led d v p (Some q) = if q == p then Ok (line_end ∷ []) else ended_led d v q

-- the desktop over which it is typed: there the caret stands where the line is broken
abbrev pub break_desktop : Desktop → ℕ → ℕ → ℕ → Desktop
break_desktop d v p q = if q == p then d else with_caret (with_org d v (org_in d v q)) v q

-- ---- the caret goes to a position

abbrev pub place_wished : Desktop → ℕ → ℕ → ℕ
place_wished d v n = min n (length (main_of d v))

abbrev pub place_led : Desktop → ℕ → ℕ → Result (List Event) WhyNot
place_led d v n = ok_or (near_events d v (place_wished d v n)) NotInSight

-- and wherever its line is
abbrev pub reach_led : Desktop → ℕ → ℕ → Result (List Event) WhyNot
reach_led d v n = ok_or (events_to d v (place_wished d v n)) TooFar

-- ---- the command of a line

-- a click at the word of a command, where that is in sight
abbrev pub word_led : Desktop → ℕ → Option ℕ → Result (List Event) WhyNot
word_led d v None = Err NoWord
word_led d v (Some q) =
    ok_or (option_map (λ cell. middle_press cell ∷ []) (character_cell d v q)) NotInSight

unfoldable pub line_led : Desktop → ℕ → ℕ → Result (List Event) WhyNot
line_led d v p = word_led d v (line_word (bytes_of (main_of d v)) (text_width d v) p)

-- ---- all of them

unfoldable pub led_from : Desktop → ℕ → ℕ → KeyWish → Result (List Event) WhyNot
led_from d v p (Step step) = ok_or (events_to d v (step_goal_in d v p step)) TooFar
led_from d v p DeleteNext = delete_led d v p
led_from d v p (Select step) =
    select_led d (step_goal_in d v p step) (stepped_over d v p p step)
led_from d v p (SelectOn step) =
    select_led d (step_goal_in d v p step) (stepped_over d v (anchor_in d v p) p step)
led_from d v p SelectAll = select_led d (length (main_of d v)) (whole_text d v)
led_from d v p CutSelected = cut_led d (selected_up_to d v p)
led_from d v p CutLine = cut_led d (line_around d v p)
led_from d v p (Call command) = call_led d v command
led_from d v p CallLine = line_led d v p
led_from d v p (Break n) = break_led d v p (break_in d v n p)
led_from d v p (Place n) = place_led d v n
led_from d v p (Reach n) = reach_led d v n
led_from d v p MarkWish = let cell = marker_cell d v p in Ok (Mark cell.0 cell.1 ∷ [])

abbrev pub led_with : Desktop → Option Caret → KeyWish → Result (List Event) WhyNot
led_with d None wish = Err NoCaret
led_with d (Some c) wish =
    if rows_of d c.viewer == 0 then Err NoRow else led_from d c.viewer c.position wish

-- the events that do what is wished, or why there are none
unfoldable pub led : Desktop → KeyWish → Result (List Event) WhyNot
led d wish = led_with d d.caret wish

-- ---- what they do

-- These events lead to a desktop, and a last one comes to that there.
abbrev pub LeadThen : Desktop → List Event → Desktop → Outcome → Type 0
LeadThen d [] mid out = ⊥
LeadThen d (event ∷ []) mid out = (d ≡ mid) × (step d event ≡ out)
LeadThen d (event ∷ next ∷ more) mid out =
    ((step d event).reply ≡ Done) × LeadThen (step d event).desktop (next ∷ more) mid out

-- the word at a position of a viewer's text is called
abbrev pub CallsWord : Desktop → List Event → ℕ → Option ℕ → Type 0
CallsWord d events v None = ⊥
CallsWord d events v (Some q) =
    LeadThen d events d (outcome_after d (after_call newest_version d v false q))

-- an end of line is typed where the line of a caret is broken
abbrev pub BreaksLine : Desktop → List Event → Caret → Option ℕ → Type 0
BreaksLine d events c None = ⊥
BreaksLine d events c (Some q) =
    let mid = break_desktop d c.viewer c.position q in
    LeadThen d events mid (outcome_after mid (after_typing mid (carriage_return ∷ [])))

-- what the events for a wish do, from a caret
abbrev pub Fulfils : Desktop → Caret → KeyWish → List Event → Type 0
Fulfils d c (Call command) events =
    let mid = call_desktop d c.viewer command in
    LeadThen d events mid (outcome_after mid (done_on mid command c.viewer))
Fulfils d c CallLine events = CallsWord d events c.viewer
    (line_word (bytes_of (main_of d c.viewer)) (text_width d c.viewer) c.position)
Fulfils d c (Break n) events =
    BreaksLine d events c (break_in d c.viewer n c.position)
Fulfils d c wish events = LeadTo d events (after_wish d c wish)

-- The events for a wish, and what they do: the caret comes to stand where it is wished, with its line in sight, and nothing
-- else changes but what is deleted, selected or marked; none of these events is refused. Of a command that is called the
-- last event comes to what the command does.
-- else changes but what is deleted or marked; none of these events is refused. Of a command that is called the
-- last event comes to what the command does, and where a line is broken to what typing an end of line does there.
pub record DoesWish (d : Desktop) (wish : KeyWish) (told : Result (List Event) WhyNot) : Type 0
  where
    pub exact : told ≡ led d wish
    pub lead : IfSome d.caret (λ c. IfOk told (Fulfils d c wish))
    -- it stands at the very position where that has a column
    pub lands : IfSome d.caret (λ c. (p : ℕ) → p ≤ length (main_of d c.viewer)
        → has_column d c.viewer p ≡ true → landing_in d c.viewer p ≡ p)
    -- a line is broken behind a blank that it has
    pub breaks : IfSome d.caret (λ c. (n : ℕ)
        → IfSome (break_in d c.viewer n c.position)
        (IsBreak (bytes_of (main_of d c.viewer)) c.position))
