-- What a task becomes over a desktop.
use Rattle.std.specs.Prelude.{ℕ, ◌+◌, ◌-◌, ◌^◌, Bool, true, false, ◌==◌, nat_lt, if◌then◌else◌, max, List, [], ◌∷◌, length, take, drop, slice_get, min, unwrap_or}
use Rattle.std.specs.Prelude.{◌≡◌, ◌&&◌, Option, Some, None, is_none, is_some, option_map, Result, Ok, Err, IfOk}
use Rattle.std.specs.List.{list_any}
use Rattle.sector_disk.specs.declared.disk.Disk.{Ghosts}
use Rattle.event_bytes.specs.Bytes.{is_typed_bytes}
use Rattle.event_bytes.specs.declared.event.Event.{Event}
use Rattle.event_bytes.specs.declared.event.Event.TheVariants as event
use Rattle.event_bytes.specs.declared.keys.Keys.TheVariants as keys
use Rattle.event_bytes.specs.declared.keys.Key.TheVariants as key
use Rattle.screen_pictures.specs.declared.cell.Cell.{Cell}
use Rattle.desktop_definitions.specs.Desktop.{Desktop}
use Rattle.desktop_definitions.specs.declared.entry.Entry.{Entry}
use Rattle.desktop_definitions.specs.Shown.{shown_screen}
use Rattle.desk_journal.specs.Errors.{Error}
use Rattle.desk_journal.specs.Looking.{OnlyLooks}
use Rattle.caret_moves.specs.declared.wish.KeyWish.{KeyWish}
use Rattle.caret_moves.specs.declared.wish.KeyWish.TheVariants.{DeleteNext, Call, CallLine, Break, Place, Reach}
use Rattle.caret_moves.specs.declared.wish.KeyWish.TheVariants.{Select, SelectOn, SelectAll, CutSelected, CutLine}
use Rattle.caret_moves.specs.declared.wish.WhyNot.{WhyNot}
use Rattle.caret_moves.specs.declared.wish.WhyNot.TheVariants as why
use Rattle.desk_journal.specs.Leading.{led}
use Rattle.desk_journal.specs.Scrolling.{Wish, presses_to}
use Rattle.desk_journal.specs.Scrolling as wish
use Rattle.desk_journal.specs.View.{StoreView}
use Rattle.desk_journal.specs.Views.{DeskInfo, Place as ViewerPlace, ShownViewer, desk_info, last_log_line, place_at, shown_viewer}
use Rattle.desk_journal.specs.Views.{caret_text}
use Rattle.desktop_definitions.specs.Change.{bytes_of}
use Rattle.desktop_definitions.specs.Viewers.{newest, selected}
use Rattle.desktop_definitions.specs.Words.{Text}
use Rattle.caret_moves.specs.declared.wish.CaretCommand.TheVariants as caret
use Rattle.starter_desktop.specs.StarterDesktop.{tool_event}
use Rattle.terminal_presses.specs.Sights.{Sight}
use Rattle.host_names.specs.HostNames.{first_words, words_kept}
use Rattle.sought_words.specs.declared.seeking.SearchStart.{SearchStart}
use Rattle.screen_reading.specs.CommandWords.{next_command}
use Rattle.status_line.specs.Deeds.{is_middle}
use Rattle.earlier_presses.specs.Replacing.{TypingView, first_typed, rest_typed}
use Rattle.screen_reading.specs.Aims.{caret_cell, or_else}
use Rattle.screen_reading.specs.Picked.{picked_word}
use Rattle.screen_reading.specs.Extended.{kept_end}
use Rattle.screen_reading.specs.Frames.{text_rows_in_sight, text_start}
pub use Rattle.event_bytes.specs.Parts.{◌>>=◌}
use Rattle.status_line.specs.declared.saying.Saying.{Saying}
use Rattle.status_line.specs.declared.saying.Saying.TheVariants.{NoCaret, NoText, NoScroll, NothingAfter, NoWord, NoCommand}
use Rattle.status_line.specs.declared.saying.Saying.TheVariants.{NoLine, PartHidden}
use Rattle.status_line.specs.declared.saying.Saying.TheVariants.{BeyondEdge, NotThere, NoWords, WentRound, IsFilled}
use Rattle.press_tasks.specs.declared.task.Task.{Task}
use Rattle.press_tasks.specs.declared.task.Task.TheVariants as task
use Rattle.press_tasks.specs.declared.task.Task.TheVariants.{Post, Scroll, Lead}
use Rattle.press_tasks.specs.declared.task.Task.TheVariants.{TypeOn, GoBack, After, Seek}
use Rattle.press_tasks.specs.declared.task.Task.TheVariants.{TypeOver, Erase, Pour, Word, Extend, Find, Refill}
use Rattle.press_tasks.specs.declared.refill.Refilling.{Refilling}
use Rattle.press_tasks.specs.declared.refill.Refilling.TheVariants as refilling
use Rattle.press_tasks.specs.declared.refill.Stroke.{Stroke}
use Rattle.press_tasks.specs.Refilling.{after_stroke, edit_place, edit_stroke, stroke_event}
use Rattle.filled_pastes.specs.declared.edits.Edit.{Edit}
use Rattle.filled_pastes.specs.Paragraphs.{fill_edit, moved}
use Rattle.press_tasks.specs.declared.finding.Finding.{Finding}
use Rattle.press_tasks.specs.declared.finding.Finding.TheVariants as finding
use Rattle.press_tasks.specs.Finding.{words_finding}
use Rattle.sought_words.specs.declared.seeking.Found.{Found}
use Rattle.sought_words.specs.Sought.{search_from, sought_from}
use Rattle.press_tasks.specs.declared.task.Stage.{Stage}
use Rattle.press_tasks.specs.declared.task.Stage.TheVariants.{First, Back, On}
use Rattle.press_tasks.specs.declared.task.Task.TheVariants.{Page, Show, Reveal, Enter}
use Rattle.press_plans.specs.declared.plan.Plan.{Plan as MadePlan}
use Rattle.press_plans.specs.declared.plan.Plan.TheVariants as made
use Rattle.status_line.specs.declared.deed.Deed.{Deed}
use Rattle.press_plans.specs.Filling.{room_if, place_behind, is_place}
use Rattle.press_plans.specs.Listed.{begins_in_viewer, event_meant, is_tool}
use Rattle.filled_pastes.specs.Poured.{poured_at, word_length}
use Rattle.press_tasks.specs.Tasks.{lead_deed, posting}

-- What a task becomes over a desktop: it can't be done, for a reason; or it has these events, and then this is left to
-- do, if anything; or it has none. Then a line of the log is said, the pointer that keys move or the rows in sight go to a
-- cell, something else is said, it is asked for words that are sought before the caret or behind it, or these are kept as
-- the ones that were sought last, or nothing is pointed at any more, and this is left to do.
pub data Plan : Type 0 where
  Refused : Saying → Plan
  Events : List Event → Option Task → Plan
  Says : List ℕ → Plan
  Aims : ℕ × ℕ → Plan
  Shows : ℕ × ℕ → Plan
  Tells : Saying → Plan
  Asks : Bool → Plan
  Keeps : List ℕ → Task → Plan
  PutsAway : Task → Plan

-- a plan as it is kept
abbrev pub seen_plan : MadePlan → Plan
seen_plan (made.Refused why) = Refused why
seen_plan (made.Next next) = Events [] next
seen_plan (made.Event event next) = Events (event ∷ []) next
seen_plan (made.Events events next) = Events events.items next
seen_plan (made.Says line) = Says line.items
seen_plan (made.Aims cell) = Aims cell
seen_plan (made.Shows cell) = Shows cell
seen_plan (made.Tells saying) = Tells saying
seen_plan (made.Asks before) = Asks before
seen_plan (made.Keeps words next) = Keeps words next
seen_plan (made.PutsAway next) = PutsAway next

abbrev pub click_of : ℕ × ℕ → Event
click_of place = event.Point keys.Left place.0 place.1 place.0 place.1

-- what is said where there is nothing to which the caret could go, nothing to delete or to cut, or no word to call
unfoldable pub nothing_there : KeyWish → Saying
nothing_there DeleteNext = NothingAfter
nothing_there (Call command) = NoWord
nothing_there CallLine = NoWord
nothing_there CutLine = NoLine
nothing_there _ = NoText

-- what is said where an end of what is meant isn't in sight
unfoldable pub part_hidden : KeyWish → Saying
part_hidden (Select step) = PartHidden
part_hidden (SelectOn step) = PartHidden
part_hidden SelectAll = PartHidden
part_hidden CutSelected = PartHidden
part_hidden CutLine = PartHidden
part_hidden wish = nothing_there wish

-- what is said where no events do what is wished of the caret
unfoldable pub why_not : KeyWish → WhyNot → Saying
why_not wish why.NoRow = NoScroll
why_not wish why.TooFar = NoScroll
why_not wish why.NoCaret = NoCaret
why_not wish why.NothingBehind = nothing_there wish
why_not wish why.PastEdge = part_hidden wish
why_not wish why.NotInSight = part_hidden wish
why_not wish why.NothingThere = nothing_there wish
why_not wish why.NoBreak = nothing_there wish
why_not wish why.NoWord = NoWord

-- whether a command is called
abbrev pub is_calling : KeyWish → Bool
is_calling (Call command) = true
is_calling CallLine = true
is_calling _ = false

-- a click is made as the hand makes it, after these events; this is what the press did by it
abbrev pub clicked_after : Option Deed → List Event → Option Event → Plan
clicked_after deed events None = Events [] None
clicked_after deed events (Some click) = Events events (Some (task.Call click deed))

-- so is the last event of those that call a command
abbrev pub call_plan : Option Deed → List Event → Plan
call_plan deed events =
    clicked_after deed (take (length events - 1) events) (slice_get events (length events - 1))

-- the events for what is wished of the caret
abbrev pub lead_plan : KeyWish → Result (List Event) WhyNot → Plan
lead_plan wish (Ok events) =
    if is_calling wish then call_plan (lead_deed wish) events else Events events None
lead_plan wish (Err reason) = Refused (why_not wish reason)

-- these events cut what is selected up to the caret, where anything is, and then this is left to do
abbrev pub over_plan : Task → Result (List Event) WhyNot → Plan
over_plan next (Ok events) = Events events (Some next)
over_plan next (Err why) = Events [] (Some next)

-- Where nothing is, the character behind the caret is deleted, or the one before it.
unfoldable pub erasing : Bool → Task
erasing true = Lead DeleteNext
erasing false = Post (event.Key key.Back)

abbrev pub erase_plan : Bool → Result (List Event) WhyNot → Plan
erase_plan behind (Ok events) = Events events None
erase_plan behind (Err why) = Events [] (Some (erasing behind))

-- where a viewer was to show a line by its number, the caret goes there
abbrev pub shown_then : Wish → Option Task
shown_then (wish.Line n) = Some Show
shown_then _ = None

-- the presses that scroll, where there is a way
abbrev pub scroll_plan : Wish → Option (List Event) → Plan
scroll_plan wish None = Refused NoScroll
scroll_plan wish (Some events) = Events events (shown_then wish)

-- where the viewer stands that has the caret, and the one that is meant: at a cell, or that one
unfoldable pub caret_place : Desktop → Option ViewerPlace
caret_place d =
    option_map (λ viewer. viewer.place) ((desk_info d).caret_viewer >>= shown_viewer d)

abbrev pub place_meant : Option (ℕ × ℕ) → Desktop → Option ViewerPlace
place_meant None d = caret_place d
place_meant (Some cell) d = place_at d cell

-- A page is as many lines as rows are in sight, less one, and at least one. Where none is it's that of the whole viewer.
unfoldable pub page_wish : Bool → ℕ → Wish
page_wish true n = if n == 0 then wish.PageUp else wish.Up (max (n - 1) 1)
page_wish false n = if n == 0 then wish.PageDown else wish.Down (max (n - 1) 1)

-- the first cell of a viewer's text that is in sight, and where none is its first cell
abbrev pub seen_start : Sight → ViewerPlace → Option (ℕ × ℕ)
seen_start sight place = if text_rows_in_sight sight (Some place) == 0 then text_start place
    else text_start (record place { top = min place.top (sight.top + 2) })

-- whether it is one viewer that stands here and there
abbrev pub is_one_viewer : ViewerPlace → ViewerPlace → Bool
is_one_viewer place other = (place.x == other.x) && (place.top == other.top)

-- where the caret goes with a page: in its own viewer to the first cell in sight, and in another one nowhere
abbrev pub goes_along : Sight → Option ViewerPlace → Option ViewerPlace → Option (ℕ × ℕ)
goes_along sight None caret = None
goes_along sight (Some place) None = None
goes_along sight (Some place) (Some caret) =
    if is_one_viewer place caret then seen_start sight caret else None

-- the presses of a page, where there is a way, and then the click that takes the caret along
abbrev pub paged_plan : Option (ℕ × ℕ) → Option (List Event) → Plan
paged_plan caret None = Refused NoScroll
paged_plan caret (Some events) =
    Events events (option_map (λ cell. Post (click_of cell)) caret)

unfoldable pub page_plan : Option (ℕ × ℕ) → Bool → Sight → Desktop → Plan
page_plan at is_up sight d = paged_plan (goes_along sight (place_meant at d) (caret_place d))
    (presses_to d at (page_wish is_up (text_rows_in_sight sight (place_meant at d))))

-- the caret goes to a cell, where there is one
abbrev pub go_plan : Option (ℕ × ℕ) → Plan
go_plan None = Events [] None
go_plan (Some cell) = Events (click_of cell ∷ []) None

-- the caret goes to the first cell of the text of a viewer that stands there
abbrev pub shown_plan : Option ViewerPlace → Plan
shown_plan None = Events [] None
shown_plan (Some place) = go_plan (text_start place)

-- What is left of what a press types: this event comes first, if any is left.
abbrev pub unbroken_plan : Option Event → TypingView → Bool → Deed → Plan
unbroken_plan None t fills deed = Events [] None
unbroken_plan (Some event) t fills deed =
    Events (event ∷ []) (Some (TypeOn (rest_typed t) fills deed))

-- before it the line is broken that has no room, and the caret goes back behind the same character
abbrev pub broken_plan : Result (List Event) WhyNot → ℕ → Option Event → TypingView → Bool → Deed
    → Plan
broken_plan (Ok events) place next t fills deed =
    Events events (Some (GoBack place t fills deed))
broken_plan (Err reason) place next t fills deed = unbroken_plan next t fills deed

abbrev pub type_plan : Option ℕ → Option Event → TypingView → Bool → Deed → Desktop → Plan
type_plan None next t fills deed d = unbroken_plan next t fills deed
type_plan (Some n) next t fills deed d =
    broken_plan (led d (Break n)) (place_behind d) next t fills deed

-- the caret goes to a position by what is wished of it, where it doesn't stand there, and then this is left to do
abbrev pub placed_plan : KeyWish → Result (List Event) WhyNot → Task → Plan
placed_plan wish (Ok events) next = Events events (Some next)
placed_plan wish (Err reason) next = Refused (why_not wish reason)

abbrev pub go_then : KeyWish → ℕ → Task → Desktop → Plan
go_then wish place next d = if is_place place (desk_info d).caret_position
    then Events [] (Some next) else placed_plan wish (led d wish) next

-- Of a paste that is typed where lines are filled its first word comes where it has room: the line is broken before it, and the
-- caret goes back behind the same character.
abbrev pub room_plan : Result (List Event) WhyNot → ℕ → List ℕ → ℕ → Plan
room_plan (Ok events) place bytes typed =
    Events events (Some (Pour (Back place) bytes typed))
room_plan (Err reason) place bytes typed = Events [] (Some (Pour On bytes typed))

-- as many bytes as one event types
abbrev pub typable : List ℕ → Option (List ℕ)
typable bytes = if is_typed_bytes bytes then Some bytes else None

-- these bytes are typed, and then this is left to do
abbrev pub front_plan : Option (List ℕ) → Option Task → Plan
front_plan None next = Events [] None
front_plan (Some bytes) next = Events (event.Typed bytes ∷ []) next

-- by one event, and by another one where these are too many
abbrev pub typed_plan : List ℕ → Plan
typed_plan bytes = front_plan (typable (take 900 bytes))
    (option_map (λ more. Post (event.Typed more)) (typable (drop 900 bytes)))

-- the first of them alone, and then what is left
abbrev pub first_plan : List ℕ → ℕ → Plan
first_plan bytes typed = front_plan (typable (take 1 bytes))
    (option_map (λ more. Pour First more (min (typed + 1) (2 ^ 32 - 1))) (typable (drop 1 bytes)))

-- the column that is clicked
abbrev pub column_clicked : List Event → Option ℕ
column_clicked (event.Point keys x y x1 y1 ∷ []) = Some x
column_clicked _ = None

abbrev pub from_column : Option ℕ → List ℕ → Plan
from_column None bytes = Events (event.Typed bytes ∷ []) None
from_column (Some x) bytes = typed_plan (poured_at x bytes)

-- The click for the caret's own place tells its column. Where its line isn't in sight the first character brings it there.
abbrev pub poured_plan : Result (List Event) WhyNot → List ℕ → ℕ → Plan
poured_plan (Ok events) bytes typed = from_column (column_clicked events) bytes
poured_plan (Err why.NotInSight) bytes typed = first_plan bytes typed
poured_plan (Err reason) bytes typed = Events (event.Typed bytes ∷ []) None

-- where the caret stands
abbrev pub standing : Desktop → ℕ
standing d = unwrap_or (desk_info d).caret_position 0

abbrev pub pour_plan : Stage → List ℕ → ℕ → Desktop → Plan
pour_plan First bytes typed d =
    room_plan (led d (Break (min (word_length bytes) 255))) (place_behind d) bytes typed
pour_plan (Back place) bytes typed d = go_then (Place place) place (Pour On bytes typed) d
pour_plan On bytes typed d = poured_plan (led d (Place (standing d))) bytes typed

-- ---- words are sought

-- before the caret by a look at its text, and behind it by the command: what the press before selected
abbrev pub selected_task : Bool → List ℕ → Task
selected_task before bytes =
    if before then Find (words_finding bytes true) else Lead (Call caret.Search)

abbrev pub selected_plan : Bool → List ℕ → Plan
selected_plan before bytes = Keeps (words_kept bytes) (selected_task before bytes)

-- where nothing is it is asked for the words
abbrev pub search_plan : Bool → Option (Text ℕ) → Plan
search_plan before None = Asks before
search_plan before (Some text) = selected_plan before (first_words (bytes_of text))

-- and where no viewer has the caret there is nothing to search
abbrev pub begin_plan : Bool → Option ℕ → Option (Text ℕ) → Plan
begin_plan before None selected = Refused NoCaret
begin_plan before (Some viewer) selected = search_plan before selected

-- the words that were searched last, where there are any
abbrev pub on_plan : List ℕ → Bool → Plan
on_plan pattern before = if is_typed_bytes pattern
    then Events [] (Some (Find (finding.Words pattern before))) else Refused NoWords

-- where they are in the text of the caret, which is led there
abbrev pub found_plan : Option Found → Plan
found_plan None = Refused NotThere
found_plan (Some found) = Events [] (Some (Find (finding.Reach found)))

abbrev pub words_plan : List ℕ → SearchStart → Option (Text ℕ) → Plan
words_plan words start None = Refused NoCaret
words_plan words start (Some text) = if start.rows == 0 then Refused NoScroll
    else found_plan (sought_from (bytes_of text) words start)

-- at once where their line is in sight, and else once it is
abbrev pub reach_plan : Found → Result (List Event) WhyNot → Plan
reach_plan found (Ok events) = Events events (Some (Find (finding.Tell found)))
reach_plan found (Err why.NotInSight) = Events [] (Some (Find (finding.Bring found)))
reach_plan found (Err reason) = Refused (why_not (Place found.place) reason)

abbrev pub bring_plan : Found → Option (List Event) → Plan
bring_plan found None = Refused NoScroll
bring_plan found (Some events) = Events events (Some (Find (finding.Arrive found)))

-- It is said where they were found round the end of the text, and where the caret can't stand behind them.
abbrev pub went_round : Bool → Plan
went_round around = if around then Tells WentRound else Events [] None

unfoldable pub told_plan : Found → Option ℕ → Plan
told_plan found caret =
    if is_place found.place caret then went_round found.around else Refused BeyondEdge

abbrev pub finding_plan : Finding → Desktop → Plan
finding_plan (finding.Search over before) d = begin_plan before (desk_info d).caret_viewer
    (if over then option_map (selected d) (newest d) else None)
finding_plan (finding.On before) d = on_plan d.pattern before
finding_plan (finding.Words words before) d = words_plan words
    (search_from (desk_info d).caret_position (caret_place d) before) (caret_text d)
finding_plan (finding.Reach found) d = reach_plan found (led d (Place found.place))
finding_plan (finding.Bring found) d = bring_plan found (presses_to d None (wish.Line found.top))
finding_plan (finding.Arrive found) d =
    placed_plan (Place found.place) (led d (Place found.place)) (Find (finding.Tell found))
finding_plan (finding.Tell found) d = told_plan found (desk_info d).caret_position

-- ---- a paragraph is filled

-- where a viewer has the caret
abbrev pub begin_refill : Option ℕ → Plan
begin_refill None = Refused NoCaret
begin_refill (Some home) = Events [] (Some (Refill (refilling.Next home true)))

-- by one edit after another, and then the caret goes back; where none is made it is said so
abbrev pub edit_plan : Option Edit → ℕ → Bool → Plan
edit_plan None home begins = if begins then Tells IsFilled
    else Events [] (Some (Lead (Reach home)))
edit_plan (Some edit) home begins =
    Events [] (Some (Refill (refilling.Go (moved edit home) (edit_place edit) (edit_stroke edit))))

abbrev pub seek_edit : Option (Text ℕ) → SearchStart → ℕ → Bool → Plan
seek_edit None start home begins = Refused NoCaret
seek_edit (Some text) start home begins = if start.rows == 0 then Refused NoScroll
    else edit_plan (fill_edit (bytes_of text) start.columns home) home begins

abbrev pub stroke_plan : Bool → ℕ → ℕ → Stroke → Plan
stroke_plan stands home at stroke = if stands
    then Events (stroke_event stroke ∷ []) (Some (Refill (after_stroke home at stroke)))
    else Refused PartHidden

abbrev pub refill_plan : Refilling → Desktop → Plan
refill_plan refilling.Begin d = begin_refill (desk_info d).caret_position
refill_plan (refilling.Next home begins) d =
    seek_edit (caret_text d) (search_from None (caret_place d) false) home begins
refill_plan (refilling.Go home at stroke) d =
    go_then (Reach at) at (Refill (refilling.Do home at stroke)) d
refill_plan (refilling.Do home at stroke) d =
    stroke_plan (is_place at (desk_info d).caret_position) home at stroke

-- the pointer that keys move goes to a cell, where there is one to go to
abbrev pub seek_plan : Option (ℕ × ℕ) → Plan
seek_plan None = Refused NoCommand
seek_plan (Some cell) = Aims cell

-- what is between two cells is selected
abbrev pub draw_of : ℕ × ℕ → ℕ × ℕ → Event
draw_of from to = event.Point keys.Right from.0 from.1 to.0 to.1

-- from the end that stays of what is selected, or where nothing is from where the click began
abbrev pub extend_plan : ℕ × ℕ → ℕ × ℕ → Option (ℕ × ℕ) → Plan
extend_plan start at kept = Events (draw_of (unwrap_or kept start) at ∷ []) None

-- A word in these columns of a cell's row is selected, and the caret goes before it. Where there is none the caret goes to
-- the cell.
abbrev pub word_plan : ℕ × ℕ → Option (ℕ × ℕ) → Plan
word_plan at None = Events (click_of at ∷ []) None
word_plan at (Some word) = Events (click_of (word.0, at.1) ∷ [])
    (Some (Post (draw_of (word.0, at.1) (word.1, at.1))))

-- ---- what is left to do once a word was called

-- whether an event is a click of the middle button
abbrev pub is_call : Event → Bool
is_call (event.Point keys x0 y0 x1 y1) = is_middle keys
is_call _ = false

-- an event, of a desktop that said this of itself before it, and on which the caret was seen at this cell
unfoldable pub posted_plan : Event → DeskInfo → Option (ℕ × ℕ) → Plan
posted_plan e before cell =
    Events (e ∷ []) (if is_call e then Some (After before cell) else None)

-- where the caret is seen as a click begins at a viewer
abbrev pub caret_seen : Desktop → Event → Option (ℕ × ℕ)
caret_seen d e = if begins_in_viewer d e then caret_cell (shown_screen d) else None

-- a click of that button on the empty display, by the list
abbrev pub empty_plan : Event → DeskInfo → List Entry → Plan
empty_plan e before entries = if list_any is_tool entries
    then Events (e ∷ []) (Some (After before None)) else Events (tool_event ∷ []) None

-- the viewer that was opened since then: a new one, or the one that was closed last
unfoldable pub opened_viewer : DeskInfo → Desktop → Option ShownViewer
opened_viewer before d =
    or_else (shown_viewer d before.next_viewer) (before.closed_viewer >>= shown_viewer d)

-- The caret goes to a cell, and before it the marker goes away, if it is set.
abbrev pub entry_plan : Bool → ℕ × ℕ → Plan
entry_plan marked cell = if marked
    then Events (event.Key key.Escape ∷ []) (Some (Post (click_of cell)))
    else Events (click_of cell ∷ []) None

-- it goes to the first cell of a text, where there is one, but into that of the log it doesn't: that comes into sight
abbrev pub enter_plan : Bool → Option (ℕ × ℕ) → Plan
enter_plan is_log None = Events [] None
enter_plan is_log (Some cell) = PutsAway (if is_log then Reveal cell else Enter cell)

-- and nothing is pointed at any more then
abbrev pub opened_plan : ShownViewer → Plan
opened_plan viewer = enter_plan viewer.is_log (text_start viewer.place)

-- whether no viewer has the caret any more, though the one is shown that had it
abbrev pub has_lost_caret : DeskInfo → Desktop → Bool
has_lost_caret before d = is_some (before.caret_viewer >>= shown_viewer d)
    && is_none (desk_info d).caret_viewer

-- the caret comes back then to the cell at which it was seen, if it was
abbrev pub comeback_plan : DeskInfo → Option (ℕ × ℕ) → Desktop → Plan
comeback_plan before cell d = if has_lost_caret before d then go_plan cell else Events [] None

-- The caret goes into the viewer that was opened. Where none was, the line below says what was added to the log, if
-- anything was, or the caret comes back.
abbrev pub answer_plan : Option ShownViewer → DeskInfo → Option (ℕ × ℕ) → Desktop → Plan
answer_plan (Some viewer) before cell d = opened_plan viewer
answer_plan None before cell d = if nat_lt before.log_length (desk_info d).log_length
    then Says (last_log_line d) else comeback_plan before cell d

-- ---- by the screen, and by the desktop

-- what a task becomes by what the screen shows
unfoldable pub plan_on : Task → List (List Cell) → Plan
plan_on (Seek at) screen = seek_plan (next_command at screen)
plan_on (Reveal cell) screen = Shows cell
plan_on (Word at) screen = word_plan at (picked_word screen at)
plan_on _ screen = Events [] None

unfoldable pub plan_of : Task → Desktop → Plan
plan_of (Post event) d = posted_plan (event_meant d event) (desk_info d) (caret_seen d event)
plan_of (task.Call event deed) d =
    posted_plan (event_meant d event) (desk_info d) (caret_seen d event)
plan_of (After before cell) d = answer_plan (opened_viewer before d) before cell d
plan_of (Enter cell) d = entry_plan (desk_info d).is_marked cell
plan_of (Scroll at wish) d = scroll_plan wish (presses_to d at wish)
plan_of (Page at is_up sight) d = page_plan at is_up sight d
plan_of Show d = shown_plan (caret_place d)
plan_of (Lead wish) d = lead_plan wish (led d wish)
plan_of (TypeOver event fills) d = over_plan (posting fills event) (led d CutSelected)
plan_of (Erase behind) d = erase_plan behind (led d CutSelected)
plan_of (TypeOn t fills deed) d =
    type_plan (room_if fills (first_typed t)) (first_typed t) t fills deed d
plan_of (GoBack place t fills deed) d = go_then (Place place) place (TypeOn t fills deed) d
plan_of (Pour stage bytes typed) d = pour_plan stage bytes typed d
plan_of (Find f) d = finding_plan f d
plan_of (Refill refilling) d = refill_plan refilling d
plan_of (Extend start at) d =
    extend_plan start at (kept_end (place_at d start) start at (shown_screen d))
plan_of task d = plan_on task (shown_screen d)

module _ {D : Type 0} (d : Ghosts D) where
  -- All that a call promises that is to make a plan, as one of the desktop: it only looks at the store.
  pub record Makes (of : Desktop → Plan) (result : Result MadePlan Error) (old new : StoreView D)
      : Type 0 where
    pub exact : IfOk result (λ plan. d.honest old.disk → seen_plan plan ≡ of old.desktop)
    pub looks : OnlyLooks d result old new

  -- the plan of a task
  abbrev pub Plans : Task → Result MadePlan Error → StoreView D → StoreView D → Type 0
  Plans task result old new = Makes (plan_of task) result old new
