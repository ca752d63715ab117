-- Presses that post events: the task of each.
use Rattle.std.specs.Prelude.{ℕ, ◌-◌, ◌==◌, Bool, true, false, ◌&&◌, nat_lt, if◌then◌else◌, List, length}
use Rattle.std.specs.Prelude.{Option, Some, None, option_map}
use Rattle.event_bytes.specs.declared.event.Event.{Event}
use Rattle.event_bytes.specs.declared.event.Event.TheVariants as event
use Rattle.event_bytes.specs.declared.keys.Keys.TheVariants as keys
use Rattle.event_bytes.specs.declared.keys.Key.TheVariants as key
use Rattle.caret_moves.specs.declared.wish.Step.{Step as AStep}
use Rattle.caret_moves.specs.declared.wish.Step.TheVariants as step
use Rattle.caret_moves.specs.declared.wish.CaretCommand.TheVariants as caret
use Rattle.caret_moves.specs.declared.wish.KeyWish.{KeyWish}
use Rattle.caret_moves.specs.declared.wish.KeyWish.TheVariants.{Step, DeleteNext, Call, CallLine, Mark, Break, Place, Reach}
use Rattle.caret_moves.specs.declared.wish.KeyWish.TheVariants.{Select, SelectOn, SelectAll, CutSelected, CutLine}
use Rattle.desk_journal.specs.Scrolling as wish
use Rattle.terminal_presses.specs.Sights.{Sight}
use Rattle.terminal_presses.specs.declared.action.Action.{Action}
use Rattle.terminal_presses.specs.declared.action.Action.TheVariants as action
use Rattle.terminal_presses.specs.declared.press.Arrow.{Arrow}
use Rattle.terminal_presses.specs.declared.press.Arrow.TheVariants as arrow
use Rattle.terminal_presses.specs.declared.press.Scroll.{Scroll as ScrollKey}
use Rattle.terminal_presses.specs.declared.press.Scroll.TheVariants.{WheelUp, WheelDown, PageUp, PageDown, First as ToFirst, Last as ToLast}
use Rattle.terminal_presses.specs.declared.spot.Spot.{Spot}
use Rattle.status_line.specs.declared.deed.Deed.{Deed}
use Rattle.status_line.specs.declared.deed.Deed.TheVariants as deed
use Rattle.status_line.specs.Deeds.{deed_of, erasing_deed}
use Rattle.earlier_presses.specs.Replacing.{TypingView, typed_behind, nothing_typed}
use Rattle.press_tasks.specs.declared.task.Filling.{Filling}
use Rattle.press_tasks.specs.declared.task.Filling.TheVariants.{Off, Letters, Pasted}
use Rattle.press_tasks.specs.declared.task.Stage.{Stage}
use Rattle.press_tasks.specs.declared.task.Stage.TheVariants.{First, On}
use Rattle.press_tasks.specs.declared.task.Task.{Task}
use Rattle.press_tasks.specs.declared.task.Task.TheVariants as task
use Rattle.press_tasks.specs.declared.task.Task.TheVariants.{Post, Scroll, Lead}
use Rattle.press_tasks.specs.declared.task.Task.TheVariants.{TypeOn, GoBack, After, Seek}
use Rattle.press_tasks.specs.declared.task.Task.TheVariants.{TypeOver, Erase, Pour, Word, Extend, Find, Refill}
use Rattle.press_tasks.specs.declared.refill.Refilling.TheVariants.{Begin}
use Rattle.press_tasks.specs.declared.finding.Finding.TheVariants as finding
use Rattle.press_tasks.specs.Finding.{words_finding}
use Rattle.press_tasks.specs.declared.task.Task.TheVariants.{Page, Show, Reveal, Enter}

-- whether lines are broken
abbrev pub fills_lines : Filling → Bool
fills_lines Off = false
fills_lines _ = true

-- and by a replacement: one that types nothing breaks none
abbrev pub breaks_lines : Filling → TypingView → Bool
breaks_lines fills t = fills_lines fills && nat_lt 0 (length t.bytes)

-- the wheel moves a text by three lines, and a page is as long as what is in sight of it; to an end of it goes the caret
abbrev pub scroll_task : Option (ℕ × ℕ) → ScrollKey → Sight → Task
scroll_task at WheelUp sight = Scroll at (wish.Up 3)
scroll_task at WheelDown sight = Scroll at (wish.Down 3)
scroll_task at PageUp sight = Page at true sight
scroll_task at PageDown sight = Page at false sight
scroll_task at ToFirst sight = Lead (Step step.TextStart)
scroll_task at ToLast sight = Lead (Step step.TextEnd)

-- the step of an arrow
unfoldable pub step_meant : Arrow → AStep
step_meant arrow.Up = step.Up
step_meant arrow.Down = step.Down
step_meant arrow.Right = step.Right
step_meant arrow.Left = step.Left
step_meant arrow.Home = step.LineStart
step_meant arrow.End = step.LineEnd
step_meant arrow.WordRight = step.WordRight
step_meant arrow.WordLeft = step.WordLeft

abbrev pub cell_meant : Option Spot → Option (ℕ × ℕ)
cell_meant at = option_map (λ spot. (spot.x, spot.y)) at

-- an event of the hand: what is typed or pasted may break a line, where lines are filled
abbrev pub typed_task : Option TypingView → List ℕ → Task
typed_task None bytes = Post (event.Typed bytes)
typed_task (Some t) bytes = TypeOn t true (deed_of (event.Typed bytes))

abbrev pub letter_task : List ℕ → Task
letter_task bytes = if length bytes == 1
    then typed_task (typed_behind bytes nothing_typed) bytes else Post (event.Typed bytes)

abbrev pub bytes_task : Filling → List ℕ → Task
bytes_task Off bytes = Post (event.Typed bytes)
bytes_task Letters bytes = letter_task bytes
bytes_task (Pasted typed) bytes = Pour First bytes typed

abbrev pub posting : Filling → Event → Task
posting fills (event.Typed bytes) = bytes_task fills bytes
posting fills event = Post event

-- the same; what is typed, and Backspace, act on what is selected up to the caret
abbrev pub posting_over : Filling → Event → Task
posting_over fills (event.Typed bytes) = TypeOver (event.Typed bytes) fills
posting_over fills (event.Key key.Back) = Erase false
posting_over fills event = Post event

-- behind a press that selected something, and elsewhere
abbrev pub posted : Bool → Filling → Event → Task
posted over fills event = if over then posting_over fills event else posting fills event

abbrev pub deleting : Bool → Task
deleting over = if over then Erase true else Lead DeleteNext

abbrev pub selecting : Bool → AStep → KeyWish
selecting over step = if over then SelectOn step else Select step

abbrev pub searching : Bool → Bool → Task
searching over before = Find (finding.Search over before)

-- Of what posts no event there is none, but of the pointer's way to the next command. Before it what is typed may break lines
-- or not, the press before it selected something or didn't, this replacement is to be typed, if any is, and this part of the
-- display is in sight.
unfoldable pub task_of : Filling → Bool → Option TypingView → Sight → Action → Option Task
task_of fills over replacement sight (action.Post event) = Some (posted over fills event)
task_of fills over replacement sight (action.Scroll at scroll) =
    Some (scroll_task (cell_meant at) scroll sight)
task_of fills over replacement sight (action.GoTo line) = Some (Scroll None (wish.Line (line - 1)))
task_of fills over replacement sight (action.Seek at) = Some (Seek (at.x, at.y))
task_of fills over replacement sight (action.Step arrow) = Some (Lead (Step (step_meant arrow)))
task_of fills over replacement sight (action.Select arrow) =
    Some (Lead (selecting over (step_meant arrow)))
task_of fills over replacement sight action.SelectAll = Some (Lead SelectAll)
task_of fills over replacement sight (action.Extend start at) =
    Some (Extend (start.x, start.y) (at.x, at.y))
task_of fills over replacement sight action.CutLine = Some (Lead CutLine)
task_of fills over replacement sight action.Refill = Some (Refill Begin)
task_of fills over replacement sight action.Delete = Some (deleting over)
task_of fills over replacement sight action.Search = Some (searching over false)
task_of fills over replacement sight action.SearchBefore = Some (searching over true)
task_of fills over replacement sight (action.Find words before) =
    Some (Find (words_finding words before))
task_of fills over replacement sight action.Store = Some (Lead (Call caret.Store))
task_of fills over replacement sight action.CallLine = Some (Lead CallLine)
task_of fills over replacement sight action.Mark = Some (Lead Mark)
task_of fills over replacement sight action.Replace =
    option_map (λ t. TypeOn t (breaks_lines fills t) deed.Replacement) replacement
task_of fills over replacement sight _ = None

-- what is wished of the caret by a press that calls a command
unfoldable pub calling_wish : Action → Option KeyWish
calling_wish action.Search = Some (Call caret.Search)
calling_wish action.Store = Some (Call caret.Store)
calling_wish action.CallLine = Some CallLine
calling_wish _ = None

-- what a press did by what is wished of the caret, and else what its first event did
unfoldable pub lead_deed : KeyWish → Option Deed
lead_deed (Step step) = Some (deed.Click keys.Left)
lead_deed DeleteNext = Some deed.Delete
lead_deed (Call caret.Store) = Some deed.Store
lead_deed (Call caret.Search) = Some deed.Search
lead_deed CallLine = None
lead_deed Mark = None
lead_deed (Select step) = Some (deed.Click keys.Right)
lead_deed (SelectOn step) = Some (deed.Click keys.Right)
lead_deed SelectAll = Some (deed.Click keys.Right)
lead_deed CutSelected = Some (deed.Click keys.RightLeft)
lead_deed CutLine = Some (deed.Click keys.RightLeft)
lead_deed (Break n) = None
lead_deed (Place n) = None
lead_deed (Reach n) = None

-- what is typed of a paste comes to what was typed before, and breaks before it don't count
abbrev pub pour_deed : Stage → ℕ → Option Deed
pour_deed On typed = None
pour_deed stage typed = Some (deed.Typed typed)

-- what a press did by a task; of what the hand posts, what the event did
abbrev pub deed_of_task : Task → Option Deed
deed_of_task (Post event) = None
deed_of_task (task.Call event deed) = deed
deed_of_task (TypeOn t fills deed) = Some deed
deed_of_task (GoBack place t fills deed) = Some deed
deed_of_task (TypeOver event fills) = Some (deed.Typed 0)
deed_of_task (Pour stage bytes typed) = pour_deed stage typed
deed_of_task (Erase behind) = Some (erasing_deed behind)
deed_of_task (Scroll at wish) = Some deed.Scroll
deed_of_task (Page at is_up sight) = Some deed.Scroll
deed_of_task Show = None
deed_of_task (Reveal cell) = None
deed_of_task (Enter cell) = None
deed_of_task (After before cell) = None
deed_of_task (Word cell) = Some (deed.Click keys.Right)
deed_of_task (Extend start at) = Some (deed.Click keys.Right)
deed_of_task (Find f) = Some (deed.Click keys.Left)
deed_of_task (Refill refilling) = Some deed.Paragraph
deed_of_task (Seek at) = None
deed_of_task (Lead wish) = lead_deed wish

-- whether the rows in sight don't follow the caret for it
abbrev pub keeps_sight : Task → Bool
keeps_sight (Scroll at wish) = true
keeps_sight (Page at is_up sight) = true
keeps_sight _ = false
