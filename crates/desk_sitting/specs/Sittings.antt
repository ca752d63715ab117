-- What presses come to, one after another: a sitting, and the session of the store before which it is.
use Rattle.std.specs.Prelude.{◌≡◌, ℕ, zero, suc, ◌-◌, Bool, true, false, ◌==◌, ◌&&◌, ◌||◌, not}
use Rattle.std.specs.Prelude.{if◌then◌else◌, List, []}
use Rattle.std.specs.Prelude.{◌∷◌, ◌++◌}
use Rattle.std.specs.Prelude.{Option, Some, None, All, IfSome, fold, is_some, min, option_map, unwrap_or}
use Rattle.std.specs.Prelude.{Result, Ok, Err, ⊤, ◌+◌, ◌^◌}
use Rattle.event_bytes.specs.declared.event.Event.{Event}
use Rattle.host_files.specs.declared.HostFault.{HostFault}
use Rattle.screen_pictures.specs.declared.cell.Cell.{Cell}
use Rattle.desktop_definitions.specs.Shown.{shown_screen}
use Rattle.desktop_definitions.specs.declared.reply.Reply.{Reply}
use Rattle.desktop_definitions.specs.declared.reply.Reply.TheVariants.{Done, No}
use Rattle.desktop_definitions.specs.Limits.{not_found}
use Rattle.desktop_definitions.specs.Step.{step}
use Rattle.terminal_presses.specs.declared.press.Press.{Press}
use Rattle.terminal_presses.specs.declared.press.Press.TheVariants.{Character}
use Rattle.terminal_presses.specs.declared.asks.Asks.{Asks as AskedFor}
use Rattle.terminal_presses.specs.declared.asks.Asks.TheVariants as asked_for
use Rattle.terminal_keyboard.specs.declared.completion.Completion.{Completion}
use Rattle.terminal_presses.specs.declared.action.Action.{Action}
use Rattle.terminal_presses.specs.declared.action.Action.TheVariants as action
use Rattle.terminal_presses.specs.declared.hand.Hand.{Hand}
use Rattle.terminal_presses.specs.Pointers.{pointer_cell}
use Rattle.terminal_presses.specs.Hands.{hand_asking, dropping, handled, new_hand, pastes_text, with_pointer, without_pointer}
use Rattle.terminal_presses.specs.Hands.{words_asked}
use Rattle.terminal_presses.specs.Pastes.{becomes_mark}
use Rattle.viewer_tracks.specs.declared.display.TheConstants.{COLUMNS, ROWS}
use Rattle.viewer_tracks.specs.declared.display.Track.TheVariants.{System}
use Rattle.terminal_presses.specs.Sights.{Sight}
use Rattle.status_line.specs.declared.clicks.MiddleClick.{MiddleClick}
use Rattle.status_line.specs.Clicks.{middle_click}
use Rattle.status_line.specs.declared.question.Question.{Question}
use Rattle.status_line.specs.declared.saying.Saying.{Saying}
use Rattle.status_line.specs.declared.saying.Saying.TheVariants.{NoKey, Worn, Unread, Marked, Unfinished, Logged, NoSearch}
use Rattle.status_line.specs.declared.saying.Saying.TheVariants.{NothingTyped}
use Rattle.desk_sitting.specs.declared.sitting.Sitting.{Sitting}
pub use Rattle.desk_sitting.specs.Desk.{Seat}
use Rattle.desk_sitting.specs.declared.sitting.Travel.TheVariants.{Back, Again}
use Rattle.done_presses.specs.Again.{no_again}
use Rattle.status_line.specs.declared.deed.Deed.{Deed}
use Rattle.status_line.specs.Deeds.{typed_more}
use Rattle.earlier_presses.specs.Replacing.{TypingView, ReplacingView, is_replaced, is_untouched, left_place, no_replacing, noted}
use Rattle.earlier_presses.specs.Replacing.{replacement}
use Rattle.done_presses.specs.Past.{PastView, past_after, named, no_past, selects, with_refused}
use Rattle.desk_sitting.specs.Clips.{is_copying}
use Rattle.desk_sitting.specs.Held.{held_meant}
use Rattle.earlier_presses.specs.Twice.{action_meant, cell_again, cell_clicked, cell_kept, is_no_deed, is_nothing}
use Rattle.earlier_presses.specs.Twice.{is_of_terminal, words_remembered}
use Rattle.desk_sitting.specs.Questions.{click_made, question_of, questioned, session_place, unasked}
use Rattle.status_line.specs.Question.{asks_to_leave, comes_first}
use Rattle.status_line.specs.Choosing.{came_to, done_saying, first_saying, fitted_saying, fill_saying, refused_saying}
use Rattle.status_line.specs.Sayings.{resting_of}
use Rattle.screen_reading.specs.Aims.{caret_cell, or_else}
use Rattle.press_tasks.specs.declared.task.Filling.{Filling}
use Rattle.press_tasks.specs.declared.task.Filling.TheVariants.{Off, Letters, Pasted}
use Rattle.press_tasks.specs.declared.task.Task.{Task}
use Rattle.press_tasks.specs.declared.task.Task.TheVariants.{Word}
use Rattle.press_tasks.specs.declared.task.TheConstants.{MOST_PLANS}
use Rattle.press_tasks.specs.Tasks.{calling_wish, deed_of_task, keeps_sight, task_of}
use Rattle.press_plans.specs.Plans.{Plan, plan_of}
use Rattle.press_plans.specs.Plans.{Aims, Asks, Events, Keeps, PutsAway, Refused as NotDone, Says, Shows, Tells}
use Rattle.desk_journal.specs.Session.{Session, is_worn, taken}
use Rattle.screen_reading.specs.Windows.{fitted, following_sight, height_told, is_low, is_narrow, moved_sight}
use Rattle.screen_reading.specs.Windows.{width_told}

-- ---- a sitting alone

-- what a terminal shows first: where it has fewer columns than the display, the side of the tool text
abbrev pub first_sight : ℕ → ℕ → Sight
first_sight height width =
    fitted height width (record { top = ROWS - 1; rows = ROWS; width = COLUMNS; side = System })

-- in which nothing was pressed, at a terminal of so many rows and columns; it asks before something is lost, or not
abbrev pub new_sitting : ℕ → ℕ → Saying → Bool → Sitting
new_sitting height width greeting questions = record {
  hand = new_hand;
  sight = first_sight height width;
  saying = first_saying width greeting;
  resting = resting_of greeting;
  questions = questions;
  question = None;
  rings = false;
  follows = true;
  forgets = false;
  leaves = false;
  wanted = None;
  asks = false;
  typed = None;
  marks = 0;
  travels = None;
  again = no_again;
  kept = false;
  past = no_past;
  joins = false;
  fills = true;
  logged = record { items = [] };
  replacing = no_replacing;
  copies = false;
  holds = false;
  clicked = None;
  missed = false;
  sought = [];
  completes = false;
  names = 0;
  changed = true;
}

-- the terminal rings, and the line below says why
abbrev pub refused : Saying → Sitting → Sitting
refused saying s = record s { saying = saying; rings = true }

-- An event is turned away, and the line below says why. Amid a paste, of which so many characters are typed, the rest of
-- it is dropped, and the line says how far it came.
unfoldable pub turned_by : Option ℕ → Saying → Sitting → Sitting
turned_by None saying s = refused saying s
turned_by (Some n) saying s = refused (came_to n saying) (record s { hand = dropping s.hand })

-- what was typed after a search isn't known any more
abbrev pub unplaced : Sitting → Sitting
unplaced s = record s { replacing = left_place s.replacing }

abbrev pub turned_away : Saying → Sitting → Sitting
turned_away saying s = turned_by s.typed saying (unplaced s)

-- what is said where so many characters became question marks, or where none did
abbrev pub marked_saying : ℕ → Saying → Saying
marked_saying marks resting = if marks == 0 then resting else Marked marks

-- whether an event was a search that found nothing from the caret on
abbrev pub is_missed : Reply → Bool
is_missed (No code) = code == not_found
is_missed _ = false

-- after the reply to an event: what was done is followed by the rows in sight, and can be taken back
unfoldable pub replied : Event → Reply → Sitting → Sitting
replied event Done s = record s {
  saying = done_saying event (marked_saying s.marks s.resting);
  follows = true;
  typed = option_map (typed_more event) s.typed;
  past = past_after s.joins (is_some s.typed) event s.past;
  joins = true;
  copies = s.copies || is_copying event;
  holds = s.holds && not (is_copying event);
}
replied event (No code) s =
    turned_away (refused_saying event code) (record s {
      past = with_refused s.past;
      missed = is_missed (No code);
    })

-- what the rows in sight follow: the pointer that keys move, where it is shown, and else the caret
abbrev pub followed_cell : List (List Cell) → Hand → Option (ℕ × ℕ)
followed_cell screen hand = or_else (pointer_cell hand.pointer) (caret_cell screen)

-- after the screen was shown: the rows in sight have followed, and what was to be done at once is done
unfoldable pub looked : List (List Cell) → Sitting → Sitting
looked screen s = record s {
  sight = if s.follows then following_sight (followed_cell screen s.hand) s.sight else s.sight;
  follows = false;
  rings = false;
  forgets = false;
  asks = false;
  copies = false;
  changed = false;
}

-- whether a scene is due: what is seen may have changed since the last one, or it is to be followed, or there is
-- something to be done with a scene
abbrev pub is_scene_due : Sitting → Bool
is_scene_due s = s.changed || s.follows || s.rings || s.forgets || s.asks || s.copies

-- after the keyboard was asked for the text of a host file, where one is wanted: it will be heard, or the line below says
-- why it won't be
abbrev pub fetched : Result ⊤ HostFault → Sitting → Sitting
fetched (Ok done) s = record s { wanted = None; saying = s.resting; changed = true }
fetched (Err why) s = refused (Unread why) (record s { wanted = None })

unfoldable pub after_fetch : Result ⊤ HostFault → Sitting → Sitting
after_fetch answer s = if is_some s.wanted then fetched answer s else s

-- bytes are typed, one after another, where a name is asked for
abbrev pub hand_typed : Sight → Hand → List ℕ → Hand
hand_typed sight hand bytes = fold (λ h b. (handled sight (Character b) h).0) hand bytes

-- After the keyboard was asked how the name goes on that is asked for: that is typed, as far as there is room, and told how
-- many names begin so. Where none does the terminal rings.
abbrev pub completed : Completion → Sitting → Sitting
completed told s = record s {
  hand = hand_typed s.sight s.hand told.rest;
  completes = false;
  names = told.count;
  rings = s.rings || (told.count == 0);
  changed = true;
}

unfoldable pub after_completion : Completion → Sitting → Sitting
after_completion told s = if s.completes then completed told s else s

-- ---- a press

unfoldable pub after_post : Event → Seat → Seat
after_post event seat = record {
  sitting = if is_worn seat.session then turned_away Worn seat.sitting
      else replied event (step seat.session.desktop event).reply seat.sitting;
  session = taken seat.session event;
}

-- whether an event is done
abbrev pub is_done : Reply → Bool
is_done Done = true
is_done (No code) = false

abbrev pub does : Session → Event → Bool
does session event = not (is_worn session) && is_done (step session.desktop event).reply

-- Events are posted, one after another, each if the one before it was done.
abbrev pub after_posts : List Event → Seat → Seat
after_posts [] seat = seat
after_posts (event ∷ events) seat =
    if does seat.session event then after_posts events (after_post event seat)
    else after_post event seat

-- whether all of them are done
abbrev pub does_all : Session → List Event → Bool
does_all session [] = true
does_all session (event ∷ events) = does session event && does_all (taken session event) events

-- ---- a task

-- what was done is named so, unless its first event names it
abbrev pub named_if : Option Deed → PastView → PastView
named_if None past = past
named_if (Some deed) past = named deed past

-- The events of a task are posted, before which the rows in sight were to follow the caret or not.
abbrev pub went_on : Option Deed → Option Bool → Sitting → Sitting
went_on deed follows s = record s {
  follows = unwrap_or follows s.follows;
  past = if s.joins then named_if deed s.past else s.past;
}

abbrev pub kept_follows : Task → Sitting → Option Bool
kept_follows task s = if keeps_sight task then Some s.follows else None

-- the line below says a line of the log
abbrev pub with_log_line : List ℕ → Sitting → Sitting
with_log_line line s = record s { saying = Logged; logged = record { items = line } }

-- the pointer that keys move is shown at a cell, and the rows in sight follow it
abbrev pub aimed_at : ℕ × ℕ → Sitting → Sitting
aimed_at cell s = record s { hand = with_pointer cell s.hand; follows = true }

-- the rows in sight go to a cell, and don't follow the caret
abbrev pub brought_in_sight : ℕ × ℕ → Sitting → Sitting
brought_in_sight cell s = record s {
  sight = following_sight (Some (cell.0, min cell.1 (ROWS - 1))) s.sight;
  follows = false;
}

-- It is asked for words that are sought. What was typed after a search isn't known any more.
abbrev pub asked_words : Bool → Sitting → Sitting
asked_words before s =
    record (unplaced s) { hand = hand_asking (words_asked before) s.hand }

-- nothing is pointed at any more, by keys or by the mouse
abbrev pub pointed_no_more : Sitting → Sitting
pointed_no_more s = record s { hand = without_pointer s.hand }

-- what is done by a plan: the terminal rings for the reason, events are posted, a line of the log or something else is said,
-- the pointer or the rows in sight go to a cell, it is asked for words, or some are kept, or nothing is pointed at any more
abbrev pub after_planned : Plan → Seat → Seat
after_planned (NotDone why) seat =
    record seat { sitting = refused why (unplaced seat.sitting) }
after_planned (Events events next) seat = after_posts events seat
after_planned (Says line) seat = record seat { sitting = with_log_line line seat.sitting }
after_planned (Aims cell) seat = record seat { sitting = aimed_at cell seat.sitting }
after_planned (Shows cell) seat = record seat { sitting = brought_in_sight cell seat.sitting }
after_planned (Tells saying) seat =
    record seat { sitting = record seat.sitting { saying = saying } }
after_planned (Asks before) seat = record seat { sitting = asked_words before seat.sitting }
after_planned (Keeps words next) seat =
    record seat { sitting = record seat.sitting { sought = words } }
after_planned (PutsAway next) seat = record seat { sitting = pointed_no_more seat.sitting }

-- and by a task of which that is the plan
abbrev pub after_plan : Task → Plan → Seat → Seat
after_plan task plan seat =
    let after : Seat = after_planned plan seat in
    record after {
      sitting =
          went_on (deed_of_task task) (kept_follows task seat.sitting) after.sitting;
    }

-- what is left to do then: nothing, where an event wasn't done
abbrev pub left_by : Plan → Session → Option Task
left_by (NotDone why) session = None
left_by (Events events next) session = if does_all session events then next else None
left_by (Says line) session = None
left_by (Aims cell) session = None
left_by (Shows cell) session = None
left_by (Tells saying) session = None
left_by (Asks before) session = None
left_by (Keeps words next) session = Some next
left_by (PutsAway next) session = Some next

-- what is left of a task goes one plan further
abbrev pub task_left : Option Task → Session → Option Task
task_left None session = None
task_left (Some task) session = left_by (plan_of task session.desktop) session

abbrev pub after_stage : Option Task → Seat → Seat
after_stage None seat = seat
after_stage (Some task) seat = after_plan task (plan_of task seat.session.desktop) seat

-- and by so many plans at most
abbrev pub after_task : ℕ → Option Task → Seat → Seat
after_task zero left seat = seat
after_task (suc n) left seat =
    after_task n (task_left left seat.session) (after_stage left seat)

-- how many plans a press has at most
unfoldable pub most_plans : ℕ
most_plans = MOST_PLANS

-- why the terminal rings: where a name is asked for, that stands on the line below
abbrev pub ring_reason : Sitting → Saying
ring_reason s = if is_some s.hand.asked then s.resting else NoKey

-- why there is nothing to be typed in the place of what was found
abbrev pub why_unreplaced : ReplacingView → Saying
why_unreplaced r = if is_untouched r.typed then NothingTyped else NoSearch

-- ---- a size of the window that is told

abbrev pub told_sight : ℕ → ℕ → Sight → Sight
told_sight rows columns sight =
    fitted (height_told rows columns) (width_told rows columns) sight

abbrev pub is_other_size : Sight → Sight → Bool
is_other_size old new = not ((old.rows == new.rows) && (old.width == new.width))

-- where it is another size the rows in sight follow the caret
abbrev pub fitted_in : ℕ → ℕ → Sitting → Sitting
fitted_in rows columns s = record s {
  sight = told_sight rows columns s.sight;
  saying = fitted_saying (is_narrow rows columns) (is_low rows columns) s.resting s.saying;
  follows = s.follows || is_other_size s.sight (told_sight rows columns s.sight);
  forgets = true;
}

-- ---- a press that posts nothing

unfoldable pub acted_alone : Action → Sitting → Sitting
acted_alone action.Ring s = if s.completes then s else refused (ring_reason s) s
acted_alone action.LookAnew s = record s { forgets = true; asks = true }
acted_alone action.Leave s = record s { leaves = true }
acted_alone action.Undo s = record s { travels = Some Back }
acted_alone action.Redo s = record s { travels = Some Again }
acted_alone (action.TypeFile name) s = record s { wanted = Some name }
acted_alone (action.Move page) s = record s { sight = moved_sight page s.sight; follows = false }
acted_alone (action.Fit rows columns) s = fitted_in rows columns s
acted_alone action.Fill s = record s { fills = not s.fills; saying = fill_saying (not s.fills) }
acted_alone action.FileFailed s = refused Unfinished s
acted_alone action.Replace s = refused (why_unreplaced s.replacing) s
acted_alone _ s = s

-- what a press comes to: a task, or what is done alone
abbrev pub done_so : Option Task → Action → Seat → Seat
done_so None a seat = record seat { sitting = acted_alone a seat.sitting }
done_so (Some task) a seat = after_task most_plans (Some task) seat

-- how what is typed breaks a line: a letter, or a paste of which so many characters are typed
abbrev pub filled_by : Option ℕ → Filling
filled_by None = Letters
filled_by (Some typed) = Pasted typed

abbrev pub filling : Sitting → Filling
filling s = if s.fills then filled_by s.typed else Off

-- the task of a press in a sitting: a second click at a cell selects the word there
abbrev pub task_or_word : Option (ℕ × ℕ) → Filling → Bool → Option TypingView → Sight → Action
    → Option Task
task_or_word (Some cell) fills over replacement sight a = Some (Word cell)
task_or_word None fills over replacement sight a = task_of fills over replacement sight a

abbrev pub task_in : Sitting → Action → Option Task
task_in s a = task_or_word (cell_again (cell_clicked a) s.clicked) (filling s)
    (selects s.past) (replacement s.replacing) s.sight a

-- the words that a press seeks are those that were sought last
abbrev pub with_words : Action → Sitting → Sitting
with_words a s = record s { sought = words_remembered a s.sought }

-- what is typed where the pattern was found is kept, and where something was clicked
abbrev pub noted_in : Action → Sitting → Sitting
noted_in a s = record (with_words a s) {
  replacing = noted a s.replacing;
  clicked = cell_kept a s.clicked;
}

abbrev pub noted_at : Action → Seat → Seat
noted_at a seat = record seat { sitting = noted_in a seat.sitting }

unfoldable pub done_by : Action → Seat → Seat
done_by a seat = done_so (task_in seat.sitting a) a (noted_at a seat)

-- what is asked about a press here
abbrev pub question_at : Action → Seat → Option Question
question_at a seat = question_of a seat.sitting (session_place seat.session) seat.session.desktop

-- whether a question is asked, and no more is done
abbrev pub asks_first : Action → Seat → Bool
asks_first a seat = comes_first seat.sitting.question (question_at a seat)

-- the question is asked
abbrev pub with_question : Action → Seat → Seat
with_question a seat = record seat { sitting = questioned (question_at a seat) seat.sitting }

-- What would lose something is asked about first. What does anything else forgets the question.
unfoldable pub acted : Action → Seat → Seat
acted a seat =
    if asks_first a seat then with_question a seat
    else done_by a (record seat { sitting = unasked a seat.sitting })

-- whether nothing of a hand is seen: no name that is typed, no next click, and no pointer
abbrev pub is_unseen : Hand → Bool
is_unseen hand =
    not (is_some hand.asked || is_some hand.armed || is_some (pointer_cell hand.pointer))

-- Whether all that is seen stays as it is, where a press leads to this hand and comes to this: nothing of the hand is
-- seen before and after it, it comes to nothing, and no question goes by it.
abbrev pub is_still : Hand × Action → Sitting → Bool
is_still next s = is_nothing next.1 && is_unseen next.0 && is_unseen s.hand
    && not (asks_to_leave s.question)

-- Once the hand has taken a press: where that is amid a text that is pasted, it is counted how many of its characters
-- are typed, and its events are those of one press. The rows in sight follow a pointer that keys move.
abbrev pub with_hand : Hand × Action → Sitting → Sitting
with_hand next s = record s {
  hand = next.0;
  typed = if pastes_text s.hand then Some (unwrap_or s.typed 0) else None;
  joins = pastes_text s.hand && s.joins;
  follows = is_some (pointer_cell next.0.pointer) || s.follows;
  missed = s.missed && is_no_deed next.1;
  names = if is_of_terminal next.1 then s.names else 0;
  changed = s.changed || not (is_still next s);
}

-- how many characters of a text that is pasted became question marks, with a press more
abbrev pub marks_more : Bool → Press → ℕ → ℕ
marks_more false press marks = 0
marks_more true press marks =
    if becomes_mark press then min (marks + 1) (2 ^ 32 - 1) else marks

-- whether it is asked how the name of a host file goes on that is asked for
abbrev pub is_file : AskedFor → Bool
is_file asked_for.File = true
is_file _ = false

abbrev pub is_tabulator : Press → Bool
is_tabulator (Character b) = b == 9
is_tabulator _ = false

abbrev pub asks_rest : Press → Hand → Bool
asks_rest press hand = is_some hand.asked && is_file hand.asks && is_tabulator press

abbrev pub with_marks : Press → Sitting → Sitting
with_marks press s = record s {
  marks = marks_more (pastes_text s.hand) press s.marks;
  completes = asks_rest press s.hand;
}

-- what the hand makes of a press is a way to the beginning of the text, where it is a search behind one that found nothing,
-- it goes on behind a replacement, words that aren't typed are those that were sought last, and a text that is held is typed
-- where the desktop's own copy would be pasted
abbrev pub meant_by : Press → Sitting → Hand × Action
meant_by press s =
    let next = handled s.sight press s.hand in
    (next.0, held_meant s.holds (action_meant s.missed (is_replaced s.replacing) s.sought next.1))

-- nothing is done after the person has left
unfoldable pub after_press : Press → Seat → Seat
after_press press seat = if seat.sitting.leaves then seat else
    (let next = meant_by press seat.sitting in
    acted next.1 (record seat { sitting = with_hand next (with_marks press seat.sitting) }))

-- ---- its events

-- which of these events are accepted: a worn store takes none, and one that isn't done is the last one
abbrev pub accepted_one : Session → Event → List Event
accepted_one session event = if is_worn session then [] else event ∷ []

abbrev pub accepted_by : Session → List Event → List Event
accepted_by session [] = []
accepted_by session (event ∷ events) = accepted_one session event
    ++ (if does session event then accepted_by (taken session event) events else [])

-- the events of a plan
abbrev pub planned : Plan → List Event
planned (NotDone why) = []
planned (Events events next) = events
planned (Says line) = []
planned (Aims cell) = []
planned (Shows cell) = []
planned (Tells saying) = []
planned (Asks before) = []
planned (Keeps words next) = []
planned (PutsAway next) = []

-- the events of a task that are accepted, by one plan, and by so many at most
abbrev pub accepted_stage : Option Task → Seat → List Event
accepted_stage None seat = []
accepted_stage (Some task) seat =
    accepted_by seat.session (planned (plan_of task seat.session.desktop))

abbrev pub accepted_in : ℕ → Option Task → Seat → List Event
accepted_in zero left seat = []
accepted_in (suc n) left seat = accepted_stage left seat
    ++ accepted_in n (task_left left seat.session) (after_stage left seat)

-- and of what a press comes to; a question has none
unfoldable pub accepted_as : Action → Seat → List Event
accepted_as a seat = accepted_in most_plans (task_in seat.sitting a) (noted_at a seat)

abbrev pub accepted_unasked : Action → Seat → List Event
accepted_unasked a seat = if asks_first a seat then []
    else accepted_as a (record seat { sitting = unasked a seat.sitting })

-- the events of a press that are accepted
abbrev pub accepted_of : Press → Seat → List Event
accepted_of press seat = if seat.sitting.leaves then [] else
    (let next = meant_by press seat.sitting in
    accepted_unasked next.1 (record seat {
      sitting = with_hand next (with_marks press seat.sitting);
    }))
