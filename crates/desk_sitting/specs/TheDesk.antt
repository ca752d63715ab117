-- The desk of `serve`.
use Rattle.std.specs.Prelude.{ℕ, List, Option, is_some}
use Rattle.screen_pictures.specs.declared.cell.Cell.{Cell}
use Rattle.terminal_keyboard.specs.Presses.{at_rest, parser_after, presses_heard}
use Rattle.terminal_presses.specs.Pointers.{pointer_cell}
use Rattle.terminal_presses.specs.Sights.{terminal_place}
use Rattle.done_presses.specs.Again.{next_event}
pub use Rattle.event_bytes.specs.Parts.{◌>>=◌}
use Rattle.status_line.specs.Sayings.{line_of, said_by_pointer}
use Rattle.desk_sitting.specs.declared.sitting.Sitting.{Sitting}
use Rattle.desk_sitting.specs.Clips.{clip_sent}
use Rattle.desk_sitting.specs.Desk.{Desk}
use Rattle.desk_sitting.specs.Sittings.{accepted_of, after_completion, after_fetch, after_press, looked, new_sitting}
use Rattle.desk_sitting.specs.Telling.{scene_told}
use Rattle.desk_sitting.specs.Travels.{did_import, done_again, foreseen, goes_again, none_again, recalled, settled}
use Rattle.desk_sitting.specs.Travels.{step_count, took_back, took_import}

-- where in the terminal the pointer is that keys move, while it is shown
abbrev pub pointer_of : Sitting → Option (ℕ × ℕ)
pointer_of s = pointer_cell s.hand.pointer >>= terminal_place s.sight

-- the line below a screen
abbrev pub sitting_line : List (List Cell) → Sitting → List ℕ
sitting_line screen s =
    line_of s.sight.width screen s.logged.items s.hand.asked s.hand.asks s.names s.sought
    s.hand.armed
    (said_by_pointer (is_some (pointer_cell s.hand.pointer)) s.saying)

abbrev pub the_desk : Desk
the_desk = record {
  parser = at_rest;
  begins = new_sitting;
  pressed = presses_heard;
  parses = parser_after;
  does = after_press;
  accepts = accepted_of;
  looks = looked;
  points = pointer_of;
  says = sitting_line;
  gives = clip_sent;
  tells = scene_told;
  fetches = after_fetch;
  completes = after_completion;
  recalls = recalled;
  foresees = foreseen;
  counts = step_count;
  takes_back = λ events from to s. took_back events from to (settled s);
  takes_import = λ documents from to s. took_import documents from to (settled s);
  follows = λ place s. next_event place s.again;
  repeats = done_again;
  brings_again = λ documents from to s. did_import documents to (goes_again from s);
  ends_there = none_again;
}
