-- A desk, as far as the crash promise of a sitting knows it: any functions of these types. What they are at this desk is
-- said in Sittings and Travels, and `the_desk` has them together.
use Rattle.std.specs.Prelude.{ℕ, Bool, List, [], ◌∷◌, ◌++◌, Option, Result, ⊤}
use Rattle.host_files.specs.declared.HostFault.{HostFault}
use Rattle.event_bytes.specs.declared.event.Event.{Event}
use Rattle.screen_pictures.specs.declared.cell.Cell.{Cell}
use Rattle.desktop_definitions.specs.Desktop.{Desktop}
use Rattle.document_filing.specs.Bringing.{Documents}
use Rattle.terminal_keyboard.specs.declared.completion.Completion.{Completion}
use Rattle.terminal_keyboard.specs.declared.parser.Parser.{Parser}
use Rattle.terminal_presses.specs.declared.press.Heard.{Heard}
use Rattle.terminal_presses.specs.declared.press.Press.{Press}
use Rattle.done_presses.specs.declared.again.NextEvent.{NextEvent}
use Rattle.done_presses.specs.declared.again.StorePlace.{StorePlace}
use Rattle.status_line.specs.declared.saying.Saying.{Saying}
use Rattle.desk_journal.specs.Session.{Session}
use Rattle.desk_sitting.specs.declared.sitting.Sitting.{Sitting}

-- a sitting, and the session of the store before which it is
pub record Seat : Type 0 where
  pub sitting : Sitting
  pub session : Session

pub record Desk : Type 0 where
  -- in the beginning, at a terminal of so many rows and columns
  pub parser : Parser
  pub begins : ℕ → ℕ → Saying → Bool → Sitting
  -- what is pressed by what is heard, and the parser after it
  pub pressed : Parser → List Heard → List Press
  pub parses : Parser → List Heard → Parser
  -- what a press comes to, and which events of it are accepted
  pub does : Press → Seat → Seat
  pub accepts : Press → Seat → List Event
  -- after the screen was shown, where the pointer is shown in the terminal, and what is said below the screen
  pub looks : List (List Cell) → Sitting → Sitting
  pub points : Sitting → Option (ℕ × ℕ)
  pub says : List (List Cell) → Sitting → List ℕ
  -- the text that the clipboard of the terminal is given with a scene of this desktop, and the sitting that says what there
  -- is to be told of the desktop
  pub gives : Desktop → Sitting → Option (List ℕ)
  pub tells : Desktop → Sitting → Sitting
  -- after the keyboard was asked for the text of a host file, which will be heard, or why it won't be
  pub fetches : Result ⊤ HostFault → Sitting → Sitting
  -- after it was asked how the name goes on that is asked for
  pub completes : Completion → Sitting → Sitting
  -- the sitting once a past told of the events that were done last, or at a place of those that were taken back last
  pub recalls : Option (List Event) → Sitting → Sitting
  pub foresees : StorePlace → Option (List Event) → Sitting → Sitting
  -- how many events are taken back, and the sitting after these were, or an import, from one place of the store to another
  pub counts : Sitting → ℕ
  pub takes_back : List Event → StorePlace → StorePlace → Sitting → Sitting
  pub takes_import : Documents → StorePlace → StorePlace → Sitting → Sitting
  -- which event is done again at a place, and the sitting after it was, or an import, or where there is none
  pub follows : StorePlace → Sitting → Option NextEvent
  pub repeats : NextEvent → Session → StorePlace → StorePlace → Sitting → Sitting
  pub brings_again : Documents → StorePlace → StorePlace → Sitting → Sitting
  pub ends_there : StorePlace → Sitting → Sitting

module _ (desk : Desk) where
  -- presses, one after another: what they come to, and which events of them are accepted
  abbrev pub after_presses : List Press → Seat → Seat
  after_presses [] seat = seat
  after_presses (press ∷ presses) seat = after_presses presses (desk.does press seat)

  abbrev pub accepted_events : List Press → Seat → List Event
  accepted_events [] seat = []
  accepted_events (press ∷ presses) seat =
      desk.accepts press seat ++ accepted_events presses (desk.does press seat)
