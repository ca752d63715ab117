-- What a crash leaves of a script that is played: the desktop after a prefix of the events that its lines post.
use Rattle.std.specs.Prelude.{◌≡◌, ℕ, List, [], ◌∷◌, ◌++◌, if◌then◌else◌, Option}
use Rattle.sector_disk.specs.declared.disk.Disk.{Ghosts}
use Rattle.sector_disk.specs.Trail.{Content, now, Leaves, LeavesOnly}
use Rattle.event_bytes.specs.declared.event.Event.{Event}
use Rattle.desktop_definitions.specs.Desktop.{Desktop}
use Rattle.desktop_definitions.specs.Step.{steps}
use Rattle.screen_cells.specs.Sent.{AppendsFront}
use Rattle.store_layout.specs.Meaning.{Means, MeansEither}
use Rattle.desk_journal.specs.Prefixes.{MeansPrefix}
use Rattle.desk_journal.specs.View.{StoreView, IsDurable}
use Rattle.oberon_main.specs.declared.playing.PlayEnd.{PlayEnd}
use Rattle.script_lines.specs.declared.request.Request.{Request}
use Rattle.script_lines.specs.declared.request.Request.TheVariants.{Post}
use Rattle.script_lines.specs.Script.{BeginsWith}
use Rattle.script_lines.specs.Request.{request_of}
use Rattle.desk_journal.specs.Session.{Session, is_worn}
use Rattle.oberon_main.specs.Answers.{session_after, answers_to, after_all}
use Rattle.desk_journal.specs.Session.{session_of}
use Rattle.oberon_main.specs.Play.{PlayState, last_word}

-- ---- the events of lines

-- the event that a request posts, where it is accepted: a worn store accepts none
unfoldable pub events_posted : Session → Request → List Event
events_posted s (Post event) = if is_worn s then [] else event ∷ []
events_posted s request = []

-- the events that lines post, one after another, and that are accepted
abbrev pub accepted_of_lines : Session → List (List ℕ) → List Event
accepted_of_lines s [] = []
accepted_of_lines s (line ∷ lines) =
    events_posted s (request_of line) ++ accepted_of_lines (session_after s (request_of line)) lines

-- lines lead to the desktop to which the events lead that are accepted of them
abbrev pub LinesAreSteps : Type 0
LinesAreSteps = (s : Session) (lines : List (List ℕ))
    → (after_all s lines).desktop ≡ steps s.desktop (accepted_of_lines s lines)

-- the desktop to which the events lead that are accepted of the lines
abbrev pub led_to : Session → List (List ℕ) → Desktop
led_to s lines = steps s.desktop (accepted_of_lines s lines)

-- ---- what an image means

-- The content means the desktop after some of the events accepted of the lines, the first of them and none left out,
-- and among them every event accepted of the lines that were answered.
abbrev pub MeansLines : ℕ → Session → List (List ℕ) → List (List ℕ) → Content → Type 0
MeansLines size before answered lines =
    MeansPrefix size before.desktop (accepted_of_lines before answered)
    (accepted_of_lines before lines)

-- Between two moments of a store a crash leaves the desktop after a prefix of the events of the lines, and at the
-- second of them one that holds every event of the lines that were answered.
pub record KeepsAnswered {D : Type 0} (d : Ghosts D) (answered lines : List (List ℕ))
    (old new : StoreView D) : Type 0 where
  pub any_moment : LeavesOnly (d.trail old.disk) (d.trail new.disk)
      (MeansLines (d.size old.disk) (session_of old) [] lines)
  pub at_last : Leaves (now (d.trail new.disk))
      (MeansLines (d.size old.disk) (session_of old) answered lines)

-- ---- one request

-- at every moment from the one state of a store to the other a crash leaves the desktop of the first
abbrev pub LeavesFirst : {D : Type 0} → Ghosts D → StoreView D → StoreView D → Type 0
LeavesFirst d old new = LeavesOnly (d.trail old.disk) (d.trail new.disk)
    (Means (d.size old.disk) old.desktop)

-- Whatever comes of a request, at each moment a crash leaves the desktop before it or the one after it.
pub record Withstands {D : Type 0} (d : Ghosts D) (request : Request)
    (old new : StoreView D) : Type 0 where
  pub any_moment : IsDurable d old → d.honest old.disk
      → LeavesOnly (d.trail old.disk) (d.trail new.disk)
      (MeansEither (d.size old.disk) old.desktop (session_after (session_of old) request).desktop)
  pub as_large : d.size new.disk ≡ d.size old.disk

-- Nothing of a request is in any image: at each moment a crash leaves the desktop before it.
abbrev pub SparesRequest : {D : Type 0} → Ghosts D → StoreView D → StoreView D → Type 0
SparesRequest d old new = IsDurable d old → d.honest old.disk → LeavesFirst d old new

-- ---- a script

-- all that was written is a prefix of the answers and the word that says why the script ended
abbrev pub HasTakenAnswers : Option (List ℕ) → Option (List ℕ) → List ℕ → Type 0
HasTakenAnswers held held' answers = (end : PlayEnd)
    × AppendsFront held held' (answers ++ last_word end)

-- At every moment each image that a crash may leave means the desktop after a prefix of the events that the lines of
-- the script post and that are accepted. At the end this prefix holds each event whose answer was worked out, and so
-- each whose answer was written, in whole or in part.
pub record ScriptSurvives {D : Type 0} (d : Ghosts D) (script : List ℕ)
    (old new : PlayState D) : Type 0 where
  -- the first lines of the script, whose answers were worked out
  pub answered : List (List ℕ)
  pub begins : BeginsWith script answered
  -- what was written of their answers
  pub written : HasTakenAnswers old.held new.held (answers_to (session_of old.store) answered)
  -- the desktop after a prefix of the events of all its lines, which at last holds those of the lines answered
  pub kept : KeepsAnswered d answered (answered ++ begins.0) old.store new.store
