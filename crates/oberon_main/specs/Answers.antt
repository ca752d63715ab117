-- What a script is answered, line by line.
use Rattle.std.specs.Prelude.{ℕ, if◌then◌else◌, List, [], ◌∷◌, ◌++◌, fold, codes}
use Rattle.desktop_definitions.specs.Desktop.{file_of}
use Rattle.desktop_definitions.specs.Step.{step}
use Rattle.desktop_definitions.specs.Listing.{entries_of}
use Rattle.desktop_definitions.specs.Shown.{shown_screen}
use Rattle.screen_pictures.specs.Printed.{printed}
use Rattle.desk_journal.specs.Session.{Session, is_last, is_worn, renewed, taken}
use Rattle.script_lines.specs.declared.request.Request.{Request}
use Rattle.script_lines.specs.declared.request.Request.TheVariants.{Post, Checkpoint, Show, Listing, Display, Malformed}
use Rattle.screen_pictures.specs.Printed.{ended_line}
use Rattle.script_lines.specs.Request.{request_of}
use Rattle.script_lines.specs.Answer.{reply_line, show_lines, list_lines}

unfoldable pub answer : Session → Request → List ℕ
answer s (Post event) =
    if is_worn s then ended_line (codes "worn") else reply_line (step s.desktop event).reply
answer s Checkpoint = if is_last s then ended_line (codes "worn") else ended_line (codes "ok")
answer s (Show name) = show_lines (file_of s.desktop name)
answer s Listing = list_lines (entries_of s.desktop)
answer s Display = printed (shown_screen s.desktop)
answer s Malformed = ended_line (codes "?")

-- the session after a request
unfoldable pub session_after : Session → Request → Session
session_after s (Post event) = taken s event
session_after s Checkpoint = if is_last s then s else renewed s
session_after s request = s

-- the answers to lines, one after another
abbrev pub answers_to : Session → List (List ℕ) → List ℕ
answers_to s [] = []
answers_to s (line ∷ lines) = answer s (request_of line)
    ++ answers_to (session_after s (request_of line)) lines

abbrev pub after_all : Session → List (List ℕ) → Session
after_all s lines = fold (λ (now : Session) line. session_after now (request_of line)) s lines
