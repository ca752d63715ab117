-- Lines of the log, which is text 0.
use Rattle.std.specs.Prelude.{ℕ, ◌&&◌, nat_lt, if◌then◌else◌, List, [], ◌∷◌, ◌++◌, length, fold}
use Rattle.std.specs.Map.{keys_of}
use Rattle.event_bytes.specs.Bytes.{carriage_return}
use Rattle.viewer_tracks.specs.Columns.{times_placed}
use Rattle.desktop_definitions.specs.Desktop.{Desktop}
use Rattle.desktop_definitions.specs.Viewers.{shows, text_of}
use Rattle.desktop_definitions.specs.Change.{plain_text, insertion, showing, more_written}

-- the line of these bytes
abbrev pub line : List ℕ → List ℕ
line bytes = bytes ++ carriage_return ∷ []

-- the end of the log is shown in a viewer that shows the log and stands in a track, be that covered or not
abbrev pub log_shown : Desktop → ℕ → Desktop
log_shown d v =
    if shows d 0 v && nat_lt 0 (times_placed v d.columns) then showing d v (length (text_of d 0))
    else d

-- and in all viewers
abbrev pub log_end_shown : Desktop → Desktop
log_end_shown d = fold log_shown d (keys_of d.viewers)

-- a line is put in at the end of the log, in the default look, and the end is shown
unfoldable pub logged : Desktop → List ℕ → Desktop
logged d line =
    log_end_shown
    (more_written (insertion d 0 (length (text_of d 0)) (plain_text line)) (length line))

-- lines, one by one: each is shown before the next one comes
unfoldable pub all_logged : Desktop → List (List ℕ) → Desktop
all_logged d lines = fold logged d lines
