-- An event in words, and all deeds of a past, each over the desktop that stood there.
use Rattle.std.specs.List.{join_by}
use Rattle.std.specs.Prelude.{ℕ, ◌-◌, Bool, false, ◌==◌, nat_lt, if◌then◌else◌, List, [], ◌∷◌, ◌++◌}
use Rattle.std.specs.Prelude.{Option, Some, None, codes, flat_map, length, take}
use Rattle.std.specs.Fmt.{decimal}
use Rattle.event_bytes.specs.declared.event.Event.{Event}
use Rattle.event_bytes.specs.declared.event.Event.TheVariants.{Typed, Key, Mark, Point, File}
use Rattle.viewer_tracks.specs.declared.tracks.Place.{Place}
use Rattle.desktop_definitions.specs.Desktop.{Desktop}
use Rattle.desktop_definitions.specs.Shown.{shown_screen}
use Rattle.document_filing.specs.Bringing.{Documents}
use Rattle.desk_past.specs.Deeds.{PastDeed, posted, brought, turned, after_deed}
use Rattle.desk_views.specs.Info.{place_at}
use Rattle.screen_reading.specs.Called.{called_word, word_from}
use Rattle.status_line.specs.Deeds.{deed_of, deed_words, is_middle}
use Rattle.told_pasts.specs.declared.words.TheConstants.{MOST_TOLD}

-- ---- what was typed, and documents

-- a byte as a quoted text has it: a quote, a backslash, a tabulator and an end of a line behind a backslash
abbrev pub quoted_byte : ℕ → List ℕ
quoted_byte b =
    if b == 34 then 92 ∷ 34 ∷ []
    else if b == 92 then 92 ∷ 92 ∷ []
    else if b == 9 then 92 ∷ 116 ∷ []
    else if b == 13 then 92 ∷ 114 ∷ []
    else b ∷ []

abbrev pub quoted : List ℕ → List ℕ
quoted bytes = flat_map quoted_byte bytes

-- what stands behind the characters that are told
abbrev pub told_end : List ℕ → List ℕ
told_end bytes = if nat_lt MOST_TOLD (length bytes) then codes "\" .." else codes "\""

abbrev pub typed_line : List ℕ → List ℕ
typed_line bytes = codes "typed \"" ++ (quoted (take MOST_TOLD bytes) ++ told_end bytes)

-- a document of that name got so many characters
abbrev pub file_line : List ℕ → ℕ → List ℕ
file_line name count =
    codes "the document " ++ (name ++ (codes ", of " ++ (decimal count ++ codes " characters")))

-- ---- what is done at a cell

-- the name in the menu of the viewer that stands there
abbrev pub shown_name : Desktop → Option Place → List ℕ
shown_name d None = []
shown_name d (Some place) = word_from (shown_screen d) place.x (place.top - 1)

-- words, and in which viewer, if its name is seen
abbrev pub words_in : List ℕ → List ℕ → List ℕ
words_in words name = if length name == 0 then words else words ++ (codes ", in " ++ name)

-- the word at a cell, if it is called
abbrev pub word_called : Desktop → Bool → ℕ × ℕ → List ℕ
word_called d calls cell = if calls then called_word (shown_screen d) cell.0 cell.1 else []

-- the word that an event calls, or else what it does
abbrev pub call_words : Event → List ℕ → List ℕ
call_words event word = if length word == 0 then deed_words (deed_of event) else word

abbrev pub cell_line : Desktop → Event → Bool → ℕ × ℕ → List ℕ
cell_line d event calls cell =
    words_in (call_words event (word_called d calls cell)) (shown_name d (place_at d cell))

-- ---- deeds

-- what an event does to a desktop, in words
abbrev pub event_line : Desktop → Event → List ℕ
event_line d (Typed bytes) = typed_line bytes
event_line d (Key key) = deed_words (deed_of (Key key))
event_line d (Mark x y) = cell_line d (Mark x y) false (x, y)
event_line d (Point keys x0 y0 x1 y1) =
    cell_line d (Point keys x0 y0 x1 y1) (is_middle keys) (x0, y0)
event_line d (File name bytes) = file_line name (length bytes)

-- documents of these names came
abbrev pub import_line : Documents → List ℕ
import_line documents = codes "import of "
    ++ join_by (λ (document : List ℕ × List ℕ). document.0) (codes ", ") documents

-- the desktop became what it was once
abbrev pub turn_line : List ℕ
turn_line = codes "turn back to an earlier moment"

-- what was done, in words
abbrev pub deed_line : Desktop → PastDeed → List ℕ
deed_line d (posted event) = event_line d event
deed_line d (brought documents) = import_line documents
deed_line d (turned to) = turn_line

-- a line for each of some deeds, the first one first: each is over the desktop that stood before it
abbrev pub told_lines : Desktop → List PastDeed → List (List ℕ)
told_lines d [] = []
told_lines d (deed ∷ deeds) = deed_line d deed ∷ told_lines (after_deed d deed) deeds
