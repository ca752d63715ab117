-- The list of a desktop's files and viewers.
use Rattle.std.specs.Prelude.{ℕ, ◌+◌, ◌==◌, not, List, [], ◌∷◌, ◌++◌, length, map}
use Rattle.std.specs.List.{take_while}
use Rattle.piece_ring.specs.Text.{Text}
use Rattle.screen_pictures.specs.Bytes.{space}
use Rattle.viewer_tracks.specs.declared.display.Track.{Track}
use Rattle.viewer_tracks.specs.declared.display.Track.TheVariants.{User, System}
use Rattle.viewer_tracks.specs.Display.{left_of}
use Rattle.viewer_tracks.specs.Viewers.{Entry as Stretch}
use Rattle.viewer_tracks.specs.Columns.{stack_of, placed_bottom, placed_top}
use Rattle.desktop_definitions.specs.declared.entry.Entry.{Entry}
use Rattle.desktop_definitions.specs.declared.entry.Entry.TheVariants.{File, Viewer, Over, Written}
use Rattle.desktop_definitions.specs.Desktop.{Desktop}
use Rattle.desktop_definitions.specs.Viewers.{main_of, menu_of}
use Rattle.desktop_definitions.specs.Change.{bytes_of}

abbrev pub file_entry : List ℕ × Text ℕ → Entry
file_entry file = File file.0 (length file.1)

-- the bytes of a menu up to its first space
abbrev pub listed_name : Text ℕ → List ℕ
listed_name menu = take_while (λ b. not (b == space)) (bytes_of menu)

-- a viewer of a track, with the column of the track, the rows from which and before which it stands, the name in its
-- menu and the length of its main text
abbrev pub viewer_entry : Desktop → Track → ℕ → Entry
viewer_entry d track v =
    Viewer (left_of track) (placed_bottom d.columns v) (placed_top d.columns v)
    (listed_name (menu_of d v)) (length (main_of d v))

-- the viewers of a track of a column, from the bottom up
abbrev pub track_entries : Desktop → Track → List Stretch → List Entry
track_entries d k track = map (λ e. viewer_entry d k e.viewer) track

-- an entry before the viewers of a track that has these under it, where there are any
abbrev pub over_entry : Track → List (List Stretch) → List Entry
over_entry k [] = []
over_entry k (t ∷ under) = Over (left_of k) (length (t ∷ under) + 1) ∷ []

-- the viewers of the tracks of a column, from the lowest track up
unfoldable pub stack_entries : Desktop → Track → List (List Stretch) → List Entry
stack_entries d k [] = []
stack_entries d k (t ∷ under) =
    stack_entries d k under ++ (over_entry k under ++ track_entries d k t)

abbrev pub column_entries : Desktop → Track → List Entry
column_entries d k = stack_entries d k (stack_of d.columns k)

-- an entry for each file, by rising names; those of the user's and then of the system's column; and one for how many
-- characters count as written
unfoldable pub entries_of : Desktop → List Entry
entries_of d = map file_entry d.files
    ++ (column_entries d User ++ (column_entries d System ++ (Written d.written ∷ [])))
