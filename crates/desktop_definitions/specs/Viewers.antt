-- The viewers of a desktop: the texts that they show, where they stand on the display, and what is marked in them.
use Rattle.std.specs.Prelude.{ℕ, ◌-◌, ◌==◌, nat_lt, not, Bool, if◌then◌else◌, List, [], ◌∷◌, ◌++◌, length, filter}
use Rattle.std.specs.Prelude.{Option, Some, None}
use Rattle.std.specs.List.{last_or}
use Rattle.std.specs.Map.{lookup, set_value, remove_entry}
use Rattle.piece_ring.specs.Text.{stretch}
use Rattle.viewer_tracks.specs.declared.display.Track.{Track}
use Rattle.viewer_tracks.specs.Display.{left_of}
use Rattle.viewer_tracks.specs.Viewers.{times_in}
use Rattle.viewer_tracks.specs.Columns.{shown_track, placed_bottom, placed_top, after_open, after_open_track, replaced_at}
use Rattle.desktop_definitions.specs.Words.{unwrap_or, nat_cmp, is_at, Piece, Text, Viewer, Caret, Selection}
use Rattle.desktop_definitions.specs.Tables.{Texts, text_numbered}
use Rattle.desktop_definitions.specs.Desktop.{DesktopOf, Desktop, KeptDesktop}

-- where there is no viewer of an id
abbrev pub bare_viewer : Viewer
bare_viewer = record { menu = 0; main = 0; org = 0 }

-- the viewer of an id in a table, if there is one
abbrev pub viewer_in : List (ℕ × Viewer) → ℕ → Option Viewer
viewer_in viewers v = lookup (is_at (nat_cmp v)) viewers

-- the viewer of an id, and where there is none one of no texts
abbrev pub viewer_or_none : List (ℕ × Viewer) → ℕ → Viewer
viewer_or_none viewers v = unwrap_or (viewer_in viewers v) bare_viewer

-- the text of a number in a table, empty where there is none
abbrev pub text_in : {X : Type 0} → Texts (List X) → ℕ → List X
text_in texts n = unwrap_or (text_numbered texts n) []

-- how many characters the main text of a viewer has
abbrev pub main_length : {X : Type 0} → Texts (List X) → List (ℕ × Viewer) → ℕ → ℕ
main_length texts viewers v = length (text_in texts (viewer_or_none viewers v).main)

-- the caret, unless it stands in a viewer that passes the test
abbrev pub caret_outside : (ℕ → Bool) → Option Caret → Option Caret
caret_outside test None = None
caret_outside test (Some c) = if test c.viewer then None else Some c

-- the selections but those in viewers that pass the test
abbrev pub selections_outside : (ℕ → Bool) → List Selection → List Selection
selections_outside test selections = filter (λ s. not (test s.viewer)) selections

module _ {T : Type 0} where
  abbrev pub viewer_of : DesktopOf T → ℕ → Viewer
  viewer_of d v = viewer_or_none d.viewers v

  -- whether a viewer's main frame shows the text of a number
  abbrev pub shows : DesktopOf T → ℕ → ℕ → Bool
  shows d n v = (viewer_of d v).main == n

  -- the viewer shows its main text from that position on
  abbrev pub with_org : DesktopOf T → ℕ → ℕ → DesktopOf T
  with_org d v org =
      record d {
        viewers =
            set_value (is_at (nat_cmp v)) d.viewers (record (viewer_of d v) { org = org });
      }

  -- how many rows a viewer's main frame has
  abbrev pub rows_of : DesktopOf T → ℕ → ℕ
  rows_of d v = placed_top d.columns v - placed_bottom d.columns v - 1

  -- the caret stands in that viewer, and in no other
  abbrev pub with_caret : DesktopOf T → ℕ → ℕ → DesktopOf T
  with_caret d v position = record d { caret = Some (record { viewer = v; position = position }) }

  abbrev pub newest : DesktopOf T → Option Selection
  newest d = last_or None d.selections

  -- neither the caret nor a selection stands in a viewer that passes the test
  abbrev pub unmarked : (ℕ → Bool) → DesktopOf T → DesktopOf T
  unmarked test d = record d {
    caret = caret_outside test d.caret;
    selections = selections_outside test d.selections;
  }

  -- no selection in that viewer, and a new one there, which is the newest
  abbrev pub unselected : DesktopOf T → ℕ → DesktopOf T
  unselected d v = record d { selections = selections_outside (λ w. w == v) d.selections }

  abbrev pub with_selection : DesktopOf T → Selection → DesktopOf T
  with_selection d s =
      record d { selections = selections_outside (λ w. w == s.viewer) d.selections ++ s ∷ [] }

  -- the desktop without a viewer, where one is meant
  abbrev pub without_viewer : DesktopOf T → Option ℕ → DesktopOf T
  without_viewer d None = d
  without_viewer d (Some v) =
      record (unmarked (λ w. w == v) d) { viewers = remove_entry (is_at (nat_cmp v)) d.viewers }

  -- a viewer stands at a cell; the one whose whole place it takes is gone
  unfoldable pub opened_at : DesktopOf T → ℕ → ℕ × ℕ → DesktopOf T
  opened_at d v cell = record (without_viewer d (replaced_at d.columns cell.0 cell.1)) {
    columns = after_open d.columns v cell.0 cell.1;
  }

  -- the viewer stands in the track that the column shows
  abbrev pub is_shown_in : DesktopOf T → Track → ℕ → Bool
  is_shown_in d k v = nat_lt 0 (times_in v (shown_track d.columns k))

  -- a viewer has a new track whole, over the one that a column showed, in which nothing is marked any more
  unfoldable pub covered_by : DesktopOf T → ℕ → Track → DesktopOf T
  covered_by d v k =
      record (unmarked (is_shown_in d k) d) { columns = after_open_track d.columns v (left_of k) }

abbrev pub text_of : Desktop → ℕ → Text ℕ
text_of d n = text_in d.texts n

abbrev pub main_of : Desktop → ℕ → Text ℕ
main_of d v = text_of d (viewer_of d v).main

-- the pieces of a viewer's main text, of a desktop that is kept
abbrev pub kept_main : KeptDesktop → ℕ → List Piece
kept_main d v = text_in d.texts (viewer_or_none d.viewers v).main

abbrev pub menu_of : Desktop → ℕ → Text ℕ
menu_of d v = text_of d (viewer_of d v).menu

-- the characters of a selection
abbrev pub selected : Desktop → Selection → Text ℕ
selected d s = stretch s.beg s.end (main_of d s.viewer)
