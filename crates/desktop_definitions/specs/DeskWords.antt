-- Words in which the code that does events speaks of a desktop, beside its definitions.
use Rattle.std.specs.Prelude.{◌≡◌, ◌<◌, ◌≤◌, ℕ, ◌+◌, ◌^◌, ◌==◌, nat_le, Bool, true, false, not, ◌&&◌, ◌||◌}
use Rattle.std.specs.Prelude.{if◌then◌else◌, List, length, get_or, sum_by, Option, Some, None, option_map}
use Rattle.std.specs.Option.{unwrap_or}
use Rattle.std.specs.List.{list_any}
use Rattle.std.specs.Map.{set_value}
use Rattle.std.specs.Ordering.{nat_cmp}
use Rattle.std.specs.BTreeMap.{is_at}
use Rattle.piece_ring.specs.declared.piece.Piece.{Piece}
use Rattle.piece_ring.specs.Flat.{flat}
use Rattle.piece_ring.specs.Text.{Text}
use Rattle.viewer_tracks.specs.declared.display.TheConstants.{ROWS}
use Rattle.viewer_tracks.specs.Display.{left_of}
use Rattle.viewer_tracks.specs.Columns.{Columns, IsPlaced, track_of, placed_bottom, placed_top}
use Rattle.desktop_definitions.specs.declared.viewer.Viewer.{Viewer}
use Rattle.desktop_definitions.specs.declared.viewer.Caret.{Caret}
use Rattle.desktop_definitions.specs.declared.viewer.ClosedViewer.{ClosedViewer}
use Rattle.desktop_definitions.specs.Limits.{most_written, most_held}
use Rattle.desktop_definitions.specs.Tables.{Texts, Files, file_named}
use Rattle.desktop_definitions.specs.Desktop.{Desktop, KeptDesktop, characters_held}
use Rattle.desktop_definitions.specs.Viewers.{kept_main, newest, text_in}
use Rattle.desktop_definitions.specs.Call.{text_called, seen_at_marker}
use Rattle.desktop_definitions.specs.Opening.{new_id}
use Rattle.desktop_definitions.specs.Shown.{caret_position}
use Rattle.command_table.specs.Deciding.{is_among}
use Rattle.desktop_definitions.specs.Rewriting.{kept_length}

-- ---- room

-- Whether the limits on characters hold once so many are made, and so many more and so many fewer are held.
unfoldable pub has_space : Desktop → ℕ → ℕ → ℕ → Bool
has_space d made more fewer =
    nat_le (d.written + made) most_written && nat_le (characters_held d + more) (most_held + fewer)

-- A text more and a viewer more have numbers of 16 bits, and that viewer stands nowhere yet.
pub record CanOpen (d : KeptDesktop) : Type 0 where
  pub texts : length d.texts < 2 ^ 16
  pub viewers : length d.viewers < 2 ^ 16
  pub fresh : ¬ IsPlaced (new_id d) d.columns

-- ---- a text that changes

-- The text of that number became this one, and no other changed.
pub record IsSet (old new : Texts (List Piece)) (n : ℕ) (text : Text ℕ) : Type 0 where
  pub set : new ≡ set_value (is_at (nat_cmp n)) old (text_in new n)
  pub is : flat (text_in new n) ≡ text

-- A viewer that shows the text of that number may follow a change after which the text has so many characters.
abbrev pub CanFollow : ℕ → ℕ → ℕ → ℕ → ℕ × Viewer → Type 0
CanFollow n more fewer long e = e.1.main ≡ n → e.1.org + more ≤ long + fewer

-- What a change of the text of that number, which now has so many characters, may leave of a viewer.
pub record IsMoved (n long : ℕ) (old new : ℕ × Viewer) : Type 0 where
  pub id : new.0 ≡ old.0
  pub menu : new.1.menu ≡ old.1.menu
  pub main : new.1.main ≡ old.1.main
  -- only frames of that text move, and stay within it
  pub other : ¬ (old.1.main ≡ n) → new.1.org ≡ old.1.org
  pub org : old.1.main ≡ n → new.1.org ≤ long

-- the same of each viewer
pub record AreMoved (n long : ℕ) (olds news : List (ℕ × Viewer)) : Type 0 where
  pub as_long : length news ≡ length olds
  pub each : (k : ℕ) (d : ℕ × Viewer) → k < length olds
      → IsMoved n long (get_or olds k d) (get_or news k d)

-- ---- viewers that go, and texts that go with them

-- a viewer with its place, as a closed one
abbrev pub place_closed : Columns → ℕ → ClosedViewer
place_closed columns v =
    record { viewer = v; track = track_of columns v; top = placed_top columns v }

-- where a viewer stands: its left column, the row at which it begins and the one before which it ends
pub record IsPlaceOf (c : Columns) (v x bottom top : ℕ) : Type 0 where
  pub left : x ≡ left_of (track_of c v)
  pub begins : bottom ≡ placed_bottom c v
  pub ends : top ≡ placed_top c v
  pub some : bottom < top
  pub within : top ≤ ROWS

-- whether a viewer is the one that goes
abbrev pub is_taken : Option ℕ → ℕ → Bool
is_taken None v = false
is_taken (Some g) v = g == v

-- whether another viewer shows a text
abbrev pub still_shown : Option ℕ → List (ℕ × Viewer) → ℕ → Bool
still_shown taken viewers n =
    list_any (λ e. not (is_taken taken e.0) && ((e.1.menu == n) || (e.1.main == n))) viewers

-- how many characters the texts have that pass the test
abbrev pub kept_left : (ℕ → Bool) → Texts (List Piece) → ℕ
kept_left test texts = sum_by (λ e. if test e.0 then length (flat e.1) else 0) texts

-- ---- what a command takes of a desktop that is kept

-- the text of the newest selection, and where that begins
abbrev pub kept_place : KeptDesktop → Option (Text ℕ × ℕ)
kept_place d = option_map (λ s. (flat (kept_main d s.viewer), s.beg)) (newest d)

-- the menu at the marker
abbrev pub kept_menu : KeptDesktop → Option (Text ℕ)
kept_menu d = option_map (λ v. flat (text_called d v true)) (seen_at_marker d)

-- where a search starts in a viewer's text
abbrev pub start_in : ℕ → Option Caret → ℕ
start_in v caret = unwrap_or (caret_position v caret) 0

-- whether the file of a name can go, where others are to go after it
abbrev pub can_go : List (List ℕ) → List ℕ → List (List ℕ) → Bool
can_go files name others = is_among files name && not (is_among others name)

-- how many characters the file of a name has, and 0 where there is none
abbrev pub kept_size : Files (List Piece) → List ℕ → ℕ
kept_size files name = unwrap_or (option_map kept_length (file_named files name)) 0
