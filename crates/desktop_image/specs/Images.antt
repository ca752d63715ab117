-- Which desktop has the parts that an image says, and when these make one: what a part has to do with the others.
use Rattle.std.specs.Prelude.{◌≡◌, ℕ, ◌+◌, ◌^◌, ◌<◌, ◌≤◌, ◌==◌, ◌&&◌, ◌||◌, not, Bool, true, false, if◌then◌else◌}
use Rattle.std.specs.Prelude.{nat_lt, nat_le, List, [], ◌∷◌, All, length, map, min, reverse, Option, Some}
use Rattle.std.specs.Prelude.{None, is_some, nat_eq, option_map}
use Rattle.std.specs.Option.{option_or, option_eq}
use Rattle.std.specs.List.{list_all, list_any, filter_map, range_with_len}
use Rattle.std.specs.Map.{keys_of, values_of}
use Rattle.piece_ring.specs.declared.piece.Piece.{Piece}
use Rattle.piece_ring.specs.Flat.{flat}
use Rattle.event_bytes.specs.Parts.{byte, word_bytes, counted_bytes}
use Rattle.viewer_tracks.specs.Viewers.{Entry, times_in}
use Rattle.viewer_tracks.specs.declared.display.Track.{Track}
use Rattle.viewer_tracks.specs.declared.display.Track.TheVariants.{User, System}
use Rattle.viewer_tracks.specs.Columns.{Columns, IsStack, stack_of, topmost, times_on, times_placed, times_meant}
use Rattle.desktop_definitions.specs.declared.viewer.Viewer.{Viewer}
use Rattle.desktop_definitions.specs.declared.viewer.Caret.{Caret}
use Rattle.desktop_definitions.specs.declared.viewer.Selection.{Selection}
use Rattle.desktop_definitions.specs.declared.viewer.ClosedViewer.{ClosedViewer}
use Rattle.desktop_definitions.specs.Limits.{newest_version, most_written}
use Rattle.desktop_definitions.specs.Looks.{IsLook, AreLooks}
use Rattle.desktop_definitions.specs.Seen.{seen_text, seen_table}
use Rattle.desktop_definitions.specs.Tables.{Texts, text_numbered}
use Rattle.desktop_definitions.specs.Desktop.{KeptDesktop}
use Rattle.desktop_definitions.specs.Viewers.{text_in, viewer_or_none}
use Rattle.desktop_definitions.specs.Opening.{is_shown}
use Rattle.desktop_definitions.specs.Sound.{IsKeptWhole}
use Rattle.image_format.specs.declared.picture.Ranked.{Ranked}
use Rattle.image_format.specs.declared.picture.ViewerPicture.{ViewerPicture}
use Rattle.desktop_definitions.specs.Shown.{caret_position}
use Rattle.image_format.specs.Image.{Image, ranked_in, image_of, picture_of, listed_bytes, optional}
use Rattle.image_format.specs.Image.{look_bytes, cell_bytes, closed_bytes, text_bytes, file_bytes, pieces_bytes}
use Rattle.image_format.specs.Image.{viewers_bytes, stack_bytes, deepest}

-- ---- what the writers of an image ask of a desktop's parts

-- of a table of texts or files: how many there are takes a word, and each has looks that there are
pub record CanBePut {K : Type 0} (table : List (K × List Piece)) : Type 0 where
  pub few : length table < 2 ^ 16
  pub looks : All AreLooks (values_of (seen_table [] table))

pub record CanBeImaged (d : KeptDesktop) : Type 0 where
  pub look : IsLook d.look
  pub pattern : length d.pattern < 2 ^ 8
  pub texts : CanBePut d.texts
  pub files : CanBePut d.files
  pub copied : AreLooks (seen_text [] d.copied)
  pub deleted : AreLooks (seen_text [] d.deleted)
  pub viewers : length d.viewers < 2 ^ 16
  pub selections : length d.selections ≤ 255
  -- no column has more tracks than an image can say
  pub levels : (k : Track) → length (stack_of d.columns k) ≤ deepest newest_version

-- ---- how many bytes an image of the newest version has, in three groups of its parts

abbrev pub settings_long : KeptDesktop → ℕ
settings_long d =
    length (look_bytes d.look)
    + (length (counted_bytes byte d.pattern) + length (optional cell_bytes d.marker))

abbrev pub tables_long : KeptDesktop → ℕ
tables_long d =
    length (listed_bytes word_bytes text_bytes d.texts)
    + (length (listed_bytes word_bytes file_bytes d.files)
    + (length (pieces_bytes d.copied) + length (pieces_bytes d.deleted)))

abbrev pub display_long : KeptDesktop → ℕ
display_long d =
    length (viewers_bytes newest_version (map (picture_of d.caret d.selections) d.viewers))
    + (length (stack_bytes newest_version (reverse (stack_of d.columns User)))
    + (length (stack_bytes newest_version (reverse (stack_of d.columns System)))
    + length (optional (closed_bytes newest_version) d.closed)))

-- ---- the desktop that has the parts of an image

abbrev pub picture_entry : ViewerPicture → ℕ × Viewer
picture_entry p = (p.id, p.viewer)

abbrev pub viewers_of : List ViewerPicture → List (ℕ × Viewer)
viewers_of pictures = map picture_entry pictures

-- what f gives first
abbrev pub first_some : {A B : Type 0} → (A → Option B) → List A → Option B
first_some f [] = None
first_some f (x ∷ xs) = option_or (f x) (first_some f xs)

abbrev pub picture_caret : ViewerPicture → Option Caret
picture_caret p = option_map (λ n. record { viewer = p.id; position = n }) p.caret

-- the caret of the first viewer that has one
unfoldable pub first_caret : List ViewerPicture → Option Caret
first_caret pictures = first_some picture_caret pictures

-- a viewer's selection, where it has that rank
abbrev pub with_rank : ℕ → ViewerPicture → Option Ranked → Option Selection
with_rank rank p None = None
with_rank rank p (Some s) =
    if s.rank == rank then Some (record { viewer = p.id; beg = s.beg; end = s.end }) else None

abbrev pub selected_at : ℕ → ViewerPicture → Option Selection
selected_at rank p = with_rank rank p p.selection

-- the selection of the first viewer that has one of that rank
unfoldable pub selected_as : List ViewerPicture → ℕ → Option Selection
selected_as pictures rank = first_some (selected_at rank) pictures

-- a rank has a byte
abbrev pub most_ranks : ℕ
most_ranks = 255

-- the selections by their ranks, of which there are no more than viewers
unfoldable pub selections_of : List ViewerPicture → List Selection
selections_of pictures =
    filter_map (selected_as pictures) (range_with_len 1 (min (length pictures) most_ranks))

abbrev pub drafted : ℕ → Image → KeptDesktop
drafted written i = record {
  texts = i.texts;
  viewers = viewers_of i.viewers;
  columns = record { user = reverse i.user; system = reverse i.system };
  caret = first_caret i.viewers;
  selections = selections_of i.viewers;
  marker = i.marker;
  closed = i.closed;
  files = i.files;
  copied = i.copied;
  deleted = i.deleted;
  pattern = i.pattern;
  look = i.look;
  written = written;
}

-- ---- texts and the viewers that show them

-- how many characters the text of a number has
abbrev pub size_of : Texts (List Piece) → ℕ → ℕ
size_of texts n = length (flat (text_in texts n))

-- a viewer leaves the menu of another to that one
abbrev pub leaves_menu : ℕ × Viewer → ℕ × Viewer → Bool
leaves_menu e other =
    not (other.1.main == e.1.menu) && (not (other.1.menu == e.1.menu) || (other.0 == e.0))

-- both texts of a viewer are there, and its menu is its own
unfoldable pub is_framed : Texts (List Piece) → List (ℕ × Viewer) → ℕ × Viewer → Bool
is_framed texts viewers e =
    is_some (text_numbered texts e.1.menu) && (is_some (text_numbered texts e.1.main)
    && (nat_le e.1.org (size_of texts e.1.main)
    && (not (e.1.menu == 0) && list_all (leaves_menu e) viewers)))

unfoldable pub are_texts : Texts (List Piece) → List (ℕ × Viewer) → Bool
are_texts texts viewers =
    is_some (text_numbered texts 0) && (list_all (is_framed texts viewers) viewers
    && list_all (is_shown viewers) (keys_of texts))

-- ---- places

-- the tracks of both columns are lists from the lowest up
abbrev pub Levels : Type 0
Levels = List (List Entry)

abbrev pub times_tracked : Levels → Levels → ℕ → ℕ
times_tracked user system v = times_on v user + times_on v system

-- A column that has no viewer, and tracks that may be put into it, from the lowest up.
pub record CanBuild (c : Columns) (k : Track) (levels : Levels) : Type 0 where
  pub empty : stack_of c k ≡ [] ∷ []
  pub stack : IsStack (reverse levels)
  pub once : (v : ℕ) → times_placed v c + times_on v levels ≤ 1

abbrev pub has_id : List (ℕ × Viewer) → ℕ → Bool
has_id viewers v = list_any (λ e. e.0 == v) viewers

abbrev pub is_closed_known : List (ℕ × Viewer) → Option ClosedViewer → Bool
is_closed_known viewers None = true
is_closed_known viewers (Some k) = has_id viewers k.viewer

abbrev pub stands_once : Levels → Levels → Option ClosedViewer → ℕ × Viewer → Bool
stands_once user system closed e =
    times_tracked user system e.0 + times_meant e.0 (option_map (λ k. k.viewer) closed) == 1

-- all of the tracks are viewers
abbrev pub are_known : List (ℕ × Viewer) → Levels → Bool
are_known viewers stack = list_all (list_all (λ e. has_id viewers e.viewer)) stack

-- each viewer stands in one place, in a track or as the closed one, and nothing else does
unfoldable pub are_placed : Levels → Levels → Option ClosedViewer → List (ℕ × Viewer) → Bool
are_placed user system closed viewers =
    list_all (stands_once user system closed) viewers && (are_known viewers user
    && (are_known viewers system && is_closed_known viewers closed))

-- ---- what is marked

-- the track that is shown: the highest
abbrev pub highest : Levels → List Entry
highest stack = topmost (reverse stack)

-- a viewer stands in a track that is shown
abbrev pub is_on_top : Levels → Levels → ℕ → Bool
is_on_top user system v = nat_lt 0 (times_in v (highest user) + times_in v (highest system))

-- how many characters the main text of a viewer has
abbrev pub main_size : Texts (List Piece) → List (ℕ × Viewer) → ℕ → ℕ
main_size texts viewers v = size_of texts (viewer_or_none viewers v).main

module _ (texts : Texts (List Piece)) (viewers : List (ℕ × Viewer)) (user system : Levels) where
  -- a caret stands in a viewer of a track that is shown, within its text
  unfoldable pub is_caret_within : Option Caret → Bool
  is_caret_within None = true
  is_caret_within (Some c) =
      is_on_top user system c.viewer && nat_le c.position (main_size texts viewers c.viewer)

  -- a selection has some character, of a viewer of a track that is shown
  unfoldable pub is_selection : Selection → Bool
  is_selection s =
      is_on_top user system s.viewer
      && (nat_lt s.beg s.end && nat_le s.end (main_size texts viewers s.viewer))

-- ---- a viewer's caret and selection are those that the desktop has there

abbrev pub same_ranked : Option Ranked → Option Ranked → Bool
same_ranked None None = true
same_ranked None (Some s) = false
same_ranked (Some r) None = false
same_ranked (Some r) (Some s) = (r.rank == s.rank) && ((r.beg == s.beg) && (r.end == s.end))

unfoldable pub is_pictured : Option Caret → List Selection → ViewerPicture → Bool
is_pictured caret selections p =
    option_eq nat_eq (caret_position p.id caret) p.caret
    && same_ranked (ranked_in 1 selections p.id) p.selection

-- ---- together

-- the parts of an image, in whatever version it was read, make a desktop for which so many characters were written
unfoldable pub is_desktop : ℕ → Image → Bool
is_desktop written i =
    nat_le written most_written && (are_placed i.user i.system i.closed (viewers_of i.viewers)
    && (are_texts i.texts (viewers_of i.viewers)
    && (is_caret_within i.texts (viewers_of i.viewers) i.user i.system (first_caret i.viewers)
    && (list_all (is_selection i.texts (viewers_of i.viewers) i.user i.system)
    (selections_of i.viewers)
    && list_all (is_pictured (first_caret i.viewers) (selections_of i.viewers)) i.viewers))))

-- A desktop that holds together has these parts, and so many characters were written for it.
pub record IsDesktopOf (written : ℕ) (i : Image) (d : KeptDesktop) : Type 0 where
  pub count : d.written ≡ written
  pub whole : IsKeptWhole d
  pub image : image_of d ≡ i
