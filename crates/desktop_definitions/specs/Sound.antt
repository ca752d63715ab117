-- What holds of every desktop, and of one that is kept together with its characters.
use Rattle.std.specs.Prelude.{◌≡◌, ℕ, ◌+◌, ◌<◌, ◌≤◌, ◌==◌, ◌++◌, IsTrue, IsSome, is_some, All, List, length, count_by}
use Rattle.std.specs.Prelude.{Some, Option, option_map, if◌then◌else◌}
use Rattle.std.specs.Option.{ForSome}
use Rattle.std.specs.List.Sorted.{IsStrictlySortedBy}
use Rattle.std.specs.Map.{values_of}
use Rattle.event_bytes.specs.Bytes.{is_name}
use Rattle.piece_ring.specs.Text.{AreWithin}
use Rattle.viewer_tracks.specs.declared.display.TheConstants.{ROWS, COLUMNS}
use Rattle.viewer_tracks.specs.Columns.{Columns, IsColumns, IsOnTop, times_placed, times_meant}
use Rattle.desktop_definitions.specs.Words.{nat_cmp, keys_of, Piece, flat, Viewer, Caret, Selection, ClosedViewer}
use Rattle.desktop_definitions.specs.Limits.{most_files, most_written, most_held, most_pattern}
use Rattle.desktop_definitions.specs.Looks.{IsLook, AreLooks}
use Rattle.desktop_definitions.specs.Tables.{Texts, Files, name_cmp, text_numbered}
use Rattle.desktop_definitions.specs.Desktop.{Desktop, KeptDesktop, characters_held}
use Rattle.desktop_definitions.specs.Viewers.{viewer_in, text_in, main_length}
use Rattle.desktop_definitions.specs.Opening.{is_shown}
use Rattle.desktop_definitions.specs.Seen.{seen}

-- ---- texts and viewers

-- The viewer v shows texts that are there: a menu of its own, which is not the log and which no other frame shows, and
-- a main text from a position within it on.
pub record IsViewer {X : Type 0} (texts : Texts (List X)) (viewers : List (ℕ × Viewer)) (v : ℕ)
    (viewer : Viewer) : Type 0
  where
    pub menu : IsSome (text_numbered texts viewer.menu)
    pub main : IsSome (text_numbered texts viewer.main)
    pub org : viewer.org ≤ length (text_in texts viewer.main)
    pub not_log : ¬ (viewer.menu ≡ 0)
    pub no_main : (w : ℕ) (other : Viewer) → viewer_in viewers w ≡ Some other
        → ¬ (other.main ≡ viewer.menu)
    pub own : (w : ℕ) (other : Viewer) → viewer_in viewers w ≡ Some other → other.menu ≡ viewer.menu
        → w ≡ v

pub record AreViewers {X : Type 0} (texts : Texts (List X)) (viewers : List (ℕ × Viewer)) : Type 0
  where
    -- there is a log, and no two texts have one number
    pub log : IsSome (text_numbered texts 0)
    pub numbers : IsStrictlySortedBy nat_cmp (keys_of texts)
    -- no two viewers have one id
    pub ids : IsStrictlySortedBy nat_cmp (keys_of viewers)
    pub each : (v : ℕ) (viewer : Viewer) → viewer_in viewers v ≡ Some viewer
        → IsViewer texts viewers v viewer

-- ---- places

-- in how many places a viewer stands: in the tracks, covered ones too, or as the one that was closed last
abbrev pub times_there : Columns → Option ClosedViewer → ℕ → ℕ
times_there columns closed v =
    times_placed v columns + times_meant v (option_map (λ k. k.viewer) closed)

pub record IsClosedPlace (k : ClosedViewer) : Type 0 where
  pub some : 0 < k.top
  pub within : k.top ≤ ROWS

pub record ArePlaces (viewers : List (ℕ × Viewer)) (columns : Columns)
    (closed : Option ClosedViewer) : Type 0 where
  pub columns_hold : IsColumns columns
  -- each viewer stands in one place, and nothing else does
  pub once : (v : ℕ) → times_there columns closed v
      ≡ (if is_some (viewer_in viewers v) then 1 else 0)
  pub closed_place : ForSome closed IsClosedPlace

-- ---- what is marked; the main text of a viewer v has `long v` characters

-- the caret stands in a viewer on the display, in a track that is shown, within its text
pub record IsCaretPlaced (columns : Columns) (long : ℕ → ℕ) (c : Caret) : Type 0 where
  pub placed : IsOnTop c.viewer columns
  pub within : c.position ≤ long c.viewer

-- a selection has some character, of a viewer in a track that is shown
pub record IsSelection (columns : Columns) (long : ℕ → ℕ) (s : Selection) : Type 0 where
  pub placed : IsOnTop s.viewer columns
  pub some : s.beg < s.end
  pub within : s.end ≤ long s.viewer

pub record AreMarks (columns : Columns) (long : ℕ → ℕ) (caret : Option Caret)
    (selections : List Selection) : Type 0
  where
    pub caret_stands : ForSome caret (IsCaretPlaced columns long)
    pub all_stand : All (IsSelection columns long) selections
    -- one in each viewer at most
    pub one_each : (v : ℕ) → count_by (λ s. s.viewer == v) selections ≤ 1

-- ---- files

pub record AreFiles {T : Type 0} (files : Files T) : Type 0 where
  -- each has a name, and no two have one name
  pub names : All (λ name. IsTrue (is_name name)) (keys_of files)
  pub rising : IsStrictlySortedBy name_cmp (keys_of files)
  pub few : length files ≤ most_files

-- ---- looks

-- all that has a look has one that there is
pub record HasLooks (d : Desktop) : Type 0 where
  pub look : IsLook d.look
  pub texts : All AreLooks (values_of d.texts)
  pub files : All AreLooks (values_of d.files)
  pub copied : AreLooks d.copied
  pub deleted : AreLooks d.deleted

-- ---- the desktop

-- What holds of a desktop also inside an event: all but the limits on characters and that no text is left over.
pub record IsShaped (d : Desktop) : Type 0 where
  pub viewers : AreViewers d.texts d.viewers
  pub places : ArePlaces d.viewers d.columns d.closed
  pub marks : AreMarks d.columns (main_length d.texts d.viewers) d.caret d.selections
  pub marker : ForSome d.marker (λ m. (m.0 < COLUMNS) × (m.1 < ROWS))
  pub files : AreFiles d.files
  pub pattern : length d.pattern ≤ most_pattern
  pub looks : HasLooks d

pub record IsSound (d : Desktop) : Type 0 where
  pub shaped : IsShaped d
  -- each text is the log, or shown by a viewer
  pub shown : All (λ n. IsTrue (is_shown d.viewers n)) (keys_of d.texts)
  pub written_within : d.written ≤ most_written
  pub held_within : characters_held d ≤ most_held

-- ---- together with the characters

-- each character of each text of a table is one of the first n
abbrev pub AllWithin : {K : Type 0} → ℕ → List (K × List Piece) → Type 0
AllWithin n table = All (λ pieces. AreWithin n (flat pieces)) (values_of table)

-- Each character of a desktop that is kept is one of the first n.
pub record IsWithin (n : ℕ) (d : KeptDesktop) : Type 0 where
  pub texts : AllWithin n d.texts
  pub files : AllWithin n d.files
  pub copied : AreWithin n (flat d.copied)
  pub deleted : AreWithin n (flat d.deleted)

-- A desktop that is kept, inside an event: each character is one of the source's, of which there are n, and it is
-- shaped, whatever characters it is seen among.
pub record IsBuilt (n : ℕ) (d : KeptDesktop) : Type 0 where
  pub within : IsWithin n d
  pub shaped : (characters : List ℕ) → IsShaped (seen characters d)

-- A desktop that is kept: each character is one of those that were written, and the desktop is sound, whatever
-- characters it is seen among.
pub record IsKeptWhole (d : KeptDesktop) : Type 0 where
  pub within : IsWithin d.written d
  pub sound : (characters : List ℕ) → IsSound (seen characters d)

-- A desktop that is kept is over its characters: they are just those that were written.
pub record IsOver (characters : List ℕ) (d : KeptDesktop) : Type 0 where
  pub counted : length characters ≡ d.written
  pub whole : IsKeptWhole d
