-- The desktop: texts by number, of which text 0 is the log; viewers on the display, each with a menu and a main text;
-- what is marked in them; and files by name. T is the type of a text.
use Rattle.std.specs.Prelude.{ℕ, ◌+◌, List, [], ◌∷◌, length, Option, None}
use Rattle.viewer_tracks.specs.Columns.{Columns, no_viewers}
use Rattle.desktop_definitions.specs.Words.{Look, Piece, default_look, Text, Viewer, Caret, Selection, ClosedViewer}
use Rattle.desktop_definitions.specs.Tables.{Texts, Files, file_named, with_values, lengths}

pub record DesktopOf (T : Type 0) : Type 0 where
  -- by rising numbers
  pub texts : Texts T
  -- by rising ids, the one that was closed last among them
  pub viewers : List (ℕ × Viewer)
  pub columns : Columns
  pub caret : Option Caret
  -- from the oldest to the newest
  pub selections : List Selection
  -- a column of characters and a row of the display
  pub marker : Option (ℕ × ℕ)
  pub closed : Option ClosedViewer
  -- by rising names
  pub files : Files T
  -- the buffers of what was copied and of what was deleted last
  pub copied : T
  pub deleted : T
  -- the bytes for which a text was searched last
  pub pattern : List ℕ
  -- in which characters are typed
  pub look : Look
  -- how many characters count as written: those that were, since the ones that no text had were last given up
  pub written : ℕ

-- the desktop as it is seen: a text is bytes in their looks
abbrev pub Desktop : Type 0
Desktop = DesktopOf (Text ℕ)

-- the desktop as it is kept: a text is pieces of the characters
abbrev pub KeptDesktop : Type 0
KeptDesktop = DesktopOf (List Piece)

-- an empty log, and nothing else
unfoldable pub empty_desktop : {X : Type 0} → DesktopOf (List X)
empty_desktop = record {
  texts = (0, []) ∷ [];
  viewers = [];
  columns = no_viewers;
  caret = None;
  selections = [];
  marker = None;
  closed = None;
  files = [];
  copied = [];
  deleted = [];
  pattern = [];
  look = default_look;
  written = 0;
}

-- the desktop with f of each text
abbrev pub with_texts : {T U : Type 0} → (T → U) → DesktopOf T → DesktopOf U
with_texts f d = record {
  texts = with_values f d.texts;
  viewers = d.viewers;
  columns = d.columns;
  caret = d.caret;
  selections = d.selections;
  marker = d.marker;
  closed = d.closed;
  files = with_values f d.files;
  copied = f d.copied;
  deleted = f d.deleted;
  pattern = d.pattern;
  look = d.look;
  written = d.written;
}

-- the text of the file of a name
unfoldable pub file_of : {T : Type 0} → DesktopOf T → List ℕ → Option T
file_of d name = file_named d.files name

-- how many characters stand in all texts, files and both buffers
unfoldable pub characters_held : Desktop → ℕ
characters_held d = lengths d.texts + lengths d.files + length d.copied + length d.deleted
