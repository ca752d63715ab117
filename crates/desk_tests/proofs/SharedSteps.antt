-- Steps from a desktop where viewers share a text: what each event does, what the screen shows, and what is listed, as
-- another model of it works them out.
use Rattle.std.specs.Prelude.{ℕ, pos, negsuc, List, [], ◌∷◌, ◌++◌, Some, None, codes}
use Rattle.piece_ring.specs.declared.piece.Look.{Look}
use Rattle.piece_ring.specs.Text.{Text}
use Rattle.viewer_tracks.specs.declared.display.Track.TheVariants.{System}
use Rattle.viewer_tracks.specs.Viewers.{Entry}
use Rattle.screen_pictures.specs.declared.cell.Mark.TheVariants.{Selected, Text as InText}
use Rattle.event_bytes.specs.declared.event.Event.TheVariants.{Typed, Key, Point, File}
use Rattle.event_bytes.specs.declared.keys.Key.TheVariants.{Back, Copy, Paste, Cut, Escape}
use Rattle.event_bytes.specs.declared.keys.Keys.TheVariants.{Left, LeftMiddle, LeftRight, Middle, Right, RightLeft}
use Rattle.event_bytes.specs.declared.keys.Keys.TheVariants.{RightMiddle}
use Rattle.desktop_definitions.specs.declared.entry.Entry.TheVariants.{File as FileEntry, Viewer as ViewerEntry}
use Rattle.desktop_definitions.specs.declared.entry.Entry.TheVariants.{Written}
use Rattle.desktop_definitions.specs.declared.viewer.Selection.{Selection}
use Rattle.desktop_definitions.specs.Limits.{no_selection}
use Rattle.desktop_definitions.specs.Desktop.{Desktop}
use Rattle.desktop_definitions.specs.Change.{in_look, plain_text}
use Rattle.desk_tests.proofs.StepWords.{Case, done, refused, unchanged, click, clicks_in_bar, clicks_for_caret, look}
use Rattle.desk_tests.proofs.StepWords.{chars, entry, columns, viewer, caret, selection, closed, edited, scrolled}
use Rattle.desk_tests.proofs.StepWords.{without, texts_with, with_document, Listing, Row, rows_of, cells, filler, bar}
use Rattle.desk_tests.proofs.StepWords.{menu, hyphens, body, blanks, selected, at_marker}
use Prim.Native.String.{String}

-- looks
abbrev pub low : Look
low = look 1 3 (negsuc 4)

abbrev pub high : Look
high = look 4 0 (pos 7)

abbrev pub next_look : Look
next_look = look 2 7 (pos 3)

-- characters in these looks
abbrev pub low_chars : String → Text ℕ
low_chars written = in_look low (codes written)

abbrev pub high_chars : String → Text ℕ
high_chars written = in_look high (codes written)

abbrev pub next_chars : String → Text ℕ
next_chars written = in_look next_look (codes written)

-- texts: the one that viewers share, one of a look of its own with bytes that have no sign, and the tool text
abbrev pub last : Text ℕ
last = chars "f\r\tgh\rij"

abbrev pub unsigned : Text ℕ
unsigned = plain_text (0 ∷ 127 ∷ 200 ∷ [])

abbrev pub marked : Text ℕ
marked = chars "x\ty" ++ high_chars "z" ++ unsigned

abbrev pub tool_name : List ℕ
tool_name = codes "System.Tool"

abbrev pub tool_text : Text ℕ
tool_text = chars "tool " ++ low_chars "text"

-- the oldest selection, which is in the shared text, the next one in the text of a look of its own, and the newest one
-- in the log
abbrev pub oldest : Selection
oldest = selection 0 3 6

abbrev pub middle : Selection
middle = selection 3 1 3

abbrev pub newest : Selection
newest = selection 2 1 8

-- Two viewers and the one that was closed last on one text, others on the log and on a text of a look of its own.
abbrev pub shared : Desktop
shared = record {
  texts = (0, chars "first\rsecond\r") ∷ (1, chars "ab\rc" ++ low_chars "d e" ++ last) ∷ (2, chars "A.T menu") ∷
      (3, chars "A.T copy") ∷ (4, chars "Log") ∷ (5, chars "B.T") ∷ (6, chars "A.T kept") ∷ (7, marked) ∷ [];
  viewers = (0, viewer 2 1 0) ∷ (1, viewer 3 1 9) ∷ (2, viewer 4 0 0) ∷ (3, viewer 5 7 0) ∷ (4, viewer 6 1 3) ∷ [];
  columns = columns (entry 0 12 ∷ entry 3 8 ∷ []) (entry 1 5 ∷ entry 2 10 ∷ []);
  caret = caret 1 5;
  selections = oldest ∷ middle ∷ newest ∷ [];
  marker = Some (70, 3);
  closed = closed 4 System 20;
  files = (codes "A.T", chars "old") ∷ (tool_name, tool_text) ∷ [];
  copied = chars "c" ++ low_chars "\rp";
  deleted = chars "del";
  pattern = codes "ab";
  look = next_look;
  written = 500;
}

-- another shared text, in which no selection is left, and the caret in it
abbrev pub changed : Text ℕ → ℕ → ℕ → Desktop
changed text v at = edited shared 1 text (caret v at) (middle ∷ newest ∷ [])

-- the same by characters at the caret: the second viewer shows them, and all before
abbrev pub put_in : Text ℕ → ℕ → Desktop
put_in new at = scrolled (changed (chars "ab\rc" ++ low_chars "d" ++ new ++ low_chars " e" ++ last) 1 at) 1 0

-- another log, and another text of a look of its own, with the caret there and without the selection there
abbrev pub log_changed : Text ℕ → ℕ → Desktop
log_changed text at = edited shared 0 text (caret 2 at) (oldest ∷ middle ∷ [])

abbrev pub marked_changed : Text ℕ → ℕ → Desktop
marked_changed text at = edited shared 7 text (caret 3 at) (oldest ∷ newest ∷ [])

-- typing and keys
abbrev pub keys : List Case
keys =
    done shared (Typed (codes "a")) (record (put_in (next_chars "a") 6) { written = 501 }) ∷
    done shared (Typed (codes "\r")) (record (put_in (next_chars "\r") 6) { written = 501 }) ∷
    done shared (Typed (codes "xy\tz\r")) (record (put_in (next_chars "xy\tz\r") 10) { written = 505 }) ∷
    done shared (Key Back) (scrolled (changed (chars "ab\rc" ++ low_chars " e" ++ last) 1 4) 1 0) ∷
    done shared (Key Copy) (record shared { copied = chars "irst\rse" }) ∷
    done shared (Key Paste) (put_in (chars "c" ++ low_chars "\rp") 8) ∷
    done shared (Key Cut) (record (log_changed (chars "fcond\r") 1) { copied = chars "irst\rse" }) ∷
    done shared (Key Escape) (record shared { caret = None; selections = []; marker = None }) ∷
    []

-- files
abbrev pub files : List Case
files =
    done shared (File tool_name ([])) (record shared { files = (codes "A.T", chars "old") ∷ (tool_name, []) ∷ [] }) ∷
    done shared (File (codes "A.T") (codes "new\r"))
    (record shared { files = (codes "A.T", chars "new\r") ∷ (tool_name, tool_text) ∷ []; written = 504 }) ∷
    done shared (File (codes "Z.9") (codes "q"))
    (record shared { files = shared.files ++ (codes "Z.9", chars "q") ∷ []; written = 501 }) ∷
    []

-- the tool text in viewer 5, with these columns
abbrev pub tool_opened : List Entry → List Entry → Desktop
tool_opened user system =
    record (with_document shared 5 8 tool_name tool_text) { columns = columns user system; written = 561 }

-- in a filler
abbrev pub fillers : List Case
fillers =
    done shared (click Middle 3 25)
    (tool_opened (entry 0 12 ∷ entry 3 8 ∷ entry 5 6 ∷ []) (entry 1 5 ∷ entry 2 10 ∷ [])) ∷
    done shared (click Middle 79 31)
    (tool_opened (entry 0 12 ∷ entry 3 8 ∷ []) (entry 1 5 ∷ entry 2 10 ∷ entry 5 17 ∷ [])) ∷
    done shared (click Middle 70 15)
    (tool_opened (entry 0 12 ∷ entry 3 8 ∷ []) (entry 1 5 ∷ entry 2 10 ∷ entry 5 1 ∷ [])) ∷
    []

-- other columns
abbrev pub placed : Desktop → List Entry → List Entry → Desktop
placed d user system = record d { columns = columns user system }

-- in a menu
abbrev pub menus : List Case
menus =
    done shared (Point Left 3 11 3 5)
    (placed shared (entry 0 6 ∷ entry 3 14 ∷ []) (entry 1 5 ∷ entry 2 10 ∷ [])) ∷
    done shared (Point Left 3 11 3 31)
    (placed shared (entry 0 19 ∷ entry 3 1 ∷ []) (entry 1 5 ∷ entry 2 10 ∷ [])) ∷
    done shared (Point Left 60 4 60 0)
    (placed shared (entry 0 12 ∷ entry 3 8 ∷ []) (entry 1 1 ∷ entry 2 14 ∷ [])) ∷
    done shared (Point Left 3 19 3 31)
    (placed shared (entry 0 12 ∷ entry 3 20 ∷ []) (entry 1 5 ∷ entry 2 10 ∷ [])) ∷
    done shared (Point LeftMiddle 3 11 3 19)
    (record (placed (without shared (5 ∷ 7 ∷ []) (3 ∷ [])) (entry 0 20 ∷ []) (entry 1 5 ∷ entry 2 10 ∷ [])) {
      selections = oldest ∷ newest ∷ [];
    }) ∷
    done shared (Point LeftMiddle 3 19 70 4)
    (record (placed (without shared (3 ∷ []) (1 ∷ [])) (entry 0 12 ∷ []) (entry 3 5 ∷ entry 2 10 ∷ [])) {
      caret = None;
    }) ∷
    done shared (Point LeftMiddle 60 14 60 31)
    (placed shared (entry 0 12 ∷ entry 3 8 ∷ []) (entry 1 5 ∷ entry 2 27 ∷ [])) ∷
    done shared (Point LeftMiddle 60 4 3 4)
    (placed shared (entry 1 5 ∷ entry 0 7 ∷ entry 3 8 ∷ []) (entry 2 15 ∷ [])) ∷
    []

-- in a scroll bar
abbrev pub bars : List Case
bars =
    clicks_in_bar shared 0 0
    ((Left, 9, 3) ∷ (Left, 8, 9) ∷ (Left, 7, 13) ∷ (Left, 6, 0) ∷ (Middle, 5, 3) ∷ (Right, 3, 0) ∷ []) ++
    clicks_in_bar shared 1 50 ((Left, 2, 13) ∷ (Middle, 1, 3) ∷ (Middle, 3, 0) ∷ (Right, 2, 0) ∷ []) ++
    unchanged shared (click Middle 50 9) ∷
    []

-- in a text, the left key first
abbrev pub texts_left : List Case
texts_left =
    clicks_for_caret shared Left ((2, 9, 0, 4) ∷ (52, 3, 1, 9) ∷ (52, 13, 2, 1) ∷ (2, 18, 3, 1) ∷ []) ++
    done shared (click LeftMiddle 2 9)
    (scrolled (changed (chars "ab\rcirst\rse" ++ low_chars "d e" ++ last) 0 11) 1 16) ∷
    done shared (click LeftMiddle 1 10)
    (scrolled (scrolled (changed (chars "irst\rseab\rc" ++ low_chars "d e" ++ last) 0 7) 1 16) 4 10) ∷
    done shared (click LeftMiddle 52 3)
    (changed (chars "ab\rc" ++ low_chars "d e" ++ chars "f\rirst\rse\tgh\rij") 1 16) ∷
    done shared (click LeftMiddle 55 2)
    (changed (chars "ab\rc" ++ low_chars "d e" ++ last ++ chars "irst\rse") 1 22) ∷
    done shared (click LeftMiddle 52 12) (log_changed (chars "first\rsirst\rseecond\r") 14) ∷
    done shared (click LeftMiddle 2 18)
    (marked_changed (chars "xirst\rse\ty" ++ high_chars "z" ++ unsigned) 8) ∷
    done shared (click LeftMiddle 40 18) (marked_changed (marked ++ chars "irst\rse") 14) ∷
    done shared (click LeftRight 2 9) (record shared {
      texts = texts_with shared 0 (chars "f" ++ low_chars "irst\rse" ++ chars "cond\r");
      caret = caret 0 4;
    }) ∷
    done shared (click LeftRight 6 18) (record shared {
      texts = texts_with shared 0 (chars "f" ++ high_chars "irst\rse" ++ chars "cond\r");
      caret = caret 3 3;
    }) ∷
    clicks_for_caret shared LeftRight ((1, 10, 0, 0) ∷ (52, 13, 2, 1) ∷ (60, 6, 2, 13) ∷ [])

-- in a text, the right key alone
abbrev pub texts_right : List Case
texts_right =
    done shared (Point Right 2 9 1 10) (record shared { selections = middle ∷ newest ∷ selection 0 0 5 ∷ [] }) ∷
    done shared (Point Right 51 3 60 2) (record shared { selections = shared.selections ++ selection 1 9 15 ∷ [] }) ∷
    unchanged shared (click Right 60 0) ∷
    done shared (click Right 1 0) (record shared { selections = middle ∷ newest ∷ [] }) ∷
    done shared (Point Right 52 13 51 11) (record shared { selections = oldest ∷ middle ∷ selection 2 1 13 ∷ [] }) ∷
    done shared (Point Right 6 18 0 0) (record shared { selections = oldest ∷ newest ∷ selection 3 3 7 ∷ [] }) ∷
    []

-- and then the left one
abbrev pub texts_deleted : List Case
texts_deleted =
    done shared (Point RightLeft 2 9 1 10)
    (scrolled (scrolled (record (changed (low_chars " e" ++ last) 0 0) {
      deleted = chars "ab\rc" ++ low_chars "d";
    }) 1 4) 4 0) ∷
    done shared (Point RightLeft 1 10 1 9)
    (scrolled (scrolled (record (changed (low_chars "d e" ++ last) 0 0) { deleted = chars "ab\rc" }) 1 5) 4 0) ∷
    done shared (Point RightLeft 51 3 60 0)
    (record (changed (chars "ab\rc" ++ low_chars "d e" ++ chars "f\r") 1 9) { deleted = chars "\tgh\rij" }) ∷
    done shared (click RightLeft 52 13) (record (log_changed (chars "frst\rsecond\r") 1) { deleted = chars "i" }) ∷
    done shared (Point RightLeft 1 18 20 18) (record (marked_changed [] 0) { deleted = marked }) ∷
    refused shared (click RightLeft 60 0) no_selection ∷
    []

-- or the middle one
abbrev pub texts_copied : List Case
texts_copied =
    done shared (Point RightMiddle 2 9 1 10) (put_in (chars "ab\rc" ++ low_chars "d") 10) ∷
    done shared (Point RightMiddle 51 3 60 0) (put_in (chars "\tgh\rij") 11) ∷
    done shared (Point RightMiddle 52 13 53 12)
    (record (put_in (chars "irst\rsec") 13) { selections = middle ∷ selection 2 1 9 ∷ [] }) ∷
    done shared (Point RightMiddle 1 18 20 18)
    (record (put_in marked 12) { selections = newest ∷ selection 3 0 7 ∷ [] }) ∷
    refused shared (click RightMiddle 60 0) no_selection ∷
    []

abbrev pub shared_steps : List Case
shared_steps = keys ++ files ++ fillers ++ menus ++ bars ++ texts_left ++ texts_right ++ texts_deleted ++ texts_copied

-- the rows of its screen that show more than blanks, from the bottom up
abbrev pub shared_rows : List Row
shared_rows = rows_of shared (
    (2, bar ++ blanks 49 ++ bar ++ body "ij" ++ blanks 27) ∷
    (3, bar ++ blanks 49 ++ bar ++ body "    gh" ++ blanks 13 ++ at_marker " " ++ blanks 9) ∷
    (4, bar ++ blanks 49 ++ menu "A.T copy" ++ hyphens 22) ∷
    (7, bar ++ body "ij" ++ blanks 47 ++ bar ++ blanks 29) ∷
    (8, bar ++ body "    gh" ++ blanks 43 ++ bar ++ blanks 29) ∷ (
      9,
      bar ++ selected "c" ++ cells low Selected (codes "d ") ++ cells low InText (codes "e") ++ body "f" ++
          blanks 44 ++ bar ++ blanks 29,
    ) ∷
    (10, bar ++ body "ab" ++ blanks 47 ++ bar ++ blanks 29) ∷
    (11, menu "A.T menu" ++ hyphens 42 ++ bar ++ blanks 29) ∷
    (12, bar ++ blanks 49 ++ bar ++ selected "se" ++ body "cond" ++ blanks 23) ∷
    (13, bar ++ blanks 49 ++ bar ++ body "f" ++ selected "irst" ++ blanks 24) ∷
    (14, bar ++ blanks 49 ++ menu "Log" ++ hyphens 27) ∷ (
      18,
      bar ++ body "x" ++ selected "   y" ++ cells high InText (codes "z") ++ body "???" ++ blanks 40 ++ filler 30,
    ) ∷
    (19, menu "B.T" ++ hyphens 47 ++ filler 30) ∷
    [])

-- and its list
abbrev pub shared_listing : Listing
shared_listing = (
  shared,
  FileEntry (codes "A.T") 3 ∷ FileEntry tool_name 9 ∷ ViewerEntry 0 0 12 (codes "A.T") 15 ∷
      ViewerEntry 0 12 20 (codes "B.T") 7 ∷ ViewerEntry 50 0 5 (codes "A.T") 15 ∷
      ViewerEntry 50 5 15 (codes "Log") 13 ∷ Written 500 ∷ [],
)
