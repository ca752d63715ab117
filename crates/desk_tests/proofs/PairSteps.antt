-- Steps from a desktop with two texts: what each event does, what the screen shows, and what is listed, as another
-- model of it works them out.
use Rattle.std.specs.Prelude.{◌-◌, ℕ, List, [], ◌∷◌, ◌++◌, Some, None, codes}
use Rattle.piece_ring.specs.Text.{Text}
use Rattle.viewer_tracks.specs.Columns.{Columns}
use Rattle.event_bytes.specs.declared.event.Event.TheVariants.{Typed, Key, Mark, Point, File}
use Rattle.event_bytes.specs.declared.keys.Key.TheVariants.{Back, Copy, Paste, Cut, Escape}
use Rattle.event_bytes.specs.declared.keys.Keys.TheVariants.{Left, LeftMiddle, LeftRight, Middle, MiddleLeft}
use Rattle.event_bytes.specs.declared.keys.Keys.TheVariants.{MiddleRight, Right, RightLeft, RightMiddle}
use Rattle.desktop_definitions.specs.declared.entry.Entry.TheVariants.{File as FileEntry, Viewer as ViewerEntry}
use Rattle.desktop_definitions.specs.declared.entry.Entry.TheVariants.{Written}
use Rattle.desktop_definitions.specs.Limits.{no_selection, no_command, full, outside, most_written}
use Rattle.desktop_definitions.specs.Desktop.{Desktop}
use Rattle.desktop_definitions.specs.Change.{plain_text}
use Rattle.desktop_definitions.specs.Opening.{menu_line}
use Rattle.desk_tests.proofs.StepWords.{Case, done, refused, unchanged, click, idle, clicks_in_bar, clicks_for_caret}
use Rattle.desk_tests.proofs.StepWords.{empty, chars, entry, columns, viewer, caret, selection, edited, with_document}
use Rattle.desk_tests.proofs.StepWords.{without, Listing, Row, rows_of, filler, bar, menu, body, blanks, selected}
use Rattle.desk_tests.proofs.StepWords.{at_caret, at_marker}
use Prim.Native.String.{String}

abbrev pub tool_name : List ℕ
tool_name = codes "System.Tool"

abbrev pub tool_text : Text ℕ
tool_text = chars "four\rfive five\r\rsix"

-- two viewers in the system track, of these heights
abbrev pub heights : ℕ → ℕ → Columns
heights low high = columns [] (entry 0 low ∷ entry 1 high ∷ [])

-- Two viewers, each on a text of its own, the upper one on the file that it shows.
abbrev pub pair : Desktop
pair = record empty {
  texts = (0, []) ∷ (1, chars "one\r\ttwo\rthree") ∷ (2, plain_text (menu_line tool_name)) ∷ (3, tool_text) ∷
      (4, plain_text (menu_line tool_name)) ∷ [];
  viewers = (0, viewer 2 1 0) ∷ (1, viewer 4 3 0) ∷ [];
  columns = heights 16 16;
  caret = caret 0 5;
  selections = selection 1 0 3 ∷ [];
  marker = Some (55, 29);
  files = (tool_name, tool_text) ∷ [];
  copied = chars "fou";
  written = 155;
}

-- other characters in the text of the lower viewer, and the caret there
abbrev pub lower : Desktop → String → ℕ → Desktop
lower d written at = edited d 1 (chars written) (caret 0 at) d.selections

-- and in that of the upper one, in which the selection goes with them
abbrev pub upper : Desktop → String → ℕ → Desktop
upper d written at = edited d 3 (chars written) (caret 1 at) []

-- typing and keys
abbrev pub keys : List Case
keys =
    done pair (Typed (codes "a")) (record (lower pair "one\r\tatwo\rthree" 6) { written = 156 }) ∷
    done pair (Typed (codes "\r")) (record (lower pair "one\r\t\rtwo\rthree" 6) { written = 156 }) ∷
    done pair (Typed (codes "xy\tz\r")) (record (lower pair "one\r\txy\tz\rtwo\rthree" 10) { written = 160 }) ∷
    done pair (Key Back) (lower pair "one\rtwo\rthree" 4) ∷
    unchanged pair (Key Copy) ∷
    done pair (Key Paste) (lower pair "one\r\tfoutwo\rthree" 8) ∷
    done pair (Key Cut) (upper pair "r\rfive five\r\rsix" 0) ∷
    done pair (Key Escape) (record pair { caret = None; selections = []; marker = None }) ∷
    []

-- files and the marker
abbrev pub files_and_marks : List Case
files_and_marks =
    done pair (File tool_name ([])) (record pair { files = (tool_name, []) ∷ [] }) ∷
    done pair (File (codes "A.T") (codes "new\r"))
    (record pair { files = (codes "A.T", chars "new\r") ∷ pair.files; written = 159 }) ∷
    done pair (File (codes "Z.9") (codes "q"))
    (record pair { files = pair.files ++ (codes "Z.9", chars "q") ∷ []; written = 156 }) ∷
    done pair (Mark 0 0) (record pair { marker = Some (0, 0) }) ∷
    done pair (Mark 79 31) (record pair { marker = Some (79, 31) }) ∷
    refused pair (Mark 80 0) outside ∷
    refused pair (Mark 0 32) outside ∷
    refused pair (Mark 255 255) outside ∷
    []

-- outside the display
abbrev pub points_outside : List Case
points_outside =
    refused pair (Point Left 80 0 0 0) outside ∷
    refused pair (Point Left 0 32 0 0) outside ∷
    refused pair (Point Middle 0 0 80 0) outside ∷
    refused pair (Point MiddleLeft 60 30 0 32) outside ∷
    refused pair (Point RightMiddle 255 255 255 255) outside ∷
    []

-- the tool text in a viewer of the user track, of that height
abbrev pub tool_opened : ℕ → Desktop
tool_opened height = record (with_document pair 2 5 tool_name tool_text) {
  columns = columns (entry 2 height ∷ []) (entry 0 16 ∷ entry 1 16 ∷ []);
  written = 216;
}

-- in a filler
abbrev pub fillers : List Case
fillers =
    done pair (Point Middle 3 3 3 3) (tool_opened 4) ∷
    done pair (Point Middle 49 31 60 2) (tool_opened 32) ∷
    done pair (Point Middle 0 0 0 0) (tool_opened 1) ∷
    idle pair (λ keys. Point keys 3 3 60 30)
    (Left ∷ LeftMiddle ∷ LeftRight ∷ MiddleLeft ∷ MiddleRight ∷ Right ∷ RightLeft ∷ RightMiddle ∷ [])

-- in a menu
abbrev pub menus : List Case
menus =
    done pair (Point Left 60 31 0 20) (record pair { columns = heights 16 5 }) ∷
    unchanged pair (Point Left 60 31 60 15) ∷
    done pair (Point Left 79 15 60 31) (record pair { columns = heights 31 1 }) ∷
    done pair (Point Left 50 15 50 0) (record pair { columns = heights 1 31 }) ∷
    unchanged pair (Point Left 60 15 60 15) ∷
    unchanged pair (Point LeftMiddle 60 31 60 31) ∷
    done pair (Point LeftMiddle 60 31 52 15)
    (record (without pair (1 ∷ 2 ∷ []) (0 ∷ [])) { columns = columns [] (entry 1 16 ∷ []); caret = None }) ∷
    done pair (Point LeftMiddle 60 15 5 9) (record pair { columns = columns (entry 0 10 ∷ []) (entry 1 32 ∷ []) }) ∷
    done pair (Point LeftMiddle 60 31 60 0) (record pair { columns = columns [] (entry 1 1 ∷ entry 0 15 ∷ []) }) ∷
    done pair (Point LeftMiddle 60 15 60 31)
    (record (without pair (3 ∷ 4 ∷ []) (1 ∷ [])) { columns = columns [] (entry 0 32 ∷ []); selections = [] }) ∷
    done pair (Point LeftMiddle 60 15 52 20) (record pair { columns = heights 21 11 }) ∷
    refused pair (Point Middle 60 31 60 31) no_command ∷
    refused pair (Point Middle 60 15 0 0) no_command ∷
    idle pair (λ keys. Point keys 60 31 60 30)
    (LeftRight ∷ MiddleLeft ∷ MiddleRight ∷ Right ∷ RightLeft ∷ RightMiddle ∷ [])

-- in a scroll bar
abbrev pub bars : List Case
bars =
    clicks_in_bar pair 1 50
    ((Left, 30, 0) ∷ (Left, 28, 15) ∷ (Left, 26, 0) ∷ (Middle, 30, 0) ∷ (Middle, 23, 5) ∷ (Middle, 16, 16) ∷
    (Right, 20, 0) ∷ []) ++
    clicks_in_bar pair 0 50 ((Left, 12, 9) ∷ []) ++
    done pair (Point Left 50 27 0 0) (record pair { viewers = (0, viewer 2 1 0) ∷ (1, viewer 4 3 16) ∷ [] }) ∷
    done pair (Point Middle 50 0 79 31) (record pair { viewers = (0, viewer 2 1 9) ∷ (1, viewer 4 3 0) ∷ [] }) ∷
    idle pair (λ keys. Point keys 50 28 50 28)
    (LeftMiddle ∷ LeftRight ∷ MiddleLeft ∷ MiddleRight ∷ RightLeft ∷ RightMiddle ∷ [])

-- in a text, the left key first
abbrev pub texts_left : List Case
texts_left =
    clicks_for_caret pair Left
    ((51, 30, 1, 0) ∷ (55, 30, 1, 4) ∷ (79, 29, 1, 14) ∷ (60, 16, 1, 19) ∷ (53, 13, 0, 4) ∷ (79, 0, 0, 14) ∷ []) ++
    done pair (Point Left 52 30 3 0) (record pair { caret = caret 1 19 }) ∷
    done pair (Point Left 52 30 79 31) (record pair { caret = caret 1 4 }) ∷
    done pair (click LeftMiddle 51 14) (lower pair "fouone\r\ttwo\rthree" 3) ∷
    done pair (click LeftMiddle 51 30) (upper pair "foufour\rfive five\r\rsix" 3) ∷
    done pair (click LeftMiddle 53 30) (upper pair "fofouur\rfive five\r\rsix" 5) ∷
    done pair (click LeftMiddle 52 29) (upper pair "four\rffouive five\r\rsix" 9) ∷
    done pair (click LeftMiddle 79 0) (lower pair "one\r\ttwo\rthreefou" 17) ∷
    clicks_for_caret pair LeftRight ((51, 14, 0, 0) ∷ (52, 29, 1, 6) ∷ (79, 0, 0, 14) ∷ [])

-- in a text, the middle key first
abbrev pub texts_middle : List Case
texts_middle =
    refused pair (click Middle 51 30) no_command ∷
    refused pair (click Middle 51 27) no_command ∷
    refused pair (click Middle 60 20) no_command ∷
    idle pair (λ keys. click keys 51 30) (MiddleLeft ∷ MiddleRight ∷ [])

-- in a text, the right key first
abbrev pub texts_right : List Case
texts_right =
    done pair (Point Right 51 30 52 29) (record pair { selections = selection 1 0 7 ∷ [] }) ∷
    done pair (Point Right 52 29 51 30) (record pair { selections = selection 1 0 7 ∷ [] }) ∷
    done pair (Point Right 51 14 53 13) (record pair { selections = selection 1 0 3 ∷ selection 0 0 5 ∷ [] }) ∷
    done pair (click Right 60 20) (record pair { selections = [] }) ∷
    done pair (Point Right 60 20 53 27) (record pair { selections = selection 1 18 19 ∷ [] }) ∷
    done pair (click Right 79 27) (record pair { selections = [] }) ∷
    done pair (click Right 51 28) (record pair { selections = selection 1 15 16 ∷ [] }) ∷
    done pair (Point RightLeft 51 30 52 29) (record (upper pair "ve five\r\rsix" 0) { deleted = chars "four\rfi" }) ∷
    done pair (Point RightLeft 51 14 53 13) (record (lower pair "two\rthree" 0) { deleted = chars "one\r\t" }) ∷
    refused pair (click RightLeft 60 20) no_selection ∷
    done pair (click RightLeft 51 28) (record (upper pair "four\rfive five\rsix" 15) { deleted = chars "\r" }) ∷
    done pair (Point RightMiddle 51 30 52 29)
    (record (lower pair "one\r\tfour\rfitwo\rthree" 12) { selections = selection 1 0 7 ∷ [] }) ∷
    done pair (Point RightMiddle 51 14 53 13) (lower pair "one\r\tone\r\ttwo\rthree" 10) ∷
    done pair (click RightMiddle 55 13) (lower pair "one\r\tttwo\rthree" 6) ∷
    refused pair (click RightMiddle 60 20) no_selection ∷
    []

-- the same with three characters left to be written
abbrev pub nearly_full : Desktop
nearly_full = record pair { written = most_written - 3 }

-- and with none left
abbrev pub filled : Desktop
filled = record pair { written = most_written }

-- the limit on what counts as written
abbrev pub limits : List Case
limits =
    done nearly_full (Typed (codes "abc")) (lower filled "one\r\tabctwo\rthree" 8) ∷
    refused nearly_full (Typed (codes "abcd")) full ∷
    done nearly_full (File (codes "A.T") (codes "abc"))
    (record filled { files = (codes "A.T", chars "abc") ∷ pair.files }) ∷
    refused nearly_full (File (codes "A.T") (codes "abcd")) full ∷
    done nearly_full (Key Paste) (lower nearly_full "one\r\tfoutwo\rthree" 8) ∷
    done nearly_full (Key Cut) (upper nearly_full "r\rfive five\r\rsix" 0) ∷
    refused nearly_full (click Middle 3 3) full ∷
    done nearly_full (click LeftMiddle 51 30) (upper nearly_full "foufour\rfive five\r\rsix" 3) ∷
    []

abbrev pub pair_steps : List Case
pair_steps = keys ++ files_and_marks ++ points_outside ++ fillers ++ menus ++ bars ++ texts_left ++ texts_middle ++
    texts_right ++ limits

-- the rows of its screen that show more than blanks, from the bottom up
abbrev pub pair_rows : List Row
pair_rows = rows_of pair (
    (12, filler 50 ++ bar ++ body "three" ++ blanks 24) ∷
    (13, filler 50 ++ bar ++ blanks 4 ++ at_caret "t" ++ body "wo" ++ blanks 22) ∷
    (14, filler 50 ++ bar ++ body "one" ++ blanks 26) ∷
    (15, filler 50 ++ menu "System.Tool | System.Close Sys") ∷
    (27, filler 50 ++ bar ++ body "six" ++ blanks 26) ∷
    (29, filler 50 ++ bar ++ body "five" ++ at_marker " " ++ body "five" ++ blanks 20) ∷
    (30, filler 50 ++ bar ++ selected "fou" ++ body "r" ++ blanks 25) ∷
    (31, filler 50 ++ menu "System.Tool | System.Close Sys") ∷
    [])

-- and its list
abbrev pub pair_listing : Listing
pair_listing = (
  pair,
  FileEntry tool_name 19 ∷ ViewerEntry 50 0 16 tool_name 14 ∷ ViewerEntry 50 16 32 tool_name 19 ∷ Written 155 ∷ [],
)
