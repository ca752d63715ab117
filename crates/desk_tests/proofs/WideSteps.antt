-- Steps from a desktop with wide lines: what each event does, what the screen shows, and what is listed, as another
-- model of it works them out.
use Rattle.std.specs.Prelude.{ℕ, List, [], ◌∷◌, ◌++◌, None, codes}
use Rattle.piece_ring.specs.Text.{Text}
use Rattle.event_bytes.specs.declared.event.Event.TheVariants.{Typed, Key, Point}
use Rattle.event_bytes.specs.declared.keys.Key.TheVariants.{Back, Copy, Paste, Cut, Escape}
use Rattle.event_bytes.specs.declared.keys.Keys.TheVariants.{Left, Right, RightLeft}
use Rattle.desktop_definitions.specs.declared.entry.Entry.TheVariants.{Viewer as ViewerEntry, Written}
use Rattle.desktop_definitions.specs.Limits.{no_selection}
use Rattle.desktop_definitions.specs.Desktop.{Desktop}
use Rattle.desk_tests.proofs.StepWords.{Case, done, refused, unchanged, click, clicks_for_caret, empty, chars, entry}
use Rattle.desk_tests.proofs.StepWords.{columns, viewer, caret, selection, edited, Listing, Row, rows_of, filler, bar}
use Rattle.desk_tests.proofs.StepWords.{menu, hyphens, body, at_caret, at_edge}

-- a line longer than its row, up to the caret and behind it, and one with a tabulator at the end of the row
abbrev pub front : Text ℕ
front = chars "abcdefghijklmnopqrstuvwxyzab"

abbrev pub rest : Text ℕ
rest = chars "cdefghijklmnopqrstuvwx\r"

abbrev pub second : Text ℕ
second = chars "abcdefghijklmnopqrstuvwxyz\tx\r"

abbrev pub wide : Desktop
wide = record empty {
  texts = (0, []) ∷ (1, front ++ rest ++ second) ∷ (2, chars "W") ∷ [];
  viewers = (0, viewer 2 1 0) ∷ [];
  columns = columns [] (entry 0 5 ∷ []);
  caret = caret 0 28;
  written = 100;
}

-- with another text, and the caret in it
abbrev pub changed : Text ℕ → ℕ → Desktop
changed text at = edited wide 1 text (caret 0 at) []

-- typing and keys
abbrev pub keys : List Case
keys =
    done wide (Typed (codes "a"))
    (record (changed (front ++ chars "a" ++ rest ++ second) 29) { written = 101 }) ∷
    done wide (Typed (codes "\r"))
    (record (changed (front ++ chars "\r" ++ rest ++ second) 29) { written = 101 }) ∷
    done wide (Typed (codes "xy\tz\r"))
    (record (changed (front ++ chars "xy\tz\r" ++ rest ++ second) 33) { written = 105 }) ∷
    done wide (Key Back) (changed (chars "abcdefghijklmnopqrstuvwxyza" ++ rest ++ second) 27) ∷
    refused wide (Key Copy) no_selection ∷
    unchanged wide (Key Paste) ∷
    refused wide (Key Cut) no_selection ∷
    done wide (Key Escape) (record wide { caret = None }) ∷
    []

-- in a text
abbrev pub texts : List Case
texts =
    unchanged wide (click Left 79 3) ∷
    clicks_for_caret wide Left ((78, 3, 0, 27) ∷ (79, 2, 0, 78) ∷ (77, 2, 0, 77) ∷ (60, 1, 0, 80) ∷ []) ++
    done wide (Point Right 79 3 51 2) (record wide { selections = selection 0 28 52 ∷ [] }) ∷
    done wide (click Right 79 2) (record wide { selections = selection 0 78 79 ∷ [] }) ∷
    done wide (Point RightLeft 78 2 79 2)
    (record (changed (front ++ rest ++ chars "abcdefghijklmnopqrstuvwxyz\r") 77) { deleted = chars "\tx" }) ∷
    []

abbrev pub wide_steps : List Case
wide_steps = keys ++ texts

-- the rows of its screen that show more than blanks, from the bottom up
abbrev pub wide_rows : List Row
wide_rows = rows_of wide (
    (2, filler 50 ++ bar ++ body "abcdefghijklmnopqrstuvwxyz  x") ∷
    (3, filler 50 ++ bar ++ body "abcdefghijklmnopqrstuvwxyzab" ++ at_edge (at_caret "c")) ∷
    (4, filler 50 ++ menu "W" ++ hyphens 29) ∷
    [])

-- and its list
abbrev pub wide_listing : Listing
wide_listing = (wide, ViewerEntry 50 0 5 (codes "W") 80 ∷ Written 100 ∷ [])
