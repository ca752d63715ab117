-- Rows of screens of one viewer, with texts, a caret, a selection and the marker, proved by computing.
use Rattle.std.specs.Prelude.{◌≡◌, ℕ, List, [], ◌∷◌, ◌++◌, map, take, Option, Some, None, codes, refl}
use Rattle.viewer_tracks.specs.Viewers.{viewer_at}
use Rattle.viewer_tracks.specs.Columns.{track_of}
use Rattle.screen_pictures.specs.Picture.{picture}
use Rattle.screen_pictures.specs.Screen.{values}
use Rattle.screen_pictures.specs.Bytes.{shown_byte}
use Rattle.desktop_definitions.specs.Desktop.{Desktop, empty_desktop}
use Rattle.desktop_definitions.specs.Change.{plain_text}
use Rattle.desktop_definitions.specs.Shown.{shown_screen}
use Rattle.desk_tests.proofs.StepWords.{empty, entry, columns, viewer, caret, selection, Row, rows_of, shown}
use Rattle.desk_tests.proofs.StepWords.{row_wanted, filler, bar, menu, hyphens, body, blanks, selected, at_caret}
use Rattle.desk_tests.proofs.StepWords.{at_edge, at_marker}

-- viewer 1 with its menu and its text from a character on, in the user's column
abbrev pub in_user : List ℕ → List ℕ → ℕ → Desktop
in_user line written org = record empty {
  texts = (0, []) ∷ (1, plain_text written) ∷ (2, plain_text line) ∷ [];
  viewers = (1, viewer 2 1 org) ∷ [];
  columns = columns (entry 1 32 ∷ []) [];
}

-- and in the system's
abbrev pub in_system : Desktop
in_system = record (in_user (codes "T") (codes "HelabHello") 0) { columns = columns [] (entry 1 32 ∷ []) }

abbrev pub line : List ℕ
line = codes "A.Text | System.Close System.Copy Edit.Search Edit.Store"

abbrev pub long : List ℕ
long = codes "0123456789012345678901234567890123456789012345678X"

abbrev pub texts_of_viewers : List Row
texts_of_viewers =
    rows_of (in_user line (codes "Hello") 0) (
    (31, menu "A.Text | System.Close System.Copy Edit.Search Edit" ++ filler 30) ∷
    (30, bar ++ body "Hello" ++ blanks 44 ++ filler 30) ∷
    (29, bar ++ blanks 49 ++ filler 30) ∷
    (0, bar ++ blanks 49 ++ filler 30) ∷
    []) ++
    rows_of in_system (
    (31, filler 50 ++ menu "T" ++ hyphens 29) ∷
    (30, filler 50 ++ bar ++ body "HelabHello" ++ blanks 19) ∷
    []) ++
    rows_of (in_user (codes "Ed" ++ 1 ∷ codes "\tx\ry") (codes "a\tb\rc" ++ 128 ∷ 127 ∷ codes "\r\rd") 0) (
    (31, menu "Ed? x" ++ hyphens 45 ++ filler 30) ∷
    (30, bar ++ body "a   b" ++ blanks 44 ++ filler 30) ∷
    (29, bar ++ body "c??" ++ blanks 46 ++ filler 30) ∷
    (28, bar ++ blanks 49 ++ filler 30) ∷
    (27, bar ++ body "d" ++ blanks 48 ++ filler 30) ∷
    (26, bar ++ blanks 49 ++ filler 30) ∷
    []) ++
    rows_of (in_user [] long 0) (
    (31, hyphens 50 ++ filler 30) ∷
    (30, bar ++ body "012345678901234567890123456789012345678901234567" ++ at_edge (body "8") ++ filler 30) ∷
    (29, bar ++ blanks 49 ++ filler 30) ∷
    []) ++
    rows_of (in_user [] (take 49 long ++ codes "\r" ++ take 48 long ++ codes "\t") 0) (
    (30, bar ++ body "0123456789012345678901234567890123456789012345678" ++ filler 30) ∷
    (29, bar ++ body "012345678901234567890123456789012345678901234567" ++ at_edge (body " ") ++ filler 30) ∷
    []) ++
    rows_of (in_user line (codes "Hello\rWorld") 6) (
    (30, bar ++ body "World" ++ blanks 44 ++ filler 30) ∷
    (29, bar ++ blanks 49 ++ filler 30) ∷
    [])

-- a viewer with a caret, a selection and the marker
abbrev pub marked : List ℕ → Option ℕ → Option (ℕ × ℕ) → Option (ℕ × ℕ) → Desktop
marked written position stretch marker = record (in_user line written 0) {
  caret = elim position [ Some p ↦ caret 1 p | None ↦ None ];
  selections = elim stretch [ Some s ↦ selection 1 s.0 s.1 ∷ [] | None ↦ [] ];
  marker = marker;
}

-- The first mark that holds counts: the marker, then a caret, then a selected character. A tabulator has all its cells
-- selected and a carriage return none, and a caret past the frame's width or past the text isn't shown.
abbrev pub marks_of_viewers : List Row
marks_of_viewers =
    rows_of (marked (codes "Hello") (Some 5) None None) (
    (30, bar ++ body "Hello" ++ at_caret " " ++ blanks 43 ++ filler 30) ∷
    []) ++
    rows_of (marked (codes "Hello") (Some 5) None (Some (6, 30))) (
    (30, bar ++ body "Hello" ++ at_marker " " ++ blanks 43 ++ filler 30) ∷
    []) ++
    rows_of (marked (codes "Hello") (Some 2) (Some (1, 4)) None) (
    (30, bar ++ body "H" ++ selected "e" ++ at_caret "l" ++ selected "l" ++ body "o" ++ blanks 44 ++ filler 30) ∷
    []) ++
    rows_of (marked (codes "a\tb\rcd") None (Some (0, 5)) (Some (0, 31))) (
    (31, at_marker "A" ++ menu ".Text | System.Close System.Copy Edit.Search Edit" ++ filler 30) ∷
    (30, bar ++ selected "a   b" ++ blanks 44 ++ filler 30) ∷
    (29, bar ++ selected "c" ++ body "d" ++ blanks 47 ++ filler 30) ∷
    []) ++
    rows_of (marked (codes "ab\rcd") (Some 3) None (Some (79, 0))) (
    (29, bar ++ at_caret "c" ++ body "d" ++ blanks 47 ++ filler 30) ∷
    (0, bar ++ blanks 49 ++ filler 29 ++ at_marker " ") ∷
    []) ++
    rows_of (marked long (Some 48) (Some (47, 50)) None) (
    (30, bar ++ body "01234567890123456789012345678901234567890123456" ++ selected "7" ++ at_edge (at_caret "8") ++ filler 30) ∷
    []) ++
    rows_of (marked long (Some 49) None None) (
    (30, bar ++ body "012345678901234567890123456789012345678901234567" ++ at_edge (body "8") ++ filler 30) ∷
    []) ++
    rows_of (marked (codes "Hello") (Some 6) None None) (
    (30, bar ++ body "Hello" ++ blanks 44 ++ filler 30) ∷
    [])

pub texts_are_shown : map shown texts_of_viewers ≡ map row_wanted texts_of_viewers
unfolding shown_screen picture values shown_byte viewer_at track_of empty_desktop
texts_are_shown = refl

pub marks_are_shown : map shown marks_of_viewers ≡ map row_wanted marks_of_viewers
unfolding shown_screen picture values shown_byte viewer_at track_of empty_desktop
marks_are_shown = refl
