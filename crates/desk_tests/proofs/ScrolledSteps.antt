-- Steps from a desktop that is scrolled: what each event does, what the screen shows, and what is listed, as another
-- model of it works them out.
use Rattle.std.specs.Prelude.{ℕ, List, [], ◌∷◌, ◌++◌, None, codes}
use Rattle.viewer_tracks.specs.Columns.{Columns}
use Rattle.event_bytes.specs.declared.event.Event.TheVariants.{Typed, Key, Point}
use Rattle.event_bytes.specs.declared.keys.Key.TheVariants.{Back, Copy, Paste, Cut, Escape}
use Rattle.event_bytes.specs.declared.keys.Keys.TheVariants.{Left, LeftMiddle, Middle, Right, RightLeft, RightMiddle}
use Rattle.desktop_definitions.specs.declared.entry.Entry.TheVariants.{Viewer as ViewerEntry, Written}
use Rattle.desktop_definitions.specs.Desktop.{Desktop}
use Rattle.desk_tests.proofs.StepWords.{Case, done, click, clicks_in_bar, clicks_for_caret, empty, chars, entry}
use Rattle.desk_tests.proofs.StepWords.{columns, viewer, caret, selection, edited, scrolled as scrolled_to, without}
use Rattle.desk_tests.proofs.StepWords.{Listing, Row, rows_of, filler, bar, menu, hyphens, body, blanks}
use Prim.Native.String.{String}

-- the lower viewer in the user track, and the other one, by their heights
abbrev pub heights : ℕ → ℕ → Columns
heights low high = columns (entry 1 low ∷ entry 0 high ∷ []) []

-- A viewer that shows the middle of a text, above one of one row.
abbrev pub scrolled : Desktop
scrolled = record empty {
  texts = (0, []) ∷ (1, chars "l0\rl1\rl2\rl3\rl4\rl5\rl6\rl7\rl8\rl9\rl10\rl11") ∷ (2, chars "Long") ∷
      (3, chars "Low") ∷ [];
  viewers = (0, viewer 2 1 18) ∷ (1, viewer 3 1 6) ∷ [];
  columns = heights 1 4;
  caret = caret 0 4;
  selections = selection 1 7 20 ∷ [];
  copied = chars "k\rk";
  written = 41;
}

-- other characters in its text, of which none is selected then, and the caret there
abbrev pub changed : String → ℕ → Desktop
changed written at = edited scrolled 1 (chars written) (caret 0 at) []

-- the two viewers show their text from there on
abbrev pub from : Desktop → ℕ → ℕ → Desktop
from d high low = scrolled_to (scrolled_to d 0 high) 1 low

-- typing and keys
abbrev pub keys : List Case
keys =
    done scrolled (Typed (codes "a"))
    (from (record (changed "l0\rla1\rl2\rl3\rl4\rl5\rl6\rl7\rl8\rl9\rl10\rl11" 5) { written = 42 }) 0 7) ∷
    done scrolled (Typed (codes "\r"))
    (from (record (changed "l0\rl\r1\rl2\rl3\rl4\rl5\rl6\rl7\rl8\rl9\rl10\rl11" 5) { written = 42 }) 3 7) ∷
    done scrolled (Typed (codes "xy\tz\r"))
    (from (record (changed "l0\rlxy\tz\r1\rl2\rl3\rl4\rl5\rl6\rl7\rl8\rl9\rl10\rl11" 9) { written = 46 }) 3 11) ∷
    done scrolled (Key Back) (from (changed "l0\r1\rl2\rl3\rl4\rl5\rl6\rl7\rl8\rl9\rl10\rl11" 3) 0 5) ∷
    done scrolled (Key Copy) (record scrolled { copied = chars "2\rl3\rl4\rl5\rl6" }) ∷
    done scrolled (Key Paste) (from (changed "l0\rlk\rk1\rl2\rl3\rl4\rl5\rl6\rl7\rl8\rl9\rl10\rl11" 7) 3 9) ∷
    done scrolled (Key Cut)
    (from (record (changed "l0\rl1\rl\rl7\rl8\rl9\rl10\rl11" 0) {
      caret = caret 1 7;
      copied = chars "2\rl3\rl4\rl5\rl6";
    }) 6 6) ∷
    done scrolled (Key Escape) (record scrolled { caret = None; selections = [] }) ∷
    []

-- in a scroll bar
abbrev pub bars : List Case
bars = clicks_in_bar scrolled 0 0
    ((Left, 3, 18) ∷ (Left, 2, 21) ∷ (Left, 1, 24) ∷ (Middle, 3, 0) ∷ (Middle, 2, 12) ∷ (Middle, 1, 24) ∷
    (Right, 2, 0) ∷ [])

-- in a text
abbrev pub texts : List Case
texts =
    clicks_for_caret scrolled Left ((1, 3, 0, 18) ∷ (2, 1, 0, 25) ∷ (30, 2, 0, 23) ∷ []) ++
    done scrolled (click LeftMiddle 1 3)
    (from (changed "l0\rl1\rl2\rl3\rl4\rl5\r2\rl3\rl4\rl5\rl6l6\rl7\rl8\rl9\rl10\rl11" 31) 26 6) ∷
    done scrolled (click LeftMiddle 1 1)
    (from (changed "l0\rl1\rl2\rl3\rl4\rl5\rl6\rl7\r2\rl3\rl4\rl5\rl6l8\rl9\rl10\rl11" 37) 32 6) ∷
    done scrolled (click LeftMiddle 30 1)
    (from (changed "l0\rl1\rl2\rl3\rl4\rl5\rl6\rl7\rl82\rl3\rl4\rl5\rl6\rl9\rl10\rl11" 39) 34 6) ∷
    done scrolled (Point Right 1 3 30 1)
    (record scrolled { selections = scrolled.selections ++ selection 0 18 27 ∷ [] }) ∷
    done scrolled (Point RightLeft 1 3 30 3)
    (record (changed "l0\rl1\rl2\rl3\rl4\rl5\rl7\rl8\rl9\rl10\rl11" 18) { deleted = chars "l6\r" }) ∷
    done scrolled (Point RightLeft 1 3 30 1)
    (record (changed "l0\rl1\rl2\rl3\rl4\rl5\rl9\rl10\rl11" 18) { deleted = chars "l6\rl7\rl8\r" }) ∷
    done scrolled (click RightMiddle 1 3)
    (from (changed "l0\rll1\rl2\rl3\rl4\rl5\rl6\rl7\rl8\rl9\rl10\rl11" 5) 0 7) ∷
    done scrolled (Point RightMiddle 2 3 1 1)
    (from (changed "l0\rl6\rl7\rl1\rl2\rl3\rl4\rl5\rl6\rl7\rl8\rl9\rl10\rl11" 10) 6 12) ∷
    []

-- in a menu
abbrev pub menus : List Case
menus =
    done scrolled (Point Left 9 4 9 1) (record scrolled { columns = heights 1 1 }) ∷
    done scrolled (Point Left 9 0 9 3) (record scrolled { columns = heights 4 1 }) ∷
    done scrolled (Point Left 9 0 9 31) (record scrolled { columns = heights 4 1 }) ∷
    done scrolled (Point Left 9 4 9 31) (record scrolled { columns = heights 1 31 }) ∷
    done scrolled (Point LeftMiddle 9 0 9 4)
    (record (without scrolled (2 ∷ []) (0 ∷ [])) { columns = columns (entry 1 5 ∷ []) []; caret = None }) ∷
    done scrolled (Point LeftMiddle 9 4 9 0)
    (record (without scrolled (3 ∷ []) (1 ∷ [])) { columns = columns (entry 0 1 ∷ []) []; selections = [] }) ∷
    done scrolled (Point LeftMiddle 9 4 70 31)
    (record scrolled { columns = columns (entry 1 1 ∷ []) (entry 0 32 ∷ []) }) ∷
    []

abbrev pub scrolled_steps : List Case
scrolled_steps = keys ++ bars ++ texts ++ menus

-- the rows of its screen that show more than blanks, from the bottom up
abbrev pub scrolled_rows : List Row
scrolled_rows = rows_of scrolled (
    (0, menu "Low" ++ hyphens 47 ++ filler 30) ∷
    (1, bar ++ body "l8" ++ blanks 47 ++ filler 30) ∷
    (2, bar ++ body "l7" ++ blanks 47 ++ filler 30) ∷
    (3, bar ++ body "l6" ++ blanks 47 ++ filler 30) ∷
    (4, menu "Long" ++ hyphens 46 ++ filler 30) ∷
    [])

-- and its list
abbrev pub scrolled_listing : Listing
scrolled_listing = (
  scrolled,
  ViewerEntry 0 0 1 (codes "Low") 37 ∷ ViewerEntry 0 1 5 (codes "Long") 37 ∷ Written 41 ∷ [],
)
