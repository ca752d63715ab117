-- What a change of a text does to the frames that show it, and how a frame shows a position.
use Rattle.std.specs.Prelude.{ℕ, ◌+◌, ◌-◌, ◌==◌, nat_lt, if◌then◌else◌, List, [], ◌∷◌, length, map}
use Rattle.std.specs.Map.{set_value}
use Rattle.piece_ring.specs.Text.{inserted, deleted, looks_changed}
use Rattle.text_frames.specs.Rules.{changed_org, shown_org}
use Rattle.desktop_definitions.specs.Words.{nat_cmp, is_at, Look, default_look, Text, Viewer, Caret, Selection}
use Rattle.desktop_definitions.specs.Tables.{with_values}
use Rattle.desktop_definitions.specs.Desktop.{DesktopOf, Desktop}
use Rattle.desktop_definitions.specs.Viewers.{viewer_of, shows, with_org, rows_of, with_caret, unmarked, with_selection}
use Rattle.desktop_definitions.specs.Viewers.{text_of, main_of}

-- bytes in a look, and in the default one
abbrev pub in_look : Look → List ℕ → Text ℕ
in_look look bytes = map (λ b. (b, look)) bytes

abbrev pub plain_text : List ℕ → Text ℕ
plain_text bytes = in_look default_look bytes

abbrev pub bytes_of : Text ℕ → List ℕ
bytes_of text = map (λ c. c.0) text

module _ {T : Type 0} where
  -- the text of that number, which is there, becomes this one
  abbrev pub with_text : DesktopOf T → ℕ → T → DesktopOf T
  with_text d n text = record d { texts = set_value (is_at (nat_cmp n)) d.texts text }

  -- and the viewers these; its frames lose caret and selection
  abbrev pub edited : DesktopOf T → ℕ → T → List (ℕ × Viewer) → DesktopOf T
  edited d n text viewers = record (unmarked (shows d n) (with_text d n text)) { viewers = viewers }

-- a viewer after a change of the text of a number, which now has these bytes: so many were put in at p, or so many from
-- p on taken out
abbrev pub following_viewer : ℕ → List ℕ → ℕ → ℕ → ℕ → Viewer → Viewer
following_viewer n bytes p more fewer viewer =
    if viewer.main == n then record viewer { org = changed_org bytes p more fewer viewer.org }
    else viewer

-- The text of that number became this one, as so many characters were put in at p or so many from p on taken out: each
-- frame that shows it loses caret and selection, and follows its first character.
unfoldable pub after_change : Desktop → ℕ → Text ℕ → ℕ → ℕ → ℕ → Desktop
after_change d n text p more fewer =
    edited d n text (with_values (following_viewer n (bytes_of text) p more fewer) d.viewers)

-- characters are put into a text at p; nothing changes where there are none
unfoldable pub insertion : Desktop → ℕ → ℕ → Text ℕ → Desktop
insertion d n p [] = d
insertion d n p (c ∷ more) =
    after_change d n (inserted p (c ∷ more) (text_of d n)) p (length (c ∷ more)) 0

-- those from p up to before q are taken out, where there are any
unfoldable pub deletion : Desktop → ℕ → ℕ → ℕ → Desktop
deletion d n p q =
    if nat_lt p q then after_change d n (deleted p q (text_of d n)) p 0 (q - p) else d

-- A selection gets the looks that the selector takes of this one. The frames of its text lose caret and selection, and
-- then it is selected again, as the newest; so it is where no look differs.
unfoldable pub looks_set : Desktop → Selection → ℕ → Look → Desktop
looks_set d s selector new =
    let n = (viewer_of d s.viewer).main in
    let text = looks_changed s.beg s.end selector new (text_of d n) in
    with_selection (edited d n text d.viewers) s

-- a position is shown in a viewer's main frame
unfoldable pub showing : Desktop → ℕ → ℕ → Desktop
showing d v p =
    with_org d v (shown_org (bytes_of (main_of d v)) (rows_of d v) p (viewer_of d v).org)

-- the caret stands at a position, which is shown
abbrev pub caret_shown : Desktop → ℕ → ℕ → Desktop
caret_shown d v p = showing (with_caret d v p) v p

-- characters are put into a viewer's main text at p, and the caret after them
abbrev pub put_in : Desktop → ℕ → ℕ → Text ℕ → Desktop
put_in d v p more = caret_shown (insertion d (viewer_of d v).main p more) v (p + length more)

-- the same at the caret, where there is something to put
abbrev pub put_at_caret : Desktop → Text ℕ → Caret → Desktop
put_at_caret d [] c = d
put_at_caret d (first ∷ more) c = put_in d c.viewer c.position (first ∷ more)

-- a viewer's stretch is taken out, and the caret stands where it was
abbrev pub cut_out : Desktop → Selection → Desktop
cut_out d s = caret_shown (deletion d (viewer_of d s.viewer).main s.beg s.end) s.viewer s.beg

-- n characters more were written
abbrev pub more_written : {T : Type 0} → DesktopOf T → ℕ → DesktopOf T
more_written d n = record d { written = d.written + n }
