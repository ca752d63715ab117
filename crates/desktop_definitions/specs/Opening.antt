-- New texts and viewers, and texts that nobody shows any more.
use Rattle.std.specs.Prelude.{ℕ, ◌==◌, ◌||◌, not, Bool, List, ◌++◌, length, filter, codes}
use Rattle.std.specs.List.{list_any, position_or_len, range_with_len}
use Rattle.std.specs.BTreeMap.{insert_entry}
use Rattle.desktop_definitions.specs.Words.{nat_cmp, keys_of, Viewer}
use Rattle.desktop_definitions.specs.Tables.{Texts}
use Rattle.desktop_definitions.specs.Desktop.{DesktopOf}
use Rattle.viewer_tracks.specs.declared.display.Track.{Track}
use Rattle.desktop_definitions.specs.Viewers.{opened_at, covered_by}

-- the least number that isn't among these
abbrev pub least_unused : List ℕ → ℕ
least_unused used =
    position_or_len (λ n. not (list_any (λ k. k == n) used)) (range_with_len 0 (length used))

-- the menu of a viewer of that name
abbrev pub menu_line : List ℕ → List ℕ
menu_line name = name ++ codes " | System.Close System.Copy Edit.Search Edit.Store"

-- a text is the log, or one of these viewers shows it
abbrev pub is_shown : List (ℕ × Viewer) → ℕ → Bool
is_shown viewers n = (n == 0) || list_any (λ e. (e.1.menu == n) || (e.1.main == n)) viewers

module _ {T : Type 0} where
  -- a text more, of the least number that no text has
  abbrev pub with_new : Texts T → T → Texts T
  with_new texts text = insert_entry nat_cmp texts (least_unused (keys_of texts)) text

  -- the number of a new text, and the id of a new viewer; what the event gives up still has its own
  abbrev pub new_number : DesktopOf T → ℕ
  new_number d = least_unused (keys_of d.texts)

  abbrev pub new_id : DesktopOf T → ℕ
  new_id d = least_unused (keys_of d.viewers)

  -- a viewer of that menu, which nobody else has, shows the text of a number from a position on
  abbrev pub new_viewer : DesktopOf T → ℕ → ℕ → Viewer
  new_viewer d main org = record { menu = new_number d; main = main; org = org }

  -- A new viewer, which stands nowhere yet, shows the text of a number, which is there, from a position on, under a new
  -- menu.
  abbrev pub with_viewer : DesktopOf T → T → ℕ → ℕ → DesktopOf T
  with_viewer d menu main org = record d {
    texts = with_new d.texts menu;
    viewers = insert_entry nat_cmp d.viewers (new_id d) (new_viewer d main org);
  }

  -- it stands at a cell
  unfoldable pub opening_on : DesktopOf T → T → ℕ → ℕ → ℕ × ℕ → DesktopOf T
  opening_on d menu main org cell = opened_at (with_viewer d menu main org) (new_id d) cell

  -- it has a new track whole, over the one that a column shows
  unfoldable pub opening_over : DesktopOf T → T → ℕ → ℕ → Track → DesktopOf T
  opening_over d menu main org k = covered_by (with_viewer d menu main org) (new_id d) k

  -- A new viewer at a cell shows a new text from its beginning, under a new menu. The main text takes its number first.
  unfoldable pub after_opening : DesktopOf T → T → T → ℕ × ℕ → DesktopOf T
  after_opening d menu main cell =
      opening_on (record d { texts = with_new d.texts main }) menu (new_number d) 0 cell

  -- without the texts that nobody shows
  unfoldable pub without_unshown : DesktopOf T → DesktopOf T
  without_unshown d = record d { texts = filter (λ e. is_shown d.viewers e.0) d.texts }
