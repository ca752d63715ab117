-- What each command does to a desktop, once what it takes is known.
use Rattle.std.specs.Prelude.{ℕ, ◌+◌, ◌-◌, ◌/◌, ◌==◌, nat_lt, if◌then◌else◌, List, [], ◌∷◌, ◌++◌, length, take}
use Rattle.std.specs.Prelude.{drop}
use Rattle.std.specs.Prelude.{map, fold, codes, Option, Some, None, option_map, Result, Ok, Err}
use Rattle.std.specs.List.{find, range_with_len}
use Rattle.std.specs.Map.{remove_entry}
use Rattle.std.specs.Str.{bytes_eq}
use Rattle.std.specs.Fmt.{decimal}
use Rattle.piece_ring.specs.Look.{relooked}
use Rattle.readers_scanners.specs.Form.{symbol}
use Rattle.screen_pictures.specs.Bytes.{space}
use Rattle.viewer_tracks.specs.declared.display.Track.TheVariants.{User, System}
use Rattle.viewer_tracks.specs.Display.{left_of}
use Rattle.viewer_tracks.specs.declared.display.TheConstants.{DEPTH}
use Rattle.viewer_tracks.specs.Columns.{stack_of, track_of, placed_bottom, placed_top, after_close, allocated}
use Rattle.command_table.specs.Parameters.{name_in}
use Rattle.command_table.specs.Deciding.{can_be_deleted}
use Rattle.desktop_definitions.specs.Words.{unwrap_or, is_at, keys_of, LookChange, Text, ClosedViewer}
use Rattle.desktop_definitions.specs.Limits.{no_selection, no_file, too_many_files, wrong_symbol}
use Rattle.desktop_definitions.specs.Limits.{not_found, too_deep, too_low, most_pattern}
use Rattle.desktop_definitions.specs.Needs.{needs, unless}
use Rattle.desktop_definitions.specs.Tables.{Files, name_cmp, file_put, has_file_room}
use Rattle.desktop_definitions.specs.Desktop.{DesktopOf, Desktop, file_of, characters_held}
use Rattle.desktop_definitions.specs.Viewers.{viewer_of, text_in, newest, unmarked, without_viewer, opened_at}
use Rattle.desktop_definitions.specs.Viewers.{text_of, main_of, menu_of, selected}
use Rattle.desktop_definitions.specs.Change.{plain_text, bytes_of, looks_set, deletion, caret_shown, more_written}
use Rattle.desktop_definitions.specs.Opening.{menu_line, after_opening, opening_on, opening_over}
use Rattle.desktop_definitions.specs.Shown.{caret_position}
use Rattle.desktop_definitions.specs.Log.{line, logged, all_logged}

-- ---- viewers

-- a viewer of that name opens at a cell, on a text of its own
abbrev pub opened_on_copy : Desktop → List ℕ → Text ℕ → ℕ × ℕ → Desktop
opened_on_copy d name text cell =
    more_written (after_opening d (plain_text (menu_line name)) text cell) (length (menu_line name))

-- a copy of a file opens in the system track
unfoldable pub file_opened : Desktop → List ℕ → Result Desktop ℕ
file_opened d name =
    needs (file_of d name) no_file λ text.
    Ok (opened_on_copy d name text (allocated d.columns System d.marker))

-- and in the user track, where there is no such file as an empty text
unfoldable pub document_opened : Desktop → List ℕ → Desktop
document_opened d name =
    opened_on_copy d name (unwrap_or (file_of d name) []) (allocated d.columns User d.marker)

-- the log opens in the system track
unfoldable pub log_opened : Desktop → Desktop
log_opened d =
    let menu = menu_line (codes "System.Log") in
    more_written (opening_on d (plain_text menu) 0 0 (allocated d.columns System d.marker))
    (length menu)

module _ {T : Type 0} where
  -- The viewer goes from the display with what is marked in it, and is the closed one with its place. What was closed
  -- before is gone.
  unfoldable pub put_away : DesktopOf T → ℕ → DesktopOf T
  put_away d v =
      record (without_viewer (unmarked (λ w. w == v) d) (option_map (λ k. k.viewer) d.closed)) {
        columns = after_close d.columns v;
        closed = Some (record {
          viewer = v;
          track = track_of d.columns v;
          top = placed_top d.columns v;
        });
      }

  -- the closed viewer stands where it stood
  unfoldable pub brought_back : DesktopOf T → ClosedViewer → DesktopOf T
  brought_back d k = opened_at (record d { closed = None }) k.viewer (left_of k.track, k.top)

-- a second viewer of a viewer's text takes the lower half of its place, with a copy of its menu and the same first line
abbrev pub after_copy : {X : Type 0} → DesktopOf (List X) → ℕ → ℕ → DesktopOf (List X)
after_copy d v rows =
    opening_on d (text_in d.texts (viewer_of d v).menu) (viewer_of d v).main (viewer_of d v).org
    (left_of (track_of d.columns v), placed_bottom d.columns v + rows / 2)

-- it has to have two rows
unfoldable pub viewer_copied : {X : Type 0} → DesktopOf (List X) → ℕ → Result (DesktopOf (List X)) ℕ
viewer_copied d v =
    let rows = placed_top d.columns v - placed_bottom d.columns v in
    if rows == 1 then Err too_low else Ok (after_copy d v rows)

-- a second viewer of a viewer's text has the column of that whole, over the track in which it stands, with a copy of
-- its menu and the same first line
abbrev pub after_grow : {X : Type 0} → DesktopOf (List X) → ℕ → DesktopOf (List X)
after_grow d v =
    opening_over d (text_in d.texts (viewer_of d v).menu) (viewer_of d v).main (viewer_of d v).org
    (track_of d.columns v)

-- there has to be room for a track more
unfoldable pub viewer_grown : {X : Type 0} → DesktopOf (List X) → ℕ → Result (DesktopOf (List X)) ℕ
viewer_grown d v =
    unless (nat_lt (length (stack_of d.columns (track_of d.columns v))) DEPTH) too_deep
    (Ok (after_grow d v))

-- ---- files and the log

unfoldable pub log_cleared : Desktop → Desktop
log_cleared d = deletion d 0 0 (length (text_of d 0))

-- a line of a name and a number of characters
abbrev pub size_line : List ℕ → ℕ → List ℕ
size_line name size = line (name ++ space ∷ decimal size)

abbrev pub deleting_line : List ℕ → List ℕ
deleting_line name = line (codes "System.DeleteFiles " ++ name)

abbrev pub storing_line : List ℕ → ℕ → List ℕ
storing_line name size = line (codes "Edit.Store " ++ (name ++ space ∷ decimal size))

-- a line of the log for each file, by rising names
unfoldable pub directory_logged : Desktop → Desktop
directory_logged d = all_logged d (map (λ file. size_line file.0 (length file.1)) d.files)

abbrev pub without_file : {T : Type 0} → Files T → List ℕ → Files T
without_file files name = remove_entry (is_at (name_cmp name)) files

-- the files of a list go, where each is there and none is named twice, and each gives a line of the log
unfoldable pub files_deleted : Desktop → List (List ℕ) → Result Desktop ℕ
files_deleted d list =
    unless (can_be_deleted (keys_of d.files) list) no_file
    (Ok (all_logged (record d { files = fold without_file d.files list }) (map deleting_line list)))

-- the main text of a viewer becomes the file of a name
abbrev pub stored_as : Desktop → List ℕ → Text ℕ → Desktop
stored_as d name text =
    logged (record d { files = file_put d.files name text }) (storing_line name (length text))

-- the first symbol of a viewer's menu, where it is a name
abbrev pub menu_name : Desktop → ℕ → Option (List ℕ)
menu_name d v = name_in (symbol (bytes_of (menu_of d v)) 0).0

-- the file has that name
unfoldable pub after_store : Desktop → ℕ → Result Desktop ℕ
after_store d v =
    needs (menu_name d v) wrong_symbol λ name.
    unless (has_file_room d.files name) too_many_files (Ok (stored_as d name (main_of d v)))

-- ---- characters

-- The characters are given up that no text has: only as many count as written as the desktop holds. It is never
-- refused.
unfoldable pub after_collect : Desktop → Desktop
after_collect d = record d { written = characters_held d }

-- ---- looks

-- what is typed gets that look, in the fields that are set
unfoldable pub look_set : {T : Type 0} → DesktopOf T → LookChange → DesktopOf T
look_set d new = record d { look = relooked new.selector new.look d.look }

-- the same for the characters of the newest selection, which is the newest then too
unfoldable pub selection_set : Desktop → LookChange → Result Desktop ℕ
selection_set d new = needs (newest d) no_selection λ s. Ok (looks_set d s new.selector new.look)

-- ---- searching

-- the least position from p on at which these bytes stand
abbrev pub found_at : List ℕ → List ℕ → ℕ → Option ℕ
found_at bytes pattern p =
    find (λ q. bytes_eq pattern (take (length pattern) (drop q bytes)))
    (range_with_len p (length bytes + 1 - p))

-- the first bytes of the newest selection, and without one those of the last search
abbrev pub pattern_after : Desktop → List ℕ
pattern_after d =
    unwrap_or (option_map (λ s. take most_pattern (bytes_of (selected d s))) (newest d)) d.pattern

-- the caret goes after the first place with the pattern, from where it stands in that viewer or else from 0 on
unfoldable pub after_search : Desktop → ℕ → Result Desktop ℕ
after_search d v =
    let pattern = pattern_after d in
    unless (nat_lt 0 (length pattern)) no_selection
    (needs (found_at (bytes_of (main_of d v)) pattern (unwrap_or (caret_position v d.caret) 0))
    not_found λ p.
    Ok (caret_shown (record d { pattern = pattern }) v (p + length pattern)))
