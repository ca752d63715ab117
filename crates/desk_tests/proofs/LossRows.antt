-- What clicks would lose, and what is told beside it, proved by computing.
use Rattle.std.specs.Prelude.{◌≡◌, ℕ, Bool, true, false, List, [], ◌∷◌, ◌++◌, map, replicate, codes, refl}
use Rattle.std.specs.Prelude.{Option, Some, None, option_map}
use Rattle.piece_ring.specs.Text.{Text}
use Rattle.viewer_tracks.specs.declared.display.Track.TheVariants.{User}
use Rattle.viewer_tracks.specs.declared.tracks.Place.{Place}
use Rattle.viewer_tracks.specs.Viewers.{viewer_at}
use Rattle.viewer_tracks.specs.Edits.{replaced}
use Rattle.viewer_tracks.specs.Room.{free_row}
use Rattle.viewer_tracks.specs.Columns.{track_of, Columns}
use Rattle.event_bytes.specs.Bytes.{is_name_byte, is_letter, is_digit}
use Rattle.readers_scanners.specs.Form.{form, symbol}
use Rattle.readers_scanners.specs.Bytes.{is_blank, is_string_byte, numeral}
use Rattle.command_table.specs.Call.{word_begin, called_at}
use Rattle.command_table.specs.Commands.{commands, command_named}
use Rattle.desktop_definitions.specs.declared.viewer.Viewer.{Viewer}
use Rattle.desktop_definitions.specs.Desktop.{Desktop, empty_desktop, file_of}
use Rattle.desktop_definitions.specs.Change.{plain_text}
use Rattle.desktop_definitions.specs.Gesture.{region_at, text_position, menu_position}
use Rattle.desktop_definitions.specs.Step.{marked}
use Rattle.desk_views.specs.declared.info.DeskInfo.{DeskInfo}
use Rattle.desk_views.specs.declared.losses.Loss.{Loss}
use Rattle.desk_views.specs.declared.losses.Loss.TheVariants.{Closed, Taken, Rivalled}
use Rattle.desk_views.specs.Unstored.{is_same_text, is_its_own, is_unstored}
use Rattle.desk_views.specs.Losses.{taken_by, is_rivalled, lost_by, lost_by_call, lost_by_click, loss_at}
use Rattle.desk_views.specs.Info.{shown_viewer, place_at, desk_info, last_log_line}
use Rattle.desk_tests.proofs.StepWords.{chars, empty, entry, columns, viewer, closed}
use Rattle.desk_tests.proofs.ScreenRows.{in_user, line}

-- ---- desktops: viewer 1 has the menu of A.Text

abbrev pub hello : Desktop
hello = in_user line (codes "Hello") 0

abbrev pub with_file : Text ℕ → Desktop → Desktop
with_file text d = record d { files = (codes "A.Text", text) ∷ [] }

-- and so has viewer 2, with another text or with the same one
abbrev pub both : Viewer → Columns → Desktop
both other places = record hello {
  texts = (0, []) ∷ (1, chars "Hello") ∷ (2, plain_text line) ∷ (3, chars "World") ∷ (4, plain_text line) ∷ [];
  viewers = (1, viewer 2 1 0) ∷ (2, other) ∷ [];
  columns = places;
}

abbrev pub halves : Columns
halves = columns (entry 1 16 ∷ entry 2 16 ∷ []) []

abbrev pub rivals : Desktop
rivals = both (viewer 4 3 0) halves

-- viewer 2 is covered, and it is closed
abbrev pub covered : Desktop
covered = both (viewer 4 3 0)
    (record { user = (entry 1 32 ∷ []) ∷ (entry 2 32 ∷ []) ∷ []; system = [] ∷ [] })

abbrev pub gone : Desktop
gone = record (both (viewer 4 3 0) (columns (entry 1 32 ∷ []) [])) { closed = closed 2 User 32 }

-- a text of commands, from which the one that was closed may be recalled
abbrev pub calls : Desktop
calls = record gone {
  texts = (0, []) ∷ (1, chars "Edit.Open B.Text System.OpenLog System.Recall") ∷
      (2, plain_text line) ∷ (3, chars "World") ∷ (4, plain_text line) ∷ [];
}

-- ---- a desktop, the cell of the marker, those of the button, and what is lost

abbrev pub Row : Type 0
Row = Desktop × Option (ℕ × ℕ) × (ℕ × ℕ) × (ℕ × ℕ) × Option Loss

abbrev pub at : Desktop → ℕ × ℕ → Option Loss → Row
at d cell loss = (d, None, cell, cell, loss)

abbrev pub marked_at : Desktop → ℕ × ℕ → ℕ × ℕ → Option Loss → Row
marked_at d mark cell loss = (d, Some mark, cell, cell, loss)

abbrev pub told : Row → Option Loss
told row = loss_at row.0 row.1 row.2 row.3

abbrev pub wanted : Row → Option Loss
wanted row = row.4

-- System.Close stands in the menu from column 9 on, and Edit.Store from column 46 on, where the edge cuts it
abbrev pub losses : List Row
losses =
    -- a viewer is closed
    at hello (12, 31) (Some (Closed (0, 31))) ∷
    at (with_file (chars "Hello") hello) (12, 31) None ∷
    at (with_file (chars "Hellp") hello) (12, 31) (Some (Closed (0, 31))) ∷
    at (in_user line [] 0) (12, 31) None ∷
    at (both (viewer 4 1 0) halves) (12, 31) None ∷
    at rivals (12, 15) (Some (Closed (0, 15))) ∷
    -- its text is stored
    at hello (47, 31) None ∷
    at rivals (47, 15) (Some (Rivalled (0, 15))) ∷
    at rivals (47, 31) (Some (Rivalled (0, 31))) ∷
    at (with_file (chars "Hello") rivals) (47, 15) None ∷
    at (with_file (chars "Hello") rivals) (47, 31) (Some (Rivalled (0, 31))) ∷
    at (both (viewer 4 1 0) halves) (47, 15) None ∷
    at covered (47, 31) (Some (Rivalled (0, 31))) ∷
    at gone (47, 31) None ∷
    -- a viewer opens
    at calls (3, 30) None ∷
    marked_at calls (5, 31) (3, 30) (Some (Taken (0, 31))) ∷
    marked_at calls (5, 20) (3, 30) None ∷
    marked_at calls (60, 31) (3, 30) None ∷
    marked_at calls (5, 32) (3, 30) None ∷
    marked_at calls (5, 31) (20, 30) (Some (Taken (0, 31))) ∷
    at calls (35, 30) (Some (Taken (0, 31))) ∷
    at (record calls { closed = None }) (35, 30) None ∷
    -- where the button went down is the viewer, and where it went up the word
    (hello, None, (12, 31), (12, 20), Some (Closed (0, 31))) ∷
    (hello, None, (12, 20), (12, 31), None) ∷
    (hello, None, (12, 32), (12, 31), None) ∷
    -- no command
    at hello (2, 31) None ∷
    at hello (70, 31) None ∷
    []

pub losses_are_told : map told losses ≡ map wanted losses
unfolding region_at text_position menu_position viewer_at replaced track_of free_row word_begin called_at commands
    command_named is_name_byte is_letter is_digit symbol form is_blank is_string_byte numeral file_of marked
    is_same_text is_its_own is_unstored taken_by is_rivalled lost_by lost_by_call lost_by_click loss_at empty_desktop
losses_are_told = refl

-- ---- what is told beside it

abbrev pub place : ℕ → ℕ → Option Place
place bottom top = Some (record { x = 0; bottom = bottom; top = top })

-- of viewers 1 and 2
abbrev pub places : Desktop → List (Option Place)
places d = option_map (λ v. v.place) (shown_viewer d 1) ∷ option_map (λ v. v.place) (shown_viewer d 2) ∷ []

pub places_are_told : places rivals ++ places covered ++ places gone
    ≡ place 0 16 ∷ place 16 32 ∷ place 0 32 ∷ None ∷ place 0 32 ∷ None ∷ []
unfolding shown_viewer track_of empty_desktop
places_are_told = refl

-- at cells of a menu and of a text, on the empty display, and off it
abbrev pub places_at : Desktop → List (Option Place)
places_at d = map (place_at d) ((0, 31) ∷ (49, 0) ∷ (3, 16) ∷ (50, 0) ∷ (3, 32) ∷ (80, 0) ∷ [])

pub places_at_cells : places_at rivals ++ places_at covered
    ≡ place 16 32 ∷ place 0 16 ∷ place 16 32 ∷ None ∷ None ∷ None
    ∷ place 0 32 ∷ place 0 32 ∷ place 0 32 ∷ None ∷ None ∷ None ∷ []
unfolding place_at viewer_at track_of empty_desktop
places_at_cells = refl

-- whether they show the log
abbrev pub shows_log : Desktop → ℕ → Option Bool
shows_log d v = option_map (λ w. w.is_log) (shown_viewer d v)

abbrev pub beside_log : Desktop
beside_log = both (viewer 4 0 0) halves

pub logs_are_told : shows_log beside_log 1 ∷ shows_log beside_log 2 ∷ shows_log beside_log 7 ∷ []
    ≡ Some false ∷ Some true ∷ None ∷ []
unfolding shown_viewer track_of empty_desktop
logs_are_told = refl

abbrev pub told_of : Desktop → DeskInfo
told_of d = desk_info d

abbrev pub info : Option ℕ → Option ℕ → Bool → ℕ → DeskInfo
info closed caret marked long =
    record {
      next_viewer = 0;
      closed_viewer = closed;
      caret_viewer = caret;
      caret_position = option_map (λ (v : ℕ). 0) caret;
      is_marked = marked;
      log_length = long;
    }

pub info_is_told : map told_of (hello ∷ record gone { marker = Some (0, 0) } ∷ record empty { texts = (0, chars "ab\r") ∷ [] } ∷
    record hello { caret = Some (record { viewer = 1; position = 0 }) } ∷ [])
    ≡ info None None false 0 ∷ info (Some 2) None true 0 ∷ info None None false 3 ∷ info None (Some 1) false 0 ∷ []
unfolding desk_info empty_desktop
info_is_told = refl

-- a log, and its last line
abbrev pub logs : List (List ℕ × List ℕ)
logs = ([], []) ∷ (codes "abc", []) ∷ (codes "\r", []) ∷ (codes "abc\r", codes "abc") ∷ (codes "a\rbc\rd", codes "bc") ∷
    (codes "ab\r\r", []) ∷ (replicate 81 97 ++ 13 ∷ [], replicate 80 97) ∷ []

pub lines_are_told : map (λ (l : List ℕ × List ℕ). last_log_line (record empty { texts = (0, plain_text l.0) ∷ [] })) logs
    ≡ map (λ (l : List ℕ × List ℕ). l.1) logs
unfolding last_log_line empty_desktop
lines_are_told = refl
