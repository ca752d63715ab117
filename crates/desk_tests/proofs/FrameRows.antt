-- Rows of frames, of tracks and of written numbers: tables of what the definitions give, each proved by computing. The
-- code is proved to give the same.
use Rattle.std.specs.Prelude.{◌≡◌, ℕ, pos, neg_ℤ, List, [], ◌∷◌, ◌++◌, map, replicate, codes}
use Rattle.std.specs.Prelude.{Some, None, unwrap_or, refl}
use Rattle.std.specs.Fmt.{digits}
use Rattle.text_frames.specs.declared.frame.Frame.{Frame}
use Rattle.text_frames.specs.Lines.{line_start}
use Rattle.text_frames.specs.Rules.{by_change_rule, by_show_rule, frame_cleared}
use Rattle.text_frames.specs.Cells.{position_at, cell_of}
use Rattle.text_frames.specs.Row.{row_cells}
use Rattle.viewer_tracks.specs.declared.display.Track.TheVariants.{User, System}
use Rattle.viewer_tracks.specs.Viewers.{Entry, bottom_of, top_of, entry_of, viewer_at}
use Rattle.viewer_tracks.specs.Edits.{opened, replaced, changed, closed}
use Rattle.viewer_tracks.specs.Columns.{Columns, no_viewers, after_open, allocated, seen_at, track_of}
use Rattle.viewer_tracks.specs.Room.{free_row}
use Rattle.writer_core.specs.Number.{number_text}
use Rattle.desktop_definitions.specs.Change.{plain_text}
use Prim.Native.String.{String}

-- ---- frames

abbrev pub lines : List ℕ
lines = codes "ab\rcd\ref\rgh"

-- where the line of a position starts
pub starts_of_lines : map (line_start lines) (0 ∷ 2 ∷ 3 ∷ 11 ∷ []) ≡ 0 ∷ 0 ∷ 3 ∷ 9 ∷ []
starts_of_lines = refl

pub start_of_nothing : line_start [] 0 ≡ 0
start_of_nothing = refl

-- a frame with a caret and a selection
abbrev pub frame : ℕ → Frame
frame org = record {
  text = 1;
  org = org;
  caret = Some 0;
  selection = Some (record { beg = 0; end = 1; rank = 1 });
}

-- where a frame of h rows begins after a position was brought into sight: org, h, the position, and org then
abbrev pub Brought : Type 0
Brought = ℕ × ℕ × ℕ × ℕ

abbrev pub brought : List Brought
brought =
    (0, 2, 4, 0) ∷
    (0, 2, 6, 3) ∷
    (0, 3, 11, 6) ∷
    (1, 2, 6, 3) ∷
    (4, 1, 5, 4) ∷
    (3, 2, 0, 0) ∷
    (9, 2, 6, 3) ∷
    (6, 4, 4, 0) ∷
    (0, 0, 10, 9) ∷
    (0, 1, 3, 3) ∷ []

abbrev pub frame_shown : Brought → Frame
frame_shown r = by_show_rule lines r.1 r.2 (frame r.0)

abbrev pub frame_brought : Brought → Frame
frame_brought r = frame r.3

pub rows_brought_into_sight : map frame_shown brought ≡ map frame_brought brought
rows_brought_into_sight = refl

-- where a frame begins after its text was changed: the text then, org, the place, how much was inserted and deleted,
-- and org then
abbrev pub Followed : Type 0
Followed = String × ℕ × ℕ × ℕ × ℕ × ℕ

abbrev pub followed : List Followed
followed =
    ("xxab\rcd", 3, 0, 2, 0, 5) ∷
    ("ab\rxxcd", 3, 3, 2, 0, 3) ∷
    ("axxb\rcd", 2, 1, 2, 0, 0) ∷
    ("ad\ref", 3, 1, 0, 3, 0) ∷
    ("abcd\ref", 3, 2, 0, 1, 0) ∷
    ("cd\ref", 6, 0, 0, 3, 3) ∷
    ("", 6, 0, 0, 8, 0) ∷ []

abbrev pub frame_changed : Followed → Frame
frame_changed r = by_change_rule (codes r.0) r.2 r.3 r.4 (frame r.1)

abbrev pub frame_followed : Followed → Frame
frame_followed r = frame_cleared (frame r.5)

pub changes_followed : map frame_changed followed ≡ map frame_followed followed
changes_followed = refl

pub no_change_followed : by_change_rule (codes "ab\rcd") 0 0 0 (frame 4) ≡ frame 4
no_change_followed = refl

-- positions at cells: the column, the row, and the position
abbrev pub AtCell : Type 0
AtCell = ℕ × ℕ × ℕ

abbrev pub with_tabulator : List AtCell
with_tabulator = (3, 0, 1) ∷ (4, 0, 2) ∷ (5, 0, 3) ∷ (0, 1, 3) ∷ []

abbrev pub position_there : AtCell → ℕ
position_there r = position_at (codes "a\tb") 0 r.0 r.1

abbrev pub position_wanted : AtCell → ℕ
position_wanted r = r.2

pub positions_at_cells : map position_there with_tabulator ≡ map position_wanted with_tabulator
positions_at_cells = refl

pub positions_in_lines : (position_at lines 0 9 0 ≡ 2) × (position_at lines 4 0 1 ≡ 6)
positions_in_lines = (refl, refl)

pub cells_of_positions : (cell_of 49 1 (codes "a\tb") 0 2 ≡ Some (4, 0))
    × (map (cell_of 49 2 lines 4) (7 ∷ 9 ∷ 3 ∷ []) ≡ Some (1, 1) ∷ None ∷ None ∷ [])
    × (map (cell_of 49 1 (replicate 50 120) 0) (48 ∷ 49 ∷ []) ≡ Some (48, 0) ∷ None ∷ [])
cells_of_positions = (refl, refl, refl)

-- the cells of a row: the text, org, the row, its bytes, and where the characters stand
abbrev pub RowCells : Type 0
RowCells = String × ℕ × ℕ × String × List ℕ

abbrev pub rows_of_cells : List RowCells
rows_of_cells =
    ("ab\rcd\ref", 0, 0, "ab", 0 ∷ 1 ∷ []) ∷
    ("ab\rcd\ref", 0, 2, "ef", 6 ∷ 7 ∷ []) ∷
    ("ab\rcd\ref", 4, 0, "d", 4 ∷ []) ∷
    ("ab\rcd\ref", 0, 3, "", []) ∷
    ("a\tb", 0, 0, "a\t\t\tb", 0 ∷ 1 ∷ 1 ∷ 1 ∷ 2 ∷ []) ∷
    ("\t\t", 0, 0, "\t\t\t\t\t\t\t\t", 0 ∷ 0 ∷ 0 ∷ 0 ∷ 1 ∷ 1 ∷ 1 ∷ 1 ∷ []) ∷
    ("\r\r", 0, 1, "", []) ∷ []

abbrev pub row_found : RowCells → List ℕ × List ℕ
row_found r =
    let cells = row_cells 49 (plain_text (codes r.0)) r.1 r.2 in
    (map (λ c. c.0) cells, map (λ c. c.2) cells)

abbrev pub row_of_cells : RowCells → List ℕ × List ℕ
row_of_cells r = (codes r.3, r.4)

pub cells_of_rows : map row_found rows_of_cells ≡ map row_of_cells rows_of_cells
cells_of_rows = refl

-- a row is cut off within a tabulator
pub a_row_cut_off : map (λ c. c.0) (row_cells 49 (plain_text (replicate 48 120 ++ codes "\ty")) 0 0)
    ≡ replicate 48 120 ++ 9 ∷ []
a_row_cut_off = refl

-- ---- tracks

-- what is done to a track: what becomes of it, the viewer that is gone or 0, and then of one viewer the row at which it
-- begins and the one before which it ends
pub record Move : Type 0 where
  pub makes : List Entry → List Entry
  pub gone : List Entry → ℕ
  pub viewer : ℕ
  pub wanted : ℕ × ℕ × ℕ

abbrev pub opens : ℕ → ℕ → ℕ → ℕ → ℕ → Move
opens v y gone bottom top = record {
  makes = λ t. opened t v y;
  gone = λ t. unwrap_or (replaced t y) 0;
  viewer = v;
  wanted = (gone, bottom, top);
}

abbrev pub changes : ℕ → ℕ → ℕ → ℕ → ℕ → Move
changes v y seen bottom top = record {
  makes = λ t. changed t (entry_of t v) y;
  gone = λ t. 0;
  viewer = seen;
  wanted = (0, bottom, top);
}

abbrev pub closes : ℕ → ℕ → ℕ → ℕ → Move
closes v seen bottom top = record {
  makes = λ t. closed t (entry_of t v);
  gone = λ t. 0;
  viewer = seen;
  wanted = (0, bottom, top);
}

abbrev pub found_after : List Entry → List Entry → Move → ℕ × ℕ × ℕ
found_after old new m =
    (m.gone old, bottom_of new (entry_of new m.viewer), top_of new (entry_of new m.viewer))

abbrev pub moves_found : List Entry → List Move → List (ℕ × ℕ × ℕ)
moves_found t [] = []
moves_found t (m ∷ ms) = found_after t (m.makes t) m ∷ moves_found (m.makes t) ms

abbrev pub openings : List Move
openings =
    opens 1 0 0 0 1 ∷
    opens 2 0 1 0 1 ∷
    opens 3 20 0 1 20 ∷
    opens 4 19 0 1 19 ∷
    changes 3 20 3 19 20 ∷
    opens 5 20 3 19 20 ∷
    opens 6 40 0 20 32 ∷
    opens 7 32 6 20 32 ∷ []

pub track_open : moves_found [] openings ≡ map (λ m. m.wanted) openings
unfolding opened replaced changed
track_open = refl

abbrev pub changings : List Move
changings =
    opens 2 0 0 0 1 ∷
    opens 4 19 0 1 19 ∷
    opens 5 20 0 19 20 ∷
    opens 7 32 0 20 32 ∷
    changes 4 25 4 1 19 ∷
    changes 5 25 5 19 25 ∷
    changes 5 25 7 25 32 ∷
    changes 4 1 4 1 19 ∷
    changes 4 2 4 1 2 ∷
    changes 4 2 5 2 25 ∷
    closes 2 4 0 2 ∷
    closes 5 7 2 32 ∷
    closes 7 4 0 2 ∷ []

pub track_change : moves_found [] changings ≡ map (λ m. m.wanted) changings
unfolding opened replaced changed closed
track_change = refl

-- where a viewer would be opened: at the marker, in the filler, in the middle of the tallest viewer
abbrev pub in_user : List Entry → Columns
in_user t = record { user = t ∷ []; system = [] ∷ [] }

abbrev pub low : List Entry
low = opened [] 1 29

pub allocate : (allocated no_viewers User (Some (60, 10)) ≡ (60, 11))
    × (allocated no_viewers User None ≡ (0, 32))
    × (allocated (in_user low) User None ≡ (0, 14))
    × (allocated (in_user (changed low 0 28)) User None ≡ (0, 32))
    × (allocated (in_user low) System None ≡ (50, 32))
unfolding free_row opened changed
allocate = (refl, refl, refl, refl, refl)

-- each column has a track of its own
abbrev pub two : Columns
two = after_open (after_open no_viewers 1 0 10) 2 79 5

pub two_tracks : (seen_at two 49 4 ≡ Some 1) × (seen_at two 50 4 ≡ Some 2) × (seen_at two 50 5 ≡ None)
    × (track_of two 2 ≡ System)
unfolding after_open opened viewer_at track_of
two_tracks = (refl, refl, refl, refl)

-- ---- numbers

pub write_int : (number_text 5 (neg_ℤ (pos 7)) ≡ codes "   -7")
    × (number_text 2 (pos 12345) ≡ codes "12345")
    × (number_text 0 (pos 0) ≡ codes "0")
    × (number_text 0 (neg_ℤ (pos 9223372036854775808)) ≡ codes "-9223372036854775808")
    × (number_text 21 (pos 9223372036854775807) ≡ codes "  9223372036854775807")
unfolding digits
write_int = (refl, refl, refl, refl, refl)
