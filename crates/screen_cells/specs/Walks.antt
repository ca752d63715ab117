-- What is known of viewers that are painted from the upper row on.
use Rattle.std.specs.Prelude.{◌≡◌, ◌≤◌, ◌<◌, ◌-◌, ℕ, List, length, Some, slice_get, IfSome}
use Rattle.piece_ring.specs.Flat.{flat}
use Rattle.text_frames.specs.declared.row.TheConstants.{MOST_COLUMNS}
use Rattle.text_frames.specs.Rows.{AreRows}
use Rattle.viewer_tracks.specs.declared.display.TheConstants.{ROWS}
use Rattle.screen_cells.specs.declared.shown.Shown.{Shown}
use Rattle.screen_cells.specs.declared.walk.ViewerRow.{ViewerRow}
use Rattle.screen_cells.specs.declared.walk.Walk.{Walk}
use Rattle.screen_cells.specs.declared.walk.Walks.{Walks}
use Rattle.screen_cells.specs.Shown.{IsShowable}

-- The rows are those of the viewer's frame.
pub record IsWalk (honest : Type 0) (characters : List ℕ) (walk : Walk) : Type 0 where
  pub showable : IsShowable (length characters) walk.shown
  pub rows : AreRows honest characters (flat walk.shown.main.now) walk.shown.frame.org walk.rows

-- A row of its frame, which is so wide.
pub record IsRowOf (w row : ℕ) (walk : Walk) : Type 0 where
  pub columns : w ≤ MOST_COLUMNS
  pub rows : walk.h ≤ 31
  pub within : row < walk.h

-- A row of the display in which this viewer stands.
pub record IsViewerRow (shown : List Shown) (viewer : Shown) (at : ViewerRow) : Type 0 where
  pub there : slice_get shown at.index ≡ Some viewer
  pub some : 0 < at.width
  pub fits : at.width ≤ MOST_COLUMNS
  pub display : at.top ≤ ROWS
  pub from : at.bottom ≤ at.y
  pub before : at.y < at.top

-- The viewer is still the one of before.
pub record IsOfSame (old new : Walk) : Type 0 where
  pub viewer : new.shown ≡ old.shown
  pub index : new.index ≡ old.index

-- It is a walk of the viewer that it names.
pub record IsKeptWalk (honest : Type 0) (characters : List ℕ) (shown : List Shown)
    (kept : Walk) : Type 0 where
  pub there : slice_get shown kept.index ≡ Some kept.shown
  pub walk : IsWalk honest characters kept

pub record AreKept (honest : Type 0) (characters : List ℕ) (shown : List Shown)
    (walks : Walks) : Type 0 where
  pub user : IfSome walks.user (IsKeptWalk honest characters shown)
  pub system : IfSome walks.system (IsKeptWalk honest characters shown)
