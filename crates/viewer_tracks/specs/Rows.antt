-- What the edits mean for the rows of the display: which viewer has each row afterwards. A row that no line here speaks
-- of has no viewer or keeps the one that it had.
use Rattle.std.specs.Prelude.{◌≡◌, ℕ, ◌+◌, ◌<◌, ◌≤◌, Some, List}
use Rattle.viewer_tracks.specs.Viewers.{Entry, bottom_of, top_of, entry_viewer, viewer_at}
use Rattle.viewer_tracks.specs.Edits.{open_entry, open_top, opened, change_top, changed, closed}

-- a viewer v that opens at row y has rows of one entry alone, from that entry's bottom up, and at least one; all
-- other rows stay as they were
pub record OpensRows (t : List Entry) (v y : ℕ) : Type 0 where
  pub some : bottom_of t (open_entry t y) < open_top t y
  pub of_one : open_top t y ≤ top_of t (open_entry t y)
  pub own : (r : ℕ) → bottom_of t (open_entry t y) ≤ r → r < open_top t y
      → viewer_at (opened t v y) r ≡ Some v
  pub under : (r : ℕ) → r < bottom_of t (open_entry t y) → viewer_at (opened t v y) r
      ≡ viewer_at t r
  pub over : (r : ℕ) → open_top t y ≤ r → viewer_at (opened t v y) r ≡ viewer_at t r

-- where the top of the viewer i moves, that viewer has the rows up to there and the entry above it the rows from
-- there on; all others stay
pub record ChangesRows (t : List Entry) (i y : ℕ) : Type 0 where
  pub own : (r : ℕ) → bottom_of t i ≤ r → r < change_top t i y → viewer_at (changed t i y) r
      ≡ entry_viewer t i
  pub next : (r : ℕ) → change_top t i y ≤ r → r < top_of t (i + 1) → viewer_at (changed t i y) r
      ≡ entry_viewer t (i + 1)
  pub under : (r : ℕ) → r < bottom_of t i → viewer_at (changed t i y) r ≡ viewer_at t r
  pub over : (r : ℕ) → top_of t (i + 1) ≤ r → viewer_at (changed t i y) r ≡ viewer_at t r

-- the rows of a closed viewer i are those of the entry above it; all others stay
pub record ClosesRows (t : List Entry) (i : ℕ) : Type 0 where
  pub given : (r : ℕ) → bottom_of t i ≤ r → r < top_of t i → viewer_at (closed t i) r
      ≡ entry_viewer t (i + 1)
  pub under : (r : ℕ) → r < bottom_of t i → viewer_at (closed t i) r ≡ viewer_at t r
  pub over : (r : ℕ) → top_of t i ≤ r → viewer_at (closed t i) r ≡ viewer_at t r
