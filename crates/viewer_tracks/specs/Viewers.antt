-- A track: its viewers from the bottom up, each with its height in rows.
--
-- Every viewer has a row at least, and all together have no more rows than the display. What they leave, up to the top of
-- the display, is the filler, which may have no row. So a track cuts the display into entries that lie on one another:
-- entry i is the viewer i, and entry `length t` the filler. An entry begins at the row `bottom_of` and ends before the
-- row `top_of`.
use Rattle.std.specs.Prelude.{ℕ, ◌+◌, ◌<◌, ◌≤◌, if◌then◌else◌, nat_lt, nat_le, ◌==◌, Option, option_map, List, length}
use Rattle.std.specs.Prelude.{take, map, All, sum_by, count_by, slice_get}
use Rattle.std.specs.List.{position_or_len, range_with_len}
use Rattle.viewer_tracks.specs.declared.viewer_id.ViewerId.{ViewerId}
use Rattle.viewer_tracks.specs.declared.display.TheConstants.{ROWS}

-- a viewer by its number, and how many rows it has
pub record Entry : Type 0 where
  pub viewer : ℕ
  pub height : ℕ

-- the heights of a track
pub record IsTrack (t : List Entry) : Type 0 where
  pub some : All (λ e. 0 < e.height) t
  pub fits : sum_by (λ e. e.height) t ≤ ROWS

-- the row at which entry i begins: the sum of the heights under it
abbrev pub bottom_of : List Entry → ℕ → ℕ
bottom_of t i = sum_by (λ e. e.height) (take i t)

-- the row before which entry i ends
abbrev pub top_of : List Entry → ℕ → ℕ
top_of t i = if nat_lt i (length t) then bottom_of t (i + 1) else ROWS

-- the tops of the viewers, bottom up
abbrev pub tops : List Entry → List ℕ
tops t = map (λ i. bottom_of t (i + 1)) (range_with_len 0 (length t))

-- the least entry whose top reaches row z; the filler's always does
abbrev pub lowest_reaching : List Entry → ℕ → ℕ
lowest_reaching t z = position_or_len (λ top. nat_le z top) (tops t)

-- the viewer of entry i; the filler has none
abbrev pub entry_viewer : List Entry → ℕ → Option ℕ
entry_viewer t i = option_map (λ e. e.viewer) (slice_get t i)

-- the viewer that has row y, that is, of the least entry that ends above it
unfoldable pub viewer_at : List Entry → ℕ → Option ℕ
viewer_at t y = entry_viewer t (lowest_reaching t (y + 1))

-- how often a viewer stands in the track
abbrev pub times_in : ℕ → List Entry → ℕ
times_in v t = count_by (λ e. e.viewer == v) t

-- the entry of a viewer
abbrev pub entry_of : List Entry → ℕ → ℕ
entry_of t v = position_or_len (λ e. e.viewer == v) t

-- the number of a viewer, where there is one
abbrev pub id_number : Option ViewerId → Option ℕ
id_number v = option_map (λ v. v.0) v
