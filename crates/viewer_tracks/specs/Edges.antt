-- How a track is kept: for each viewer, bottom up, the row before which it ends.
use Rattle.std.specs.Prelude.{ℕ, ◌-◌, ◌<◌, ◌≤◌, List, [], ◌∷◌}
use Rattle.viewer_tracks.specs.declared.edges.Edge.{Edge}
use Rattle.viewer_tracks.specs.declared.display.TheConstants.{ROWS}
use Rattle.viewer_tracks.specs.Viewers.{Entry}

-- the viewers with their heights, where the lowest begins at row `bottom`
abbrev pub entries_from : ℕ → List Edge → List Entry
entries_from bottom [] = []
entries_from bottom (e ∷ es) =
    record { viewer = e.viewer.0; height = e.top - bottom } ∷ entries_from e.top es

-- each viewer ends above the row at which it begins, and none above the display
abbrev pub Rises : ℕ → List Edge → Type 0
Rises bottom [] = bottom ≤ ROWS
Rises bottom (e ∷ es) = (bottom < e.top) × Rises e.top es
