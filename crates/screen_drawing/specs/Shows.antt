-- What a grid shows.
use Rattle.std.specs.Prelude.{◌≡◌, ℕ, ◌+◌, ◌<◌, List, [], ◌∷◌, length, slice_index_or}
use Rattle.screen_drawing.specs.declared.face.Face.{Face}
use Rattle.screen_drawing.specs.Grid.{Grid}

-- from a column on, the row shows these
abbrev pub ShowsFrom : ℕ → ℕ → List Face → Grid → Type 0
ShowsFrom row column [] g = Unit {0}
ShowsFrom row column (f ∷ fs) g = (g.cells column row ≡ f) × ShowsFrom row (column + 1) fs g

-- its rows show these, from the top
abbrev pub ShowsRows : List (List Face) → Grid → Type 0
ShowsRows rows g = (y : ℕ) → y < length rows → ShowsFrom (y + 1) 1 (slice_index_or rows y []) g
