-- The cell of a position, by its row and its column.
use Rattle.std.specs.Prelude.{ℕ, nat_lt, if◌then◌else◌, Option, Some, None}
use Rattle.std.specs.Option.{option_map}

-- a column, where it is below w
abbrev pub below : ℕ → ℕ → Option ℕ
below w column = if nat_lt column w then Some column else None

-- the cell in a column and a row, where it is in one of h rows
abbrev pub cell_in : Option ℕ → ℕ → ℕ → Option (ℕ × ℕ)
cell_in column row h = if nat_lt row h then option_map (λ c. (c, row)) column else None
