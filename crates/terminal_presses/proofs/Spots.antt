-- The cells of the display that are meant.
use Rattle.std.proofs.Common.{◌≡◌, ℕ, ◌+◌, ◌<◌, ◌≤◌, arith, Bool, true, false, cond, nat_eq, min}
use Rattle.viewer_tracks.specs.declared.display.Track.{Track}
use Rattle.viewer_tracks.specs.declared.display.Track.TheVariants.{User, System}
use Rattle.viewer_tracks.specs.Display.{left_of}
use Rattle.terminal_presses.specs.Sights.{Sight, IsSight, columns_beside, columns_in_sight, first_column, spot_in}

some : (all : Bool) (side : Track) (width : ℕ) → 1 ≤ width → 1 ≤ cond all 80 (columns_beside side width)
some true side width least = omega arith
some false User width least = omega (arith, least)
some false System width least = omega (arith, least)

few : (all : Bool) (side : Track) (width : ℕ) → cond all 0 (left_of side) + cond all 80 (columns_beside side width) ≤ 80
few true side width = omega arith
few false User width = omega arith
few false System width = omega arith

-- the columns in sight are columns of the display, at least one
some_columns : (sight : Sight) → IsSight sight → 1 ≤ columns_in_sight sight
unfolding columns_in_sight
some_columns sight is = some (nat_eq sight.width 80) sight.side sight.width is.width_least

pub columns_there : (sight : Sight) → first_column sight + columns_in_sight sight ≤ 80
unfolding columns_in_sight first_column
columns_there sight = few (nat_eq sight.width 80) sight.side sight.width

pub column_seen : (sight : Sight) (column row : ℕ) → IsSight sight
    → (first_column sight ≤ (spot_in sight column row).x)
    × ((spot_in sight column row).x < first_column sight + columns_in_sight sight)
unfolding spot_in
column_seen sight column row is =
    let least = some_columns sight is in (omega arith, omega (arith, least))

pub row_seen : (sight : Sight) (column row : ℕ) → IsSight sight
    → ((spot_in sight column row).y ≤ sight.top) × (sight.top < (spot_in sight column row).y + sight.rows)
unfolding spot_in
row_seen sight column row is =
    let least = is.rows_least in
    let most = is.rows_in in
    (omega arith, omega (arith, least, most))

pub column_there : (sight : Sight) (column row : ℕ) → 1 ≤ column → column ≤ columns_in_sight sight
    → (spot_in sight column row).x + 1 ≡ first_column sight + column
unfolding spot_in
column_there sight column row least most = omega (arith, least, most)

pub row_there : (sight : Sight) (column row : ℕ) → IsSight sight → 1 ≤ row → row ≤ sight.rows
    → (spot_in sight column row).y + row ≡ sight.top + 1
unfolding spot_in
row_there sight column row is least most =
    let in_display = is.rows_in in
    omega (arith, in_display)

pub ruleset spots_seen = (columns_there, column_seen, row_seen, column_there, row_there)
