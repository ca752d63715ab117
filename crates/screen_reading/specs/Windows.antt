-- The part of the display that is in sight in a terminal.
use Rattle.std.specs.Prelude.{ℕ, ◌+◌, ◌-◌, Bool, ◌&&◌, ◌||◌, nat_lt, nat_le, if◌then◌else◌, Option, Some, None, min}
use Rattle.std.specs.Prelude.{max}
use Rattle.viewer_tracks.specs.declared.display.TheConstants.{COLUMNS, ROWS}
use Rattle.viewer_tracks.specs.declared.display.Track.TheVariants.{User, System}
use Rattle.viewer_tracks.specs.Display.{track_at}
use Rattle.terminal_presses.specs.Sights.{Sight}
use Rattle.screen_reading.specs.declared.window.TheConstants.{LEAST_HEIGHT, LEAST_WIDTH}
use Rattle.terminal_presses.specs.declared.press.Page.{Page as PageKey}
use Rattle.terminal_presses.specs.declared.press.Page.TheVariants.{Up, Down, Left, Right}

-- Whether a terminal that tells these two numbers for its rows and columns has told them in the other order, as tmux 3.3
-- does. Nobody sits down at fewer than 45 columns, and a terminal with fewer columns than the display has no more rows
-- than that has columns.
unfoldable pub is_turned : ℕ → ℕ → Bool
is_turned rows columns = (nat_lt columns COLUMNS && nat_le COLUMNS rows)
    || (nat_lt columns LEAST_WIDTH && nat_le LEAST_WIDTH rows)

-- how many rows and columns it has then
unfoldable pub height_told : ℕ → ℕ → ℕ
height_told rows columns = if is_turned rows columns then columns else rows

unfoldable pub width_told : ℕ → ℕ → ℕ
width_told rows columns = if is_turned rows columns then rows else columns

-- whether it has fewer columns than a person can sit down at
unfoldable pub is_narrow : ℕ → ℕ → Bool
is_narrow rows columns = nat_lt (width_told rows columns) LEAST_WIDTH

-- whether it has fewer rows than that
unfoldable pub is_low : ℕ → ℕ → Bool
is_low rows columns = nat_lt (height_told rows columns) LEAST_HEIGHT

-- how many rows there are in a terminal of so many: one is the line below them
abbrev pub rows_in : ℕ → ℕ
rows_in height = max 1 (min (height - 1) ROWS)

-- how many columns there are in a terminal of so many, as far as the display has them
abbrev pub columns_in : ℕ → ℕ
columns_in width = max 1 (min width COLUMNS)

-- the first row stays where there are rows enough from it downward, and the side stays
unfoldable pub fitted : ℕ → ℕ → Sight → Sight
fitted height width sight = record sight {
  top = max sight.top (rows_in height - 1);
  rows = rows_in height;
  width = columns_in width;
}

-- as many rows upward or downward as are in sight, as far as there are any, or a side
unfoldable pub moved_sight : PageKey → Sight → Sight
moved_sight Up sight = record sight { top = min (sight.top + sight.rows) (ROWS - 1) }
moved_sight Down sight = record sight { top = max (sight.top - sight.rows) (sight.rows - 1) }
moved_sight Left sight = record sight { side = User }
moved_sight Right sight = record sight { side = System }

-- as few rows as bring a cell into sight, and its side
unfoldable pub following_sight : Option (ℕ × ℕ) → Sight → Sight
following_sight None sight = sight
following_sight (Some place) sight = record sight {
  top = max place.1 (min sight.top (place.1 + sight.rows - 1));
  side = track_at place.0;
}
