-- The words of commands that are seen whole, and the next one from a cell on.
use Rattle.std.specs.Prelude.{ℕ, ◌+◌, ◌-◌, ◌*◌, ◌/◌, ◌%◌, Bool, ◌==◌, ◌&&◌, ◌||◌, not, nat_lt, List}
use Rattle.std.specs.Prelude.{position, Option, is_some, option_map}
use Rattle.std.specs.List.{range_with_len}
use Rattle.event_bytes.specs.Bytes.{is_name_byte}
use Rattle.viewer_tracks.specs.declared.display.TheConstants.{COLUMNS, ROWS}
use Rattle.command_table.specs.Commands.{command_named}
use Rattle.command_table.specs.Versions.{newest_version}
use Rattle.screen_pictures.specs.declared.cell.Cell.{Cell}
use Rattle.screen_pictures.specs.Screen.{column_at, row_at}
use Rattle.screen_reading.specs.declared.along.Kind.TheVariants.{Name}
use Rattle.screen_reading.specs.Along.{end_of}
use Rattle.screen_reading.specs.Called.{word_between}
use Rattle.screen_reading.specs.Frames.{left_at, track_end}

-- whether no word of the track goes on from before column x
abbrev pub begins_word : List Cell → ℕ → Bool
begins_word row x = (x == left_at x) || not (is_name_byte (column_at row (x - 1)).ch)

-- whether it ends before the edge of the track, which may cut it
abbrev pub is_whole : List Cell → ℕ → Bool
is_whole row x = nat_lt (end_of Name row x) (track_end x)

abbrev pub is_command_word : List ℕ → Bool
is_command_word word = is_some (command_named newest_version word)

-- whether a word of a command begins at column x of a row, and is seen whole
unfoldable pub begins_command : List Cell → ℕ → Bool
begins_command row x = begins_word row x && (is_whole row x
    && is_command_word (word_between row x (end_of Name row x)))

-- ---- in reading order: the rows from the top, each from the left

abbrev pub count_of_cells : ℕ
count_of_cells = COLUMNS * ROWS

-- how many cells come before one
abbrev pub cells_before : ℕ × ℕ → ℕ
cells_before at = (ROWS - 1 - at.1) * COLUMNS + at.0

-- the cell before which there are so many
abbrev pub cell_after : ℕ → ℕ × ℕ
cell_after n = (n % COLUMNS, ROWS - 1 - n / COLUMNS)

-- the cell that comes k cells behind the one after a cell; after the last one the first comes
unfoldable pub cell_behind : ℕ × ℕ → ℕ → ℕ × ℕ
cell_behind at k = cell_after ((cells_before at + 1 + k) % count_of_cells)

abbrev pub has_command : List (List Cell) → ℕ × ℕ → Bool
has_command screen at = begins_command (row_at screen at.1) at.0

-- the first cell after this one at which a word of a command begins, if there is any
unfoldable pub next_command : ℕ × ℕ → List (List Cell) → Option (ℕ × ℕ)
next_command at screen = option_map (cell_behind at)
    (position (λ k. has_command screen (cell_behind at k)) (range_with_len 0 count_of_cells))
