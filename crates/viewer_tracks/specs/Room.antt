-- Where a new viewer finds room in a track: in the filler while that has four rows, and otherwise in the tallest
-- viewer, the lowest of several.
use Rattle.std.specs.Prelude.{ℕ, ◌+◌, ◌/◌, if◌then◌else◌, nat_le, ◌==◌, max, List, length, fold}
use Rattle.std.specs.List.{position_or_len}
use Rattle.viewer_tracks.specs.declared.display.TheConstants.{ROWS}
use Rattle.viewer_tracks.specs.Viewers.{Entry, bottom_of}

-- the height of the tallest viewer
abbrev pub greatest_height : List Entry → ℕ
greatest_height t = fold (λ h e. max h e.height) 0 t

-- the least entry that has this height
abbrev pub tallest : List Entry → ℕ
tallest t = position_or_len (λ e. e.height == greatest_height t) t

-- the row at which the new viewer opens: the filler's top, or the middle of the tallest viewer
unfoldable pub free_row : List Entry → ℕ
free_row t =
    if nat_le (bottom_of t (length t) + 4) ROWS then ROWS else bottom_of t (tallest t)
    + greatest_height t / 2
