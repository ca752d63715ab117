-- How a column is kept: its tracks from the lowest up, and how many of them others cover.
use Rattle.std.specs.Prelude.{ℕ, zero, suc, List, [], ◌∷◌, get_or}
use Rattle.viewer_tracks.specs.Viewers.{Entry}

-- the first n tracks, the last of them first
abbrev pub first_tracks : List (List Entry) → ℕ → List (List Entry)
first_tracks tracks zero = []
first_tracks tracks (suc n) = get_or tracks n [] ∷ first_tracks tracks n

-- the stack in which n tracks are covered
abbrev pub stack_over : List (List Entry) → ℕ → List (List Entry)
stack_over tracks n = get_or tracks n [] ∷ first_tracks tracks n
