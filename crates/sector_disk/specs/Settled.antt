-- The bytes that pending sectors had at the last sync: each with the number of its sector, by places.
use Rattle.std.specs.Prelude.{◌==◌, ℕ, List, Option, None, Some, if◌then◌else◌, slice_get}

-- the bytes, if they are that sector's
abbrev pub of_sector : ℕ → Option (ℕ × List ℕ) → Option (List ℕ)
of_sector n None = None
of_sector n (Some kept) = if kept.0 == n then Some kept.1 else None

-- what is kept of sector n, if it is at this place
unfoldable pub settled_place : List (ℕ × List ℕ) → ℕ → ℕ → Option (List ℕ)
settled_place all n place = of_sector n (slice_get all place)
