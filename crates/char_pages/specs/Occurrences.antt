-- Where a byte occurs in sectors.
use Rattle.std.specs.Prelude.{◌≡◌, ◌+◌, ◌≤◌, ◌==◌, ℕ, Bool, List, [], ◌∷◌, length, count_by, slice_get, Option, Some, nat_lt, false}
use Rattle.std.specs.Prelude.{if◌then◌else◌, sum_by, option_map, unwrap_or}
use Rattle.sector_disk.specs.declared.disk.TheConstants.{SECTOR_BYTES}
use Rattle.char_pages.specs.declared.occurrences.Counted.{Counted}

-- the indices at which it stands in bytes of which the first has this index
unfoldable pub occurrences_from : ℕ → ℕ → List ℕ → List ℕ
occurrences_from wanted first [] = []
occurrences_from wanted first (b ∷ bytes) =
    if b == wanted then first ∷ occurrences_from wanted (first + 1) bytes
    else occurrences_from wanted (first + 1) bytes

abbrev pub occurrences : ℕ → List ℕ → List ℕ
occurrences wanted bytes = occurrences_from wanted 0 bytes

-- it is one of those from `from` up to before `to`
abbrev pub is_between : ℕ → ℕ → ℕ → Bool
is_between from to index = if nat_lt index from then false else nat_lt index to

-- those are the indices of a byte in a sector of these bytes
pub record AreIndices (wanted : ℕ) (bytes indices : List ℕ) : Type 0 where
  pub whole : length bytes ≡ SECTOR_BYTES
  pub all : indices ≡ occurrences wanted bytes

-- of each part of a sector they are no more than it has bytes
pub record AreFew (indices : List ℕ) : Type 0 where
  pub all : length indices ≤ SECTOR_BYTES
  pub part : (from few : ℕ) → from + few ≤ SECTOR_BYTES
      → count_by (is_between from (from + few)) indices ≤ few

-- each list that is known is one of this sort, of the sector of its number
abbrev pub EachKnown : (ℕ → List ℕ → Type 0) → List (Option Counted) → Type 0
EachKnown P known = (k : ℕ) (counted : Counted) → slice_get known k ≡ Some (Some counted)
    → P counted.number counted.indices.items

-- how many indices are known of a sector, and of these
abbrev pub indices_of : Option Counted → ℕ
indices_of known = unwrap_or (option_map (λ counted. length counted.indices.items) known) 0

abbrev pub indices_in : List (Option Counted) → ℕ
indices_in known = sum_by indices_of known
