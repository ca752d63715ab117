-- What calls leave of a source of characters.
use Rattle.std.specs.Prelude.{◌≡◌, ◌↔◌, ℕ, ◌+◌, ◌<◌, ◌≤◌, ◌==◌, List, length, count_by, slice_range}

-- the most characters that a source holds
abbrev pub most_characters : ℕ
most_characters = 4194304

-- Of the characters from an offset on so many were looked at, one at least, of which so many are the wanted byte.
pub record IsCountedFrom (honest : Type 0) (characters : List ℕ) (offset limit wanted : ℕ)
    (counts : ℕ × ℕ) : Type 0 where
  pub some : 0 < counts.0
  pub most : counts.0 ≤ limit
  pub exact : honest → counts.1
      ≡ count_by (λ b. b == wanted) (slice_range characters offset (offset + counts.0))
  pub few : counts.1 ≤ counts.0

-- A call that only reads leaves the source as it was.
pub record OnlyReads {S : Type 0} (characters : S → List ℕ) (failures : S → ℕ) (honest : S → Type 0)
    (same_ground : S
    → S → Type 0)
    (old new : S) : Type 0 where
  -- it is as long as before
  pub as_long : length (characters new) ≡ length (characters old)
  -- where it is honest it has the same characters
  pub same : honest old → characters new ≡ characters old
  -- it is honest exactly if it was
  pub still : honest old → honest new
  pub already : honest new → honest old
  -- it stands on the same ground
  pub stands : same_ground old new
  -- it has failed no fewer times
  pub no_fewer : failures old ≤ failures new

-- A call that adds or exchanges characters leaves the rest as it was, whatever it returned.
pub record KeepsGround {S : Type 0} (failures : S → ℕ) (honest : S → Type 0) (same_ground : S → S
    → Type 0) (old new : S) : Type 0 where
  -- the source is honest exactly if it was
  pub premise : honest new ↔ honest old
  -- it has failed as often
  pub as_often : failures new ≡ failures old
  -- it stands on the same ground
  pub stands : same_ground old new
