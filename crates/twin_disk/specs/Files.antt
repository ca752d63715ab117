-- Bytes of two files of the host that are compared.
use Rattle.std.specs.Prelude.{◌≡◌, ◌<◌, ◌+◌, ℕ}
use Rattle.sector_disk.specs.FileTrail.{FileTrail, current}

-- n bytes from an offset on read the same in two files
abbrev pub AgreeFrom : ℕ → ℕ → FileTrail → FileTrail → Type 0
AgreeFrom from n one other = (i : ℕ) → i < n
    → (current one).reads (from + i) ≡ (current other).reads (from + i)

-- the bytes before an offset read the same in two files
abbrev pub AgreeUpTo : ℕ → FileTrail → FileTrail → Type 0
AgreeUpTo end one other = (i : ℕ) → i < end → (current one).reads i ≡ (current other).reads i
