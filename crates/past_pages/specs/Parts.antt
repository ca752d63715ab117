-- The parts of the room behind a store, all of the same size.
use Rattle.std.specs.Prelude.{◌≡◌, ◌⊎◌, ◌+◌, ◌-◌, ◌*◌, ◌/◌, ◌≤◌, ℕ}
use Rattle.store_layout.specs.declared.layout.TheConstants.{STORE_SECTORS}
use Rattle.past_pages.specs.declared.parts.TheConstants.{PARTS, PART_SECTORS}

-- where a part begins, the first of which is 0
abbrev pub part_base : ℕ → ℕ
part_base place = PARTS + PART_SECTORS * place

-- A part of a disk of so many sectors, from the first sector up to the last one, which isn't of it.
pub record IsPastPart (size base end : ℕ) : Type 0 where
  pub place : ℕ
  pub begins : base ≡ part_base place
  pub ends : end ≡ base + PART_SECTORS
  pub room : end ≤ size

-- how many there are, and where the last one ends
abbrev pub part_count : ℕ → ℕ
part_count size = (size - PARTS) / PART_SECTORS

abbrev pub parts_end : ℕ → ℕ
parts_end size = part_base (part_count size)

-- there are two at least
pub record HasParts (size : ℕ) : Type 0 where
  pub two : part_base 2 ≤ size

-- in this sector of a part its pages go on
abbrev pub GoesOnIn : ℕ → ℕ → ℕ → Type 0
GoesOnIn base end next = (base + STORE_SECTORS ≤ next) × (next ≤ end)

-- a part, beside the one in which pages go on in this sector, if they do so in one
pub record IsPartBeside (size next base : ℕ) : Type 0 where
  pub part : IsPastPart size base (base + PART_SECTORS)
  pub beside : ¬ GoesOnIn base (base + PART_SECTORS) next

-- A start from this sector on touches nothing of a part whose pages go on in that sector.
abbrev pub LiesBeside : ℕ → ℕ → ℕ → Type 0
LiesBeside size next from = (base end : ℕ) → IsPastPart size base end → base + STORE_SECTORS ≤ next
    → next ≤ end → (from + STORE_SECTORS ≤ base) ⊎ (next ≤ from)
