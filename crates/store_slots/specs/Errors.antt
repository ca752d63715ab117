-- Which errors each call of a store has.
use Rattle.std.specs.Prelude.{◌≡◌, ◌⊎◌, ℕ, [], ◌∷◌}
use Rattle.sector_disk.specs.Faults.{OneOf}
use Rattle.store_slots.specs.declared.error.Error.{Error}
use Rattle.store_slots.specs.declared.error.Error.TheVariants.{NoMemory, Fault, MustReopen}
use Rattle.store_slots.specs.declared.error.Error.TheVariants.{NotAStore, Damaged, TooSmall, Worn}

abbrev pub OfDesktop : Error → Type 0
OfDesktop = OneOf (NoMemory ∷ Fault ∷ [])

abbrev pub OfLook : Error → Type 0
OfLook = OneOf (NoMemory ∷ Fault ∷ MustReopen ∷ [])

abbrev pub OfPost : Error → Type 0
OfPost = OneOf (NoMemory ∷ Fault ∷ MustReopen ∷ Worn ∷ [])

abbrev pub OfCheckpoint : Error → Type 0
OfCheckpoint = OneOf (Fault ∷ MustReopen ∷ Worn ∷ [])

abbrev pub OfFormat : Error → Type 0
OfFormat = OneOf (TooSmall ∷ Fault ∷ [])

abbrev pub OfReplay : Error → Type 0
OfReplay e = OneOf (NoMemory ∷ Fault ∷ []) e ⊎ ((n : ℕ) × (e ≡ Damaged n))

abbrev pub OfOpen : Error → Type 0
OfOpen e = OneOf (NoMemory ∷ Fault ∷ NotAStore ∷ []) e ⊎ ((n : ℕ) × (e ≡ Damaged n))

abbrev pub OfReopen : Error → Type 0
OfReopen e = OfPost e ⊎ OfOpen e
