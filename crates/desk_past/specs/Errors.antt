-- Which errors come where a moment of a past is worked out in memory.
use Rattle.std.specs.Prelude.{◌≡◌, ◌⊎◌, ℕ, [], ◌∷◌}
use Rattle.sector_disk.specs.Faults.{OneOf}
use Rattle.store_slots.specs.declared.error.Error.{Error}
use Rattle.store_slots.specs.declared.error.Error.TheVariants.{NoMemory, Fault, MustReopen, NotAStore}
use Rattle.store_slots.specs.declared.error.Error.TheVariants.{Damaged, TooSmall, Worn}

-- What an error of a store in memory is to those who have it made: its disk fails for want of memory alone, and only
-- behind that it must be opened again.
abbrev pub in_memory : Error → Error
in_memory NoMemory = NoMemory
in_memory Fault = NoMemory
in_memory MustReopen = NoMemory
in_memory NotAStore = NotAStore
in_memory (Damaged n) = Damaged n
in_memory TooSmall = TooSmall
in_memory Worn = Worn

-- what is done to a store in memory: Worn, where its last epoch is full
abbrev pub OfDoing : Error → Type 0
OfDoing = OneOf (NoMemory ∷ Worn ∷ [])

-- pages are read, and what they say is done in memory
abbrev pub OfSteps : Error → Type 0
OfSteps = OneOf (NoMemory ∷ Fault ∷ Worn ∷ [])

-- no store stands there, or a damaged one
abbrev pub IsNoStart : Error → Type 0
IsNoStart e = (e ≡ NotAStore) ⊎ ((n : ℕ) × (e ≡ Damaged n))

-- what is read in memory is a store, or no store
abbrev pub OfFound : Error → Type 0
OfFound e = (e ≡ NoMemory) ⊎ IsNoStart e

-- a store in memory is taken back to an earlier moment of its journal
abbrev pub OfGoingBack : Error → Type 0
OfGoingBack e = OfDoing e ⊎ OfFound e

-- a start is laid in memory
abbrev pub OfLaying : Error → Type 0
OfLaying e = OfSteps e ⊎ IsNoStart e

-- a moment is worked out of a store
abbrev pub OfMoment : Error → Type 0
OfMoment e = (e ≡ MustReopen) ⊎ OfLaying e
