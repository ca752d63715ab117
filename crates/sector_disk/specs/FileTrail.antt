-- A file of the host by what it was at each moment: what each of its bytes read as, and what a crash then may have left
-- of them. A byte is named by its offset. From the file's end on each byte counts as zero.
use Rattle.std.specs.Prelude.{◌≡◌, ◌<◌, ◌≤◌, ◌+◌, ◌-◌, ◌&&◌, ℕ, List, Bool, true, false, if◌then◌else◌, length, get_or}
use Rattle.std.specs.Prelude.{nat_le, nat_lt}

-- one moment: what a read of each byte gives, and which bytes were written after the last sync
pub record FileMoment : Type 0 where
  pub reads : ℕ → ℕ
  pub pending : ℕ → Bool

-- the moments of a file, numbered up to the present one
pub record FileTrail : Type 0 where
  pub clock : ℕ
  pub at : ℕ → FileMoment

-- the present moment
abbrev pub current : FileTrail → FileMoment
current f = f.at f.clock

-- what a crash at a moment may leave: a pending byte may be any, each other one is what a read of it gives
abbrev pub IsFileImage : FileMoment → (ℕ → ℕ) → Type 0
IsFileImage m image = (i : ℕ) → m.pending i ≡ false → image i ≡ m.reads i

-- n bytes from an offset on
abbrev pub Span : ℕ → ℕ → ℕ → Type 0
Span from n i = (from ≤ i) × (i < from + n)

abbrev pub in_span : ℕ → ℕ → ℕ → Bool
in_span from n i = nat_le from i && nat_lt i (from + n)

-- the moment after these bytes were written from an offset on
abbrev pub overwritten : FileMoment → ℕ → List ℕ → FileMoment
overwritten m from bytes = record {
  reads = λ i. if in_span from (length bytes) i then get_or bytes (i - from) 0 else m.reads i;
  pending = λ i. if in_span from (length bytes) i then true else m.pending i;
}

-- the moment after a sync
abbrev pub file_synced : FileMoment → FileMoment
file_synced m = record { reads = m.reads; pending = λ _. false }

-- the past stayed as it was, and at every moment from old to new each byte outside the area read as at old, and was
-- settled if it was so at old
pub record ChangesOnly (area : ℕ → Type 0) (old new : FileTrail) : Type 0 where
  pub later : old.clock ≤ new.clock
  pub kept : (t : ℕ) → t ≤ old.clock → new.at t ≡ old.at t
  pub reads : (t : ℕ) → old.clock ≤ t → t ≤ new.clock → (i : ℕ) → ¬ area i
      → (new.at t).reads i ≡ (current old).reads i
  pub settled : (t : ℕ) → old.clock ≤ t → t ≤ new.clock → (i : ℕ) → ¬ area i
      → (current old).pending i ≡ false
      → (new.at t).pending i ≡ false

-- calls that were confined to the bytes of an area: the file is honest exactly if it was, and where it is honest no other
-- byte was touched
pub record IsFileConfined {F : Type 0} (honest : F → Type 0) (trail : F → FileTrail)
    (area : ℕ → Type 0) (old new : F) :
    Type 0 where
  pub still : honest old → honest new
  pub already : honest new → honest old
  pub moments : honest old → ChangesOnly area (trail old) (trail new)

-- a call after which nothing more is told of a file: what it was up to then stays as it was
pub record EndsTrail {F : Type 0} (honest : F → Type 0) (trail : F → FileTrail)
    (old new : F) : Type 0 where
  pub still : honest old → honest new
  pub already : honest new → honest old
  pub same : trail new ≡ trail old
