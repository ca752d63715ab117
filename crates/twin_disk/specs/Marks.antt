-- What calls leave of the mark of a leg, which says *closed* in the sector behind that of its flag.
use Rattle.std.specs.Prelude.{◌≡◌, ◌⊎◌, ◌<◌, ◌≤◌, ◌+◌, ℕ, List, Bool, true, false, Result, Ok, Err, OnOk, IsErr}
use Rattle.sector_disk.specs.declared.disk.Disk.{Ghosts}
use Rattle.sector_disk.specs.Trail.{Moment, now, written, Only, CountsFault}
use Rattle.sector_disk.specs.Confined.{IsConfined}
use Rattle.twin_disk.specs.Flags.{IsOpen}

-- the sectors from that of the flag on
abbrev pub Behind : ℕ → ℕ → Type 0
Behind flag k = flag ≤ k

-- a sector, and that of the mark
abbrev pub OrMark : ℕ → ℕ → ℕ → Type 0
OrMark flag n k = (k ≡ n) ⊎ (k ≡ flag + 1)

-- the sectors before the flag read as at another moment, and are settled if they were then
pub record KeepsBefore (flag : ℕ) (x y : Moment) : Type 0 where
  pub reads : (n : ℕ) → n < flag → y.reads n ≡ x.reads n
  pub settled : (n : ℕ) → n < flag → x.pending n ≡ false → y.pending n ≡ false

-- Calls of a leg that may say *closed* if `closed` says so, and then if `closed'` does: at each moment it was as before,
-- or its mark was gone.
pub record HasOpened {D : Type 0} (d : Ghosts D) (flag : ℕ) (closed closed' : Bool)
    (old new : D) : Type 0 where
  pub still : d.honest new
  pub later : (d.trail old).clock ≤ (d.trail new).clock
  pub kept : (t : ℕ) → t ≤ (d.trail old).clock → (d.trail new).at t ≡ (d.trail old).at t
  pub each : (u : ℕ) → (d.trail old).clock ≤ u → u ≤ (d.trail new).clock
      → IsOpen (flag + 1) ((d.trail new).at u)
      ⊎ ((closed ≡ true) × KeepsBefore flag (now (d.trail old)) ((d.trail new).at u))
  pub last : closed' ≡ true
      → (closed ≡ true) × KeepsBefore flag (now (d.trail old)) (now (d.trail new))
  pub gone : closed' ≡ false → IsOpen (flag + 1) (now (d.trail new))

-- the same of an honest leg, whose mark is gone unless it may say *closed*
abbrev pub Opens : {D : Type 0} → Ghosts D → ℕ → Bool → Bool → D → D → Type 0
Opens d flag closed closed' old new = d.honest old
    → (closed ≡ false → IsOpen (flag + 1) (now (d.trail old)))
    → HasOpened d flag closed closed' old new

-- a write to a leg whose mark was taken off; where that failed nothing is done
pub record IsLegWritten {D E : Type 0} (d : Ghosts D) (n : ℕ) (bytes : List ℕ)
    (result : Result (Unit {0}) E) (old new : D) : Type 0 where
  pub kept : IsConfined d.size d.honest d.trail (Only n) old new
  pub cause : CountsFault result (d.failures old) (d.failures new)
  pub wrote : OnOk result (d.honest old → now (d.trail new) ≡ written (now (d.trail old)) n bytes)

abbrev pub WritesOpened : {D E : Type 0} → Ghosts D → Result (Unit {0}) E → ℕ → List ℕ
    → Result (Unit {0}) E → D → D → Type 0
WritesOpened d (Ok _) n bytes result old new = IsLegWritten d n bytes result old new
WritesOpened d (Err _) n bytes result old new = IsErr result × (new ≡ old)
