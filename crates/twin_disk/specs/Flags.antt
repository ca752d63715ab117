-- The flag of a leg: whether it goes on without its twin. It stands in the first byte of a sector behind those of the twin.
use Rattle.std.specs.Prelude.{◌≡◌, ◌==◌, ℕ, List, Bool, false, drop, get_or, replicate, take}
use Rattle.sector_disk.specs.Trail.{Moment}
use Rattle.twin_disk.specs.declared.flags.TheConstants.{ALONE, CLOSED, NAME_BYTES}

-- a sector says *alone*; any other one says *in pair*
abbrev pub says_alone : List ℕ → Bool
says_alone bytes = get_or bytes 0 0 == ALONE

-- the sector behind it says *closed*: the leg was closed with its twin
abbrev pub says_closed : List ℕ → Bool
says_closed bytes = get_or bytes 0 0 == CLOSED

-- the name of the pair in a sector, and none, which is zeros
abbrev pub pair_name : List ℕ → List ℕ
pair_name bytes = take NAME_BYTES (drop 1 bytes)

abbrev pub IsNameless : List ℕ → Type 0
IsNameless name = name ≡ replicate NAME_BYTES 0

-- the sector with the flag is settled, and says whether the leg is alone
pub record ShowsFlag (flag : ℕ) (alone : Bool) (m : Moment) : Type 0 where
  pub settled : m.pending flag ≡ false
  pub says : says_alone (m.reads flag) ≡ alone

-- the sector with the mark is settled, and doesn't say *closed*
pub record IsOpen (mark : ℕ) (m : Moment) : Type 0 where
  pub settled : m.pending mark ≡ false
  pub says : says_closed (m.reads mark) ≡ false
