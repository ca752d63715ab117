-- Two legs as one disk: which of them is right.
use Rattle.std.specs.Prelude.{◌≡◌, ◌<◌, ◌+◌, ◌⊎◌, ℕ, Bool, true, false}
use Rattle.sector_disk.specs.declared.disk.Disk.{Ghosts}
use Rattle.sector_disk.specs.Trail.{now}
use Rattle.twin_disk.specs.Choosing.{OfChosen, choice_of}
use Rattle.twin_disk.specs.Flags.{says_alone, says_closed}
use Rattle.twin_disk.specs.Survival.{twin_moments, twin_size}
use Rattle.twin_disk.specs.declared.choosing.Leg.{Leg}
use Rattle.twin_disk.specs.declared.choosing.Leg.TheVariants.{First, Second}
use Rattle.twin_files.specs.declared.pairing.Pair.{Pair}
use Rattle.twin_files.specs.declared.pairing.Unpaired.{Unpaired}
use Rattle.twin_files.specs.declared.pairing.Unpaired.TheVariants.{BothAlone, PutBack}

-- what no crash leaves two legs saying that differ: neither *alone*, and one *closed*
abbrev pub SaysOlder : Bool → Bool → Bool → Bool → Type 0
SaysOlder alone alone' closed closed' = (alone ≡ false) × (alone' ≡ false)
    × ((closed ≡ true) ⊎ (closed' ≡ true))

module _ {D : Type 0} (d : Ghosts D) (sectors : ℕ) where
  -- what a leg says: that it is alone, and that it was closed
  abbrev pub leg_flag : D → Bool
  leg_flag leg = says_alone ((now (d.trail leg)).reads sectors)

  abbrev pub leg_closed : D → Bool
  leg_closed leg = says_closed ((now (d.trail leg)).reads (sectors + 1))

  -- if two legs differ, one of them is an older copy
  abbrev pub HasOlder : D → D → Type 0
  HasOlder first second = SaysOlder (leg_flag first) (leg_flag second) (leg_closed first)
      (leg_closed second)

  -- a disk of so many sectors, each of which reads as that of this leg
  pub record IsPairFrom (swapped : Bool) (right other : D) (pair : Pair D d) : Type 0 where
    pub size : twin_size pair.disk ≡ sectors
    pub order : pair.swapped ≡ swapped
    pub reads : d.honest right → d.honest other → (n : ℕ) → n < sectors
        → (now (twin_moments pair.disk)).reads n ≡ (now (d.trail right)).reads n

  -- that of the leg which the flags choose
  abbrev pub IsPairOf : D → D → Pair D d → Type 0
  IsPairOf first second pair = d.honest first → d.honest second
      → OfChosen (choice_of (leg_flag first) (leg_flag second))
      (IsPairFrom false first second pair) (IsPairFrom true second first pair)

  -- `BothAlone` is true
  abbrev pub AreBothAlone : D → D → Unpaired → Type 0
  AreBothAlone first second why = why ≡ BothAlone → d.honest first → d.honest second
      → (leg_flag first ≡ true) × (leg_flag second ≡ true)

  -- `PutBack` is true
  abbrev pub IsPutBack : Bool → D → D → Unpaired → Type 0
  IsPutBack same first second why = why ≡ PutBack
      → (same ≡ false) × (d.honest first → d.honest second → HasOlder first second)

  -- a leg has failed: the other one says *alone*
  abbrev pub HasLegFailed : D → D → Leg → Type 0
  HasLegFailed first second First = d.honest second → leg_flag second ≡ true
  HasLegFailed first second Second = d.honest first → leg_flag first ≡ true
