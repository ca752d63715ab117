-- The pair of two legs is that of the leg which the flags choose.
use Rattle.std.proofs.Common.{◌≡◌, inl, inr, Bool, false, true, sym, ◌∙◌, ap, subst, ℕ}
use Rattle.sector_disk.specs.declared.disk.Disk.{Ghosts}
use Rattle.sector_disk.specs.Trail.{Nowhere}
use Rattle.sector_disk.specs.Confined.{IsConfined}
use Rattle.sector_disk.proofs.Touching.{still_reads}
use Rattle.twin_disk.specs.declared.choosing.Choice.{Choice}
use Rattle.twin_disk.specs.declared.choosing.Choice.TheVariants as choice
use Rattle.twin_disk.specs.Choosing.{OfChosen, choice_of}
use Rattle.twin_files.specs.declared.pairing.Pair.{Pair}
use Rattle.twin_files.specs.Pairing.{HasOlder, IsPairFrom, IsPairOf, SaysOlder, leg_closed, leg_flag}

module _ {D : Type 0} (d : Ghosts D) (n : ℕ) where
  -- legs of which nothing was touched
  pair_before : (swapped : Bool) (right right1 other other1 : D) → IsConfined d.size d.honest d.trail Nowhere right right1
      → IsConfined d.size d.honest d.trail Nowhere other other1 → (pair : Pair D d)
      → IsPairFrom d n swapped right1 other1 pair → IsPairFrom d n swapped right other pair
  pair_before swapped right right1 other other1 from to pair was = record {
    size = was.size;
    order = was.order;
    reads = λ h h' k low. was.reads (from.still h) (to.still h') k low
        ∙ still_reads (d.trail right) (d.trail right1) (from.moments h) k (λ none. none);
  }

  module _ (first first1 second second1 : D) (mine other : Bool)
      (from : IsConfined d.size d.honest d.trail Nowhere first first1)
      (to : IsConfined d.size d.honest d.trail Nowhere second second1)
      (says : d.honest first → mine ≡ leg_flag d n first) (tells : d.honest second → other ≡ leg_flag d n second) where
    of_chosen : (c : Choice) → choice_of mine other ≡ c → (pair : Pair D d)
        → OfChosen c (IsPairFrom d n false first second pair) (IsPairFrom d n true second first pair)
        → IsPairOf d n first second pair
    of_chosen c is pair was = λ h h'.
        let flags : choice_of (leg_flag d n first) (leg_flag d n second) ≡ c =
        ap (λ (b : Bool). choice_of b (leg_flag d n second)) (sym (says h))
        ∙ ap (λ (b : Bool). choice_of mine b) (sym (tells h')) ∙ is in
        subst (λ (it : Choice). OfChosen it (IsPairFrom d n false first second pair) (IsPairFrom d n true second first pair))
        (sym flags) was

    pub of_first : (c : Choice) → c ≡ choice_of mine other → c ≡ choice.First → (pair : Pair D d)
        → IsPairFrom d n false first1 second1 pair → IsPairOf d n first second pair
    of_first c is first_chosen pair was = of_chosen choice.First (sym is ∙ first_chosen) pair
        (pair_before false first first1 second second1 from to pair was)

    pub of_second : (c : Choice) → c ≡ choice_of mine other → c ≡ choice.Second → (pair : Pair D d)
        → IsPairFrom d n true second1 first1 pair → IsPairOf d n first second pair
    of_second c is second_chosen pair was = of_chosen choice.Second (sym is ∙ second_chosen) pair
        (pair_before true second second1 first first1 to from pair was)

    -- what both say of an older copy
    module _ (closed closed' : Bool) (ended : d.honest first → closed ≡ leg_closed d n first)
        (ended' : d.honest second → closed' ≡ leg_closed d n second) (h : d.honest first) (h' : d.honest second) where
      pub told_older : SaysOlder mine other closed closed' → HasOlder d n first second
      told_older older = (
        sym (says h) ∙ older.0,
        sym (tells h') ∙ older.1,
        elim older.2 [
          | inl is ↦ inl (sym (ended h) ∙ is)
          | inr is ↦ inr (sym (ended' h') ∙ is)
        ],
      )

      pub would_tell : HasOlder d n first second → SaysOlder mine other closed closed'
      would_tell older = (
        says h ∙ older.0,
        tells h' ∙ older.1,
        elim older.2 [
          | inl is ↦ inl (ended h ∙ is)
          | inr is ↦ inr (ended' h' ∙ is)
        ],
      )
