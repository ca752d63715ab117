-- Laws of calls that only read: none, and one after another.
use Rattle.std.proofs.Common.{ℕ, List, refl, ◌∙◌, arith}
use Rattle.char_file.specs.Source.{OnlyReads}

module _ {S : Type 0} (characters : S → List ℕ) (failures : S → ℕ) (honest : S → Type 0) (same_ground : S → S
    → Type 0) where
  pub no_read : ((s : S) → same_ground s s) → (s : S) → OnlyReads characters failures honest same_ground s s
  no_read ground_self s = record {
    as_long = refl;
    same = λ h. refl;
    still = λ h. h;
    already = λ h. h;
    stands = ground_self s;
    no_fewer = omega arith;
  }

  pub read_on : ((a b c : S) → same_ground a b → same_ground b c → same_ground a c) → (a b c : S)
      → OnlyReads characters failures honest same_ground a b → OnlyReads characters failures honest same_ground b c
      → OnlyReads characters failures honest same_ground a c
  read_on ground_through a b c first second = record {
    as_long = second.as_long ∙ first.as_long;
    same = λ h. second.same (first.still h) ∙ first.same h;
    still = λ h. second.still (first.still h);
    already = λ h. first.already (second.already h);
    stands = ground_through a b c first.stands second.stands;
    no_fewer = omega (arith, first.no_fewer, second.no_fewer);
  }
