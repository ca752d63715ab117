-- The pending sectors, picked from all that were written.
use Rattle.std.proofs.Common.{◌≡◌, ℕ, List, [], ◌∷◌, ◌++◌, Bool, true, false, ◌&&◌, if◌then◌else◌, nat_eq}
use Rattle.std.proofs.Common.{refl, sym, ◌∙◌, ap, subst, arith, append_assoc}
use Rattle.std.specs.declared.option.Option.{Option}
use Rattle.std.specs.declared.option.Option.TheVariants.{None, Some}
use Rattle.std.specs.Option.{is_some}
use Rattle.std.specs.List.{filter}
use Rattle.std.specs.List.Sorted.{IsStrictlySortedBy}
use Rattle.std.specs.Ordering.{nat_cmp, eq_by_cmp}
use Rattle.std.specs.Set.{is_member}
use Rattle.std.specs.BTreeMap.{get, keys}
use Rattle.std.specs.Cmp.{nat_eq_equiv}
use Rattle.std.proofs.lemmas.Bool.Decides.{nat_tests}
use Rattle.std.proofs.lemmas.List.Kept.{IsStrictlySortedBy-filter}
use Rattle.std.proofs.lemmas.Map.Made.{is_member-filter}
use Rattle.sector_disk.specs.declared.sectors.KnownSector.{KnownSector}
use Rattle.sector_disk.specs.declared.sectors.Sectors.{Sectors}
use Rattle.sector_disk.specs.Sectors.{settled_in, settled_of, moment_of}
use Rattle.sector_disk.proofs.Images.{same_test}

-- one more of all is looked at
pub looked_at : (p : ℕ → Bool) (found rest all : List ℕ) (n : ℕ) (b : Bool) → b ≡ p n
    → found ++ filter p (n ∷ rest) ≡ all → (found ++ (if b then n ∷ [] else [])) ++ filter p rest ≡ all
looked_at p found rest all n b is so_far = by b is
  where
    by : (b : Bool) → b ≡ p n → (found ++ (if b then n ∷ [] else [])) ++ filter p rest ≡ all
    by true is = append_assoc found (n ∷ []) (filter p rest)
        ∙ ap (λ b. found ++ (if b then n ∷ filter p rest else filter p rest)) is ∙ so_far
    by false is = append_assoc found [] (filter p rest)
        ∙ ap (λ b. found ++ (if b then n ∷ filter p rest else filter p rest)) is ∙ so_far

known : (settled : List (ℕ × List ℕ)) (n : ℕ) (o : Option KnownSector) → is_some (settled_in settled n o) ≡ true
    → is_some o ≡ true
known settled n None none = absurd (cc)
known settled n (Some sector) some = refl

-- what was picked of all that were written
module _ (s : Sectors) (picked : List ℕ) (is : picked ≡ filter (moment_of s).pending (keys s.latest)) where
  pub rising : IsStrictlySortedBy nat_cmp (keys s.latest) → IsStrictlySortedBy nat_cmp picked
  rising ordered = subst (IsStrictlySortedBy nat_cmp) (sym is)
      (IsStrictlySortedBy-filter nat_cmp (moment_of s).pending (keys s.latest) ordered)

  pub which : ((q : ℕ) → is_some (get nat_cmp s.latest q) ≡ is_member (eq_by_cmp nat_cmp) (keys s.latest) q)
      → (n : ℕ) → is_member nat_eq picked n ≡ (moment_of s).pending n
  unfolding moment_of settled_of
  which has n = ap (λ l. is_member nat_eq l n) is
      ∙ is_member-filter nat_eq_equiv (moment_of s).pending n alike (keys s.latest)
      ∙ both ((moment_of s).pending n) refl
    where
      alike : (x : ℕ) → nat_eq n x ≡ true → (moment_of s).pending n ≡ (moment_of s).pending x
      alike x same = let here : n ≡ x = grind (arith, nat_tests) in ap (moment_of s).pending here

      neither : (b : Bool) → (b && false) ≡ false
      neither true = refl
      neither false = refl

      both : (b : Bool) → (moment_of s).pending n ≡ b
          → (is_member nat_eq (keys s.latest) n && (moment_of s).pending n) ≡ (moment_of s).pending n
      both true pends = ap (λ b. b && (moment_of s).pending n) (sym (same_test (keys s.latest) n) ∙ sym (has n)
          ∙ known s.settled n (get nat_cmp s.latest n) pends)
      both false quiet = ap (λ b. is_member nat_eq (keys s.latest) n && b) quiet
          ∙ neither (is_member nat_eq (keys s.latest) n) ∙ sym quiet
