-- What stands before the position that a reader has come to which goes backwards.
use Rattle.std.specs.Prelude.{ℕ, zero, suc, ◌≡◌, ◌-◌, ◌<◌, List, [], ◌∷◌, ◌++◌, length, take, Some, slice_get}
use Rattle.std.specs.Prelude.{slice_index}
use Rattle.std.proofs.Common.{refl, sym, ap, subst, ◌∙◌, arith}
use Rattle.piece_ring.specs.declared.piece.Look.{Look}
use Rattle.piece_ring.specs.Text.{Text}
use Rattle.readers_scanners.specs.Reading.{Reading, IsReadingBack, bytes_of_text}
use Rattle.readers_scanners.proofs.Walking.{byte_there}
use Rattle.readers_scanners.proofs.Upcoming.{point, one_read}

module _ {X : Type 0} where
  pub taken_last : (xs front : List X) (k : ℕ) (c : X) → k < length xs → front ++ c ∷ [] ≡ take (suc k) xs
      → (front ≡ take k xs) × (slice_get xs k ≡ Some c)
  taken_last [] front k c h e = absurd (let no : ⊥ = omega (arith, h) in no)
  taken_last (x ∷ xs) [] zero c h e = (refl, cc)
  taken_last (x ∷ []) [] (suc k) c h e = absurd (let no : ⊥ = omega (arith, h) in no)
  taken_last (x ∷ y ∷ xs) [] (suc k) c h e = cc
  taken_last (x ∷ xs) (y ∷ []) zero c h e = cc
  taken_last (x ∷ xs) (y ∷ z ∷ front) zero c h e = cc
  taken_last (x ∷ xs) (y ∷ front) (suc k) c h e =
      let same : y ≡ x = cc in
      let rest : front ++ c ∷ [] ≡ take (suc k) xs = cc in
      let r = taken_last xs front k c (omega (arith, h)) rest in
      ((λ i. same i ∷ r.0 i), r.1)

module _ (text before : Text ℕ) (pos : ℕ) (more : Text ℕ) (c : ℕ × Look) (some : 0 < pos)
    (is : IsReadingBack text pos before) (passed : before ≡ more ++ c ∷ []) where
  last : (more ≡ take (pos - 1) text) × (slice_get text (pos - 1) ≡ Some c)
  last =
      let within = is.within in
      taken_last text more (pos - 1) c (omega (arith, within, some))
      (sym passed ∙ is.front ∙ ap (λ n. take n text) (let e : pos ≡ suc (pos - 1) = omega (arith, some) in e))

  pub moves_back : IsReadingBack text (pos - 1) more
  moves_back = let within = is.within in record { within = omega (arith, within); front = last.0 }

  pub byte_behind : (characters : List ℕ) (r : Reading) (byte : ℕ) → point text pos ≡ r
      → byte ≡ slice_index characters c.0 → slice_get (bytes_of_text characters r.text) (pos - 1) ≡ Some byte
  byte_behind characters r byte e value =
      subst (λ (x : Reading). slice_get (bytes_of_text characters x.text) (pos - 1) ≡ Some byte) e
      (byte_there characters text (pos - 1) (slice_index characters c.0, c.1)
      (one_read characters text (pos - 1) c last.1) ∙ ap Some (sym value))

pub some_behind : (text : Text ℕ) (pos : ℕ) (r : Reading) → point text pos ≡ r → 0 < r.position → 0 < pos
some_behind text pos r e h = subst (λ (x : Reading). 0 < x.position) (sym e) h
