-- What was read of an image, and the desktops of which its bytes are the image.
use Rattle.std.proofs.Common.{◌≡◌, ℕ, ◌<◌, ◌^◌, ◌∙◌, ◌==◌, Bool, true, false, cond, length, if◌then◌else◌}
use Rattle.std.proofs.Common.{List, [], ◌∷◌, refl, sym, ap, subst, Err}
use Rattle.std.proofs.Common.{Option, Some, None, arith}
use Rattle.std.proofs.lemmas.Bool.{eqb-true}
use Rattle.desktop_definitions.specs.Desktop.{KeptDesktop}
use Rattle.image_format.specs.declared.fault.ImageFault.{ImageFault}
use Rattle.image_format.specs.declared.fault.ImageFault.TheVariants.{Damaged}
use Rattle.image_format.specs.Fitting.{FitsImage}
use Rattle.image_format.specs.Image.{Image, image_of, image_bytes, IsSpellable, Spells}
use Rattle.image_format.specs.Reading.{desktop_image_at, whole_image_at}
use Rattle.image_format.specs.Laws.{ReadingLaw, FittingLaw}
use Rattle.image_format.specs.Streams.{Gives}
use Rattle.event_bytes.specs.Parts.{◌>>=◌}
use Rattle.event_bytes.proofs.PartLaws.{some_is}
use Rattle.desktop_image.specs.Images.{IsDesktopOf}

empty_is : (l : List ℕ) → (length l == 0) ≡ true → l ≡ []
empty_is [] is = refl
empty_is (b ∷ l) is = absurd (let long = eqb-true (length (b ∷ l)) 0 is in omega (arith, long))

at_end : (x : Image × List ℕ) (i : Image) (rest : List ℕ) (b : Bool) → (length x.1 == 0) ≡ b
    → (let o : Option (Image × List ℕ) = cond b (Some x) None in o) ≡ Some (i, rest) → rest ≡ []
at_end x i rest true none is =
    ap (λ (y : Image × List ℕ). y.1) (sym (some_is {A = Image × List ℕ} x (i, rest) is)) ∙ empty_is x.1 none
at_end x i rest false some is = absurd cc

-- an image is read to the end
no_rest : (version written : ℕ) (bytes : List ℕ) (i : Image) (rest : List ℕ)
    → whole_image_at version written bytes ≡ Some (i, rest) → rest ≡ []
unfolding whole_image_at
no_rest version written bytes i rest is = (elim (desktop_image_at version written bytes) as
    (λ o. (o >>= λ image. if length image.1 == 0 then Some image else None) ≡ Some (i, rest) → rest ≡ []) [
      | None ↦ λ is. absurd cc
      | Some x ↦ λ is. at_end x i rest (length x.1 == 0) refl is
    ]) is

module _ (version written : ℕ) (bytes : List ℕ) (small : written < 2 ^ 32) (reading : ReadingLaw) where
  -- a desktop with the parts that were read is one of which the bytes are the image
  pub is_spelled : (i : Image) (rest : List ℕ) (d : KeptDesktop) → whole_image_at version written bytes ≡ Some (i, rest)
      → IsDesktopOf written i d → IsSpellable version d → Spells version written bytes d
  is_spelled i rest d read of parts =
      let end = no_rest version written bytes i rest read in
      let all = (reading version written bytes i small).0
      (read ∙ ap (λ l. (let o : Option (Image × List ℕ) = Some (i, l) in o)) end) in
      record {
        count = of.count;
        whole = of.whole;
        parts = parts;
        exact = all.1 ∙ ap (image_bytes version) (sym of.image);
      }

-- a desktop of which the bytes are the image is read from them
module _ (version written : ℕ) (bytes : List ℕ) (small : written < 2 ^ 32) (reading : ReadingLaw)
    (fitting : FittingLaw) where
  read_back : (d : KeptDesktop) → Spells version written bytes d
      → whole_image_at version written bytes ≡ Some (image_of d, [])
  read_back d spells =
      let fits : FitsImage version written (image_of d) =
      subst (λ (n : ℕ). FitsImage version n (image_of d)) spells.count (fitting version d spells.whole spells.parts) in
      (reading version written bytes (image_of d) small).1 (fits, spells.exact)

  -- so there is none where nothing is read
  pub none_read : {X : Type 0} (view : X → Image) (why : ImageFault) (rest : List ℕ) → why ≡ Damaged
      → Gives view (Err why) rest (whole_image_at version written bytes)
      → (d : KeptDesktop) → ¬ Spells version written bytes d
  none_read view why rest is gives = λ d spells.
      let none : whole_image_at version written bytes ≡ None =
      subst (λ (e : ImageFault). Gives view (Err e) rest (whole_image_at version written bytes)) is gives in
      let no : (let o : Option (Image × List ℕ) = None in o) ≡ Some (image_of d, []) = sym none ∙ read_back d spells in
      absurd (cc no)

  -- and none where what is read makes none
  pub none_made : (i : Image) (rest : List ℕ) → whole_image_at version written bytes ≡ Some (i, rest)
      → ((d : KeptDesktop) → ¬ IsDesktopOf written i d) → (d : KeptDesktop) → ¬ Spells version written bytes d
  none_made i rest read none = λ d spells.
      let same : (image_of d, []) ≡ (i, rest) =
      some_is {A = Image × List ℕ} (image_of d, []) (i, rest) (sym (read_back d spells) ∙ read) in
      none d (record {
        count = spells.count;
        whole = spells.whole;
        image = ap (λ (x : Image × List ℕ). x.0) same;
      })
