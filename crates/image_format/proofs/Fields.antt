-- The parts of an image of which lists are made, and those that stand alone.
use Rattle.std.proofs.Common.{◌≡◌, ℕ, ◌+◌, ◌-◌, ◌*◌, ◌/◌, ◌%◌, ◌^◌, ◌<◌, true, cond, ltb, List, [], ◌∷◌, ◌++◌}
use Rattle.std.proofs.Common.{Some, None, refl, sym, ap, subst, ◌∙◌, arith, inl, inr}
use Rattle.std.specs.Prelude.{IsTrue, nat_eq, ℤ, pos, negsuc, ◌-ℤ◌, int_le}
use Rattle.std.proofs.lemmas.Bool.{ltb-true, lt-ltb, cases_lt, eqb-true}
use Rattle.std.proofs.lemmas.Bool.Decides.{nat_tests}
use Rattle.std.proofs.lemmas.Int.{ints}
use Rattle.event_bytes.specs.Parts.{byte, word_bytes, counted_bytes, byte_at, pair_at, TakesValue, IsPart}
use Rattle.event_bytes.proofs.PartLaws.{given, some_is, bind_some, test_some, whole, field, last, only, recast}
use Rattle.event_bytes.proofs.PartLaws.{byte_part, word_part, counted_part}
use Rattle.piece_ring.specs.declared.piece.Look.{Look}
use Rattle.piece_ring.specs.declared.piece.Piece.{Piece}
use Rattle.desktop_definitions.specs.Limits.{least_offset, greatest_offset}
use Rattle.desktop_definitions.specs.Looks.{IsLook}
use Rattle.image_format.specs.Image.{below_zero, offsets}
use Rattle.image_format.specs.Image.{long, offset_code, look_bytes, piece_bytes, cell_bytes, InLong}
use Rattle.image_format.specs.Fitting.{FitsPiece, FitsPattern, FitsCell}
use Rattle.image_format.specs.Reading.{long_at, offset_at, raw_look_at, is_look, image_look_at, raw_piece_at, is_piece}
use Rattle.image_format.specs.Reading.{piece_at, pattern_at, raw_cell_at, is_cell, image_cell_at}
use Rattle.image_format.proofs.Lists.{done, tested}

-- ---- numbers of four bytes

four_bytes : (a b c d a' b' c' d' : ℕ) → a ≡ a' → b ≡ b' → c ≡ c' → d ≡ d'
    → a ∷ b ∷ c ∷ d ∷ [] ≡ a' ∷ b' ∷ c' ∷ d' ∷ []
four_bytes a b c d a' b' c' d' e f g h = cc

-- four bytes are the higher two and the lower two
long_of : (high low : ℕ) → high < 2 ^ 16 → low < 2 ^ 16 → long (high * 65536 + low) ≡ word_bytes high ++ word_bytes low
long_of high low small small' = four_bytes _ _ _ _ _ _ _ _ (omega arith) (omega arith) (omega arith) (omega arith)

pub long_part : IsPart long InLong long_at
unfolding long_at
long_part = record { takes = from; again = back }
  where
    from : (bytes : List ℕ) (x : ℕ) (rest : List ℕ) → long_at bytes ≡ Some (x, rest) → TakesValue long InLong bytes x rest
    from bytes x rest e =
        let (high, high_is, e1) = bind_some (pair_at bytes) _ _ e in
        let (low, low_is, e2) = bind_some (pair_at high.1) _ _ e1 in
        let first = word_part.takes bytes high.0 high.1 high_is in
        let second = word_part.takes high.1 low.0 low.1 low_is in
        let here : TakesValue long InLong bytes (high.0 * 65536 + low.0) low.1 = record {
          fits = omega (arith, first.fits, second.fits);
          parts = first.parts ∙ ap (λ t. word_bytes high.0 ++ t) second.parts
              ∙ ap (λ t. t ++ low.1) (sym (long_of high.0 low.0 first.fits second.fits));
        } in
        subst (λ (y : ℕ × List ℕ). TakesValue long InLong bytes y.0 y.1)
        (some_is {A = ℕ × List ℕ} (high.0 * 65536 + low.0, low.1) (x, rest) e2) here

    of_halves : (high low : ℕ) (rest : List ℕ) → high < 2 ^ 16 → low < 2 ^ 16
        → long_at (long (high * 65536 + low) ++ rest) ≡ Some (high * 65536 + low, rest)
    of_halves high low rest small small' =
        ap (λ t. long_at (t ++ rest)) (long_of high low small small')
        ∙ rw (word_part.again high (word_bytes low ++ rest) small, word_part.again low rest small') refl

    back : (n : ℕ) (rest : List ℕ) → InLong n → long_at (long n ++ rest) ≡ Some (n, rest)
    back n rest small =
        let same : n / 65536 * 65536 + n % 65536 ≡ n = omega arith in
        subst (λ m. long_at (long m ++ rest) ≡ Some (m, rest)) same
        (of_halves (n / 65536) (n % 65536) rest (omega (arith, small)) (omega arith))

-- ---- looks

abbrev offset_of : ℕ → ℤ
offset_of n = pos n -ℤ pos below_zero

abbrev IsOffset : ℤ → Type 0
IsOffset z = IsTrue (int_le least_offset z) × IsTrue (int_le z greatest_offset)

offset_from_byte : (n : ℕ) → n < offsets → (offset_code (offset_of n) ≡ n) × IsOffset (offset_of n)
offset_from_byte n lt = elim (cases_lt n below_zero) [
  | inl low ↦ let e : offset_of n ≡ negsuc (below_zero - (n + 1)) = omega (arith, ints) in
      subst (λ (z : ℤ). (offset_code z ≡ n) × IsOffset z) (sym e)
      (omega arith, (grind (arith, nat_tests), grind (arith, nat_tests)))
  | inr high ↦ let e : offset_of n ≡ pos (n - below_zero) = omega (arith, ints) in
      subst (λ (z : ℤ). (offset_code z ≡ n) × IsOffset z) (sym e)
      (omega arith, (grind (arith, nat_tests), grind (arith, nat_tests)))
]

byte_from_offset : (z : ℤ) → IsOffset z → (offset_code z < offsets) × (offset_of (offset_code z) ≡ z)
byte_from_offset (pos n) fits =
    let small : n < below_zero = grind (arith, nat_tests, fits.1) in (omega (arith, small), omega (arith, ints))
byte_from_offset (negsuc n) fits =
    let small : n < below_zero = grind (arith, nat_tests, fits.0) in (omega (arith, small), omega (arith, ints, small))

offset_part : IsPart (λ z. byte (offset_code z)) IsOffset offset_at
unfolding offset_at
offset_part = record {
  takes = λ bytes z rest e.
      let (b, b_is, e1) =
      bind_some (byte_at bytes) (λ b. cond (ltb b.0 offsets) (given {A = ℤ × List ℕ} (offset_of b.0, b.1)) None)
      (z, rest) e in
      let (small, e2) = test_some (ltb b.0 offsets) (given {A = ℤ × List ℕ} (offset_of b.0, b.1)) (z, rest) e1 in
      let first = byte_part.takes bytes b.0 b.1 b_is in
      let law = offset_from_byte b.0 (ltb-true b.0 offsets small) in
      subst (λ (y : ℤ × List ℕ). TakesValue (λ z. byte (offset_code z)) IsOffset bytes y.0 y.1)
      (some_is {A = ℤ × List ℕ} (offset_of b.0, b.1) (z, rest) e2)
      (record { fits = law.1; parts = first.parts ∙ ap (λ n. n ∷ b.1) (sym law.0) });
  again = λ z rest fits.
      let law = byte_from_offset z fits in
      rw (byte_part.again (offset_code z) rest (omega (arith, law.0)), lt-ltb (offset_code z) offsets law.0, law.1) refl;
}

abbrev RawLook : Look → Type 0
RawLook l = (l.font < 2 ^ 8) × ((l.colour < 2 ^ 8) × IsOffset l.voff)

look_fits : (l : Look) → RawLook l × (is_look l ≡ true) → IsLook l
look_fits l (raw, test) = record {
  font = grind (arith, nat_tests, test);
  colour = grind (arith, nat_tests, test);
  least = raw.1.1.0;
  greatest = raw.1.1.1;
}

fits_look : (l : Look) → IsLook l → RawLook l × (is_look l ≡ true)
fits_look l is = (
  (omega (arith, is.font), (omega (arith, is.colour), (is.least, is.greatest))),
  grind (arith, nat_tests, is.font, is.colour),
)

pub look_part : IsPart look_bytes IsLook image_look_at
unfolding image_look_at raw_look_at
look_part =
    recast look_fits fits_look (only is_look (whole (
    field _ (λ (l : Look). l.font) byte_part (λ font _.
    field _ (λ (l : Look). l.colour) byte_part (λ colour _.
    last (λ (l : Look). l.voff) (λ voff. record { font = font; colour = colour; voff = voff }) offset_part
    (λ voff. ((tt, refl), refl)) (λ voff. refl) (λ l known. rw (← known.0.1, ← known.1) refl))))))

-- ---- pieces

-- the byte after a piece's look is 0
abbrev RawPiece : Piece → Type 0
RawPiece p = InLong p.off × (InLong p.len × (IsLook p.look × ((0 < 2 ^ 8) × ((true ≡ true) × Unit {0}))))

piece_fits : (written room : ℕ) (p : Piece) → RawPiece p × (is_piece written room p ≡ true) → FitsPiece written room p
piece_fits written room p (raw, test) = record {
  some = grind (arith, nat_tests, test);
  short = grind (arith, nat_tests, test);
  inside = grind (arith, nat_tests, test);
  look = raw.1.1.0;
}

fits_piece : (written room : ℕ) → InLong written → (p : Piece) → FitsPiece written room p
    → RawPiece p × (is_piece written room p ≡ true)
fits_piece written room small p is = (
  (omega (arith, is.inside, small), (omega (arith, is.inside, small), (is.look, (omega arith, (refl, tt))))),
  grind (arith, nat_tests, is.some, is.short, is.inside),
)

pub piece_part : (written room : ℕ) → InLong written
    → IsPart piece_bytes (FitsPiece written room) (piece_at written room)
unfolding piece_at raw_piece_at
piece_part written room small =
    recast (piece_fits written room) (fits_piece written room small) (only (is_piece written room) (whole (
    field _ (λ (p : Piece). p.off) long_part (λ off _.
    field _ (λ (p : Piece). p.len) long_part (λ len _.
    field _ (λ (p : Piece). p.look) look_part (λ look _.
    field _ (λ (p : Piece). 0) byte_part (λ last _.
    tested (λ p. true) (nat_eq last 0) (λ p known. ap (λ n. nat_eq n 0) known.1) (λ is_last.
    done (record { off = off; len = len; look = look })
    ((((tt, refl), refl), refl), sym (eqb-true last 0 is_last))
    (λ p known. rw (← known.0.0.0.1, ← known.0.0.1, ← known.0.1) refl)))))))))

-- ---- patterns and cells

pub pattern_part : IsPart (counted_bytes byte) FitsPattern pattern_at
unfolding pattern_at
pattern_part =
    recast (λ pattern fits. grind (arith, nat_tests, fits.1))
    (λ pattern short. (omega (arith, short), grind (arith, nat_tests, short)))
    (only _ (counted_part byte_part))

cell_fits : (c : ℕ × ℕ) → ((c.0 < 2 ^ 8) × (c.1 < 2 ^ 8)) × (is_cell c ≡ true) → FitsCell c
cell_fits c (raw, test) = (grind (arith, nat_tests, test), grind (arith, nat_tests, test))

fits_cell : (c : ℕ × ℕ) → FitsCell c → ((c.0 < 2 ^ 8) × (c.1 < 2 ^ 8)) × (is_cell c ≡ true)
fits_cell c (x, y) = ((omega (arith, x), omega (arith, y)), grind (arith, nat_tests, x, y))

pub cell_part : IsPart cell_bytes FitsCell image_cell_at
unfolding image_cell_at raw_cell_at
cell_part =
    recast cell_fits fits_cell (only is_cell (whole (
    field _ (λ (c : ℕ × ℕ). c.0) byte_part (λ x _.
    last (λ (c : ℕ × ℕ). c.1) (λ y. (x, y)) byte_part (λ y. (tt, refl)) (λ y. refl)
    (λ c known. ap (λ n. (n, c.1)) (sym known.1))))))
