-- Bytes that are counted among characters that stand together in the source.
use Rattle.std.specs.Prelude.{ℕ, zero, suc, ◌≡◌, ◌+◌, ◌-◌, ◌<◌, ◌≤◌, ◌==◌, List, ◌∷◌}
use Rattle.std.specs.Prelude.{Bool, [], cond, ◌++◌, length, take, drop, map, count_by, slice_index, slice_range}
use Rattle.std.proofs.Common.{refl, sym, ap, ◌∙◌, arith, subst}
use Rattle.std.proofs.lemmas.List.{take-map, drop-map, map-append, take-append-le}
use Rattle.std.proofs.lemmas.List.Elements.{All-drop}
use Rattle.std.proofs.lemmas.List.Sums.{sum_by-append}
use Rattle.std.proofs.Math.Seq.{drop-cons}
use Rattle.char_file.specs.Source.{IsCountedFrom}
use Rattle.piece_ring.specs.declared.piece.Look.{Look}
use Rattle.piece_ring.specs.declared.piece.Piece.{Piece}
use Rattle.piece_ring.specs.Flat.{run, characters_of}
use Rattle.piece_ring.proofs.Lengths.{length-run}
use Rattle.piece_ring.specs.Text.{Text, AreWithin}
use Rattle.readers_scanners.specs.Reading.{bytes_of_text, contents, IsCounted, IsReading}
use Rattle.readers_scanners.proofs.Upcoming.{drop_more, enough, point}

pub bytes-append : (characters : List ℕ) (a b : Text ℕ)
    → bytes_of_text characters (a ++ b) ≡ bytes_of_text characters a ++ bytes_of_text characters b
bytes-append characters a b = ap (map (λ c. c.0)) (map-append _ a b) ∙ map-append (λ c. c.0) (contents characters a)
    (contents characters b)

-- those that stand together read as they stand in the source
run_bytes : (characters : List ℕ) (off n : ℕ) (look : Look) → off + n ≤ length characters
    → bytes_of_text characters (run off n look) ≡ slice_range characters off (off + n)
run_bytes characters off zero look within =
    ap (λ k. take k (drop off characters)) (let none : 0 ≡ off + 0 - off = omega arith in none)
run_bytes characters off (suc n) look within =
    ap (λ l. slice_index characters off ∷ l) (run_bytes characters (suc off) n look (omega (arith, within)))
    ∙ ap (λ k. slice_index characters off ∷ take k (drop (suc off) characters))
    (let fewer : suc off + n - suc off ≡ n = omega arith in fewer)
    ∙ ap (take (suc n)) (sym (drop-cons characters off 0 (omega (arith, within))))
    ∙ ap (λ k. take k (drop off characters)) (let all : suc n ≡ off + suc n - off = omega arith in all)

take_on : {X : Type 0} → (xs : List X) (a n : ℕ) → take (a + n) xs ≡ take a xs ++ take n (drop a xs)
take_on xs zero n = ap (λ k. take k xs) (let e : 0 + n ≡ n = omega arith in e)
take_on [] (suc a) zero = ap (λ k. take k []) (let e : suc a + 0 ≡ suc a = omega arith in e)
take_on [] (suc a) (suc n) = ap (λ k. take k []) (let e : suc a + suc n ≡ suc (a + suc n) = omega arith in e)
take_on (x ∷ xs) (suc a) n =
    ap (λ k. take k (x ∷ xs)) (let e : suc a + n ≡ suc (a + n) = omega arith in e) ∙ ap (λ l. x ∷ l) (take_on xs a n)

-- those of a stretch more
pub counts_on : (test : ℕ → Bool) (bs : List ℕ) (org p n : ℕ) → org ≤ p
    → count_by test (slice_range bs org (p + n))
    ≡ count_by test (slice_range bs org p) + count_by test (slice_range bs p (p + n))
counts_on test bs org p n from =
    ap (λ k. count_by test (take k (drop org bs))) (let e : p + n - org ≡ p - org + n = omega (arith, from) in e)
    ∙ ap (count_by test) (take_on (drop org bs) (p - org) n)
    ∙ sum_by-append (λ b. cond (test b) 1 0) (take (p - org) (drop org bs)) (take n (drop (p - org) (drop org bs)))
    ∙ (λ k. count_by test (slice_range bs org p) + count_by test (take ((let e : n ≡ p + n - p = omega arith in e) k)
    ((sym (drop_more bs org (p - org))
    ∙ ap (λ j. drop j bs) (let o : org + (p - org) ≡ p = omega (arith, from) in o)) k)))

-- the first n of those that stand together
pub run_front : (off n k : ℕ) (look : Look) → n ≤ k → take n (run off k look) ≡ run off n look
run_front off zero k look h = refl
run_front off (suc n) zero look h = absurd (omega (arith, h))
run_front off (suc n) (suc k) look h = ap (λ r. (off, look) ∷ r) (run_front (suc off) n k look (omega (arith, h)))

pub run_end : (n off len : ℕ) (look : Look) (more : Text ℕ) → 0 < len → AreWithin n (run off len look ++ more)
    → off + len ≤ n
run_end n off zero look more some all = absurd (omega (arith, some))
run_end n off (suc zero) look more some all =
    let low : off < n = all 0 (off, look) (omega arith) in omega (arith, low)
run_end n off (suc (suc k)) look more some all =
    let r = run_end n (suc off) (suc k) look more (omega arith) (λ i d w. all (suc i) d (omega (arith, w))) in
    omega (arith, r)

module _ (text : Text ℕ) (position left : ℕ) (here : Piece) (behind : Text ℕ)
    (is : IsReading text position left here behind) where
  pub front_read : (characters : List ℕ) (n : ℕ) → n ≤ here.len
      → slice_range (bytes_of_text characters text) position (position + n) ≡ bytes_of_text characters (run here.off n here.look)
  front_read characters n within =
      ap (λ k. take k (drop position (bytes_of_text characters text))) (let e : position + n - position ≡ n = omega arith in e)
      ∙ ap (take n) (drop-map (λ c. c.0) position (contents characters text)
      ∙ ap (map (λ c. c.0)) (drop-map _ position text))
      ∙ take-map (λ c. c.0) n (contents characters (drop position text))
      ∙ ap (map (λ c. c.0)) (take-map _ n (drop position text)) ∙ ap (bytes_of_text characters) front
    where
      front : take n (drop position text) ≡ run here.off n here.look
      front = ap (take n) is.rest
          ∙ take-append-le n (characters_of here) behind (let long = length-run here.off here.len here.look in
          let le : n ≤ length (characters_of here) = omega (arith, long, within) in le)
          ∙ run_front here.off n here.len here.look within

  -- and where they end
  pub end_within : (n : ℕ) → AreWithin n text → 0 < here.len → here.off + here.len ≤ n
  end_within n all some =
      run_end n here.off here.len here.look behind some
      (subst (AreWithin n) is.rest (All-drop (λ c. c.0 < n) position text all))

  pub few_end : (n m : ℕ) → AreWithin n text → m ≤ here.len → 0 < m → here.off + m ≤ n
  few_end n m all few some = let end = end_within n all (omega (arith, few, some)) in omega (arith, end, few)

  -- what a call found that passed n of them
  pub counted_here : (honest : Type 0) (characters : List ℕ) (wanted most limit : ℕ) (counts : ℕ × ℕ)
      → AreWithin (length characters) text → limit ≤ most → limit ≤ here.len
      → IsCountedFrom honest characters here.off limit wanted counts
      → IsCounted honest characters (point text position) wanted most counts
  counted_here honest characters wanted most limit counts all few within found = record {
    some = found.some;
    most = omega (arith, found.most, few);
    within = (let high = enough text position left here behind is in let counted = is.counted in
        omega (arith, high, counted, within, found.most));
    exact = λ h. found.exact h ∙ ap (count_by (λ b. b == wanted))
        (sym (front_read characters counts.0 (omega (arith, found.most, within))
        ∙ run_bytes characters here.off counts.0 here.look
        (few_end (length characters) counts.0 all (omega (arith, found.most, within)) found.some)));
    few = found.few;
  }
