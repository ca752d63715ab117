-- The first line feed of bytes.
use Rattle.std.proofs.Common.{◌≡◌, ◌≢◌, ℕ, ◌+◌, ◌-◌, ◌<◌, ◌≤◌, Bool, cond, ltb, not, suc, List, []}
use Rattle.std.proofs.Common.{◌∷◌, ◌++◌, Option, None, Some, length, take, drop, refl, sym, ap, ◌∙◌, subst, arith, inl}
use Rattle.std.proofs.Common.{inr, append_assoc}
use Rattle.std.specs.Prelude.{position, ◌==◌}
use Rattle.std.specs.List.{between, position_or_len}
use Rattle.std.proofs.lemmas.Bool.{cases_Bool, eqb-true, eqb-false, ltb-true, ltb-false, cond-true, cond-false}
use Rattle.std.proofs.lemmas.List.{drop-drop}
use Rattle.std.proofs.lemmas.Slice.{between_is}
use Rattle.screen_pictures.specs.Printed.{ended_line}
use Rattle.script_lines.specs.Script.{IsLine}

abbrev pub is_feed : ℕ → Bool
is_feed b = b == 10

abbrev feed_at : List ℕ → ℕ
feed_at bytes = position_or_len is_feed bytes

-- what stands before the first line feed is a line; where there is one, it stands after that
record StandsAt (bytes : List ℕ) (i : ℕ) : Type 0 where
  plain : IsLine (take i bytes)
  found : i < length bytes → bytes ≡ take i bytes ++ 10 ∷ drop (i + 1) bytes
  whole : length bytes ≤ i → IsLine bytes

here : (bs : List ℕ) → StandsAt (10 ∷ bs) 0
here bs = record { plain = tt; found = λ _. refl; whole = λ short. absurd (omega arith) }

later : (b : ℕ) (bs : List ℕ) (i : ℕ) → b ≢ 10 → StandsAt bs i → StandsAt (b ∷ bs) (1 + i)
later b bs i plain at =
    let front : take (1 + i) (b ∷ bs) ≡ b ∷ take i bs = (let e : 1 + i ≡ suc i = omega arith in
    ap (λ (n : ℕ). take n (b ∷ bs)) e) in
    let back : drop (1 + i + 1) (b ∷ bs) ≡ drop (i + 1) bs = (let e : 1 + i + 1 ≡ suc (i + 1) = omega arith in
    ap (λ (n : ℕ). drop n (b ∷ bs)) e) in
    record {
      plain = subst IsLine (sym front) (plain, at.plain);
      found = λ lt. ap (λ l. b ∷ l) (at.found (omega arith))
          ∙ sym (ap (λ l. l ++ 10 ∷ drop (1 + i + 1) (b ∷ bs)) front ∙ ap (λ l. (b ∷ take i bs) ++ 10 ∷ l) back);
      whole = λ short. (plain, at.whole (omega arith));
    }

stands : (bytes : List ℕ) → StandsAt bytes (feed_at bytes)
stands [] = record { plain = tt; found = λ lt. absurd (omega arith); whole = λ _. tt }
stands (b ∷ bs) = elim (cases_Bool (is_feed b)) [
  | inl same ↦ subst (λ (t : Bool). StandsAt (b ∷ bs) (cond (not t) (1 + feed_at bs) 0)) (sym same)
      (subst (λ (n : ℕ). StandsAt (n ∷ bs) 0) (sym (eqb-true b 10 same)) (here bs))
  | inr other ↦ subst (λ (t : Bool). StandsAt (b ∷ bs) (cond (not t) (1 + feed_at bs) 0)) (sym other)
      (later b bs (feed_at bs) (eqb-false b 10 other) (stands bs))
]

at_place : (i n : ℕ) (o : Option ℕ) → o ≡ cond (ltb i n) (Some i) None → (o ≡ None → n ≤ i) × ((k : ℕ) → o ≡ Some k
    → (i ≡ k) × (i < n))
at_place i n o e = elim (cases_Bool (ltb i n)) [
  | inl before ↦ let some : o ≡ Some i = e ∙ cond-true (ltb i n) (Some i) None before in
      ((λ none. cc), λ k found. (cc, ltb-true i n before))
  | inr past ↦ let none : o ≡ None = e ∙ cond-false (ltb i n) (Some i) None past in
      ((λ _. ltb-false i n past), λ k found. cc)
]

pub no_feed : (bytes : List ℕ) → position is_feed bytes ≡ None → IsLine bytes
no_feed bytes none = (stands bytes).whole ((at_place (feed_at bytes) (length bytes) _ refl).0 none)

-- what stands before the first line feed, and what stands after it
pub before_feed : (bytes : List ℕ) (i : ℕ) → position is_feed bytes ≡ Some i → IsLine (take i bytes)
before_feed bytes i found =
    let place : (feed_at bytes ≡ i) × (feed_at bytes < length bytes) =
    (at_place (feed_at bytes) (length bytes) _ refl).1 i found in
    subst (λ (n : ℕ). IsLine (take n bytes)) place.0 (stands bytes).plain

pub behind_feed : (bytes : List ℕ) (i : ℕ) → position is_feed bytes ≡ Some i → bytes ≡ ended_line (take i bytes)
    ++ drop (i + 1) bytes
behind_feed bytes i found =
    let place : (feed_at bytes ≡ i) × (feed_at bytes < length bytes) =
    (at_place (feed_at bytes) (length bytes) _ refl).1 i found in
    subst (λ (n : ℕ). bytes ≡ take n bytes ++ 10 ∷ drop (n + 1) bytes) place.0 ((stands bytes).found place.1)
    ∙ sym (append_assoc (take i bytes) (10 ∷ []) (drop (i + 1) bytes))

-- what is left of a piece
pub between_behind : (xs : List ℕ) (i k j : ℕ) → between (i + k) j xs ≡ drop k (between i j xs)
between_behind xs i k j = between_is xs (i + k) j ∙ sym (drop-drop k i (take j xs))
    ∙ ap (drop k) (sym (between_is xs i j))

pub between_none : (xs : List ℕ) (i : ℕ) → between i i xs ≡ []
between_none xs i = let none : i - i ≡ 0 = omega arith in ap (λ (n : ℕ). take n (drop i xs)) none
