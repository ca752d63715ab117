-- Splitting bytes into lines.
use Rattle.std.proofs.Common.{◌≡◌, ◌≢◌, ℕ, List, [], ◌∷◌, ◌++◌, refl, sym, ap, ◌∙◌, subst, append_assoc}
use Rattle.std.proofs.Common.{inl, inr}
use Rattle.std.specs.List.{AllByRecursion, flat_map}
use Rattle.std.proofs.lemmas.Bool.{cases_eq}
use Rattle.screen_pictures.specs.Printed.{ended_line}
use Rattle.script_lines.specs.Script.{IsLine, IsSplit, OneSplit, SomeSplit}

-- ---- there is a split

after_feed : (bs : List ℕ) → ((lines : List (List ℕ)) × (rest : List ℕ) × IsSplit bs lines rest)
    → (lines : List (List ℕ)) × (rest : List ℕ) × IsSplit (10 ∷ bs) lines rest
after_feed bs (lines, rest, split) = (
  [] ∷ lines,
  rest,
  record {
    whole = ap (λ l. 10 ∷ l) split.whole;
    each = (tt, split.each);
    last = split.last;
  },
)

after_byte : (b : ℕ) (bs : List ℕ) → b ≢ 10 → ((lines : List (List ℕ)) × (rest : List ℕ) × IsSplit bs lines rest)
    → (lines : List (List ℕ)) × (rest : List ℕ) × IsSplit (b ∷ bs) lines rest
after_byte b bs plain ([], rest, split) = (
  [],
  b ∷ rest,
  record {
    whole = ap (λ l. b ∷ l) split.whole;
    each = tt;
    last = (plain, split.last);
  },
)
after_byte b bs plain (line ∷ lines, rest, split) = (
  (b ∷ line) ∷ lines,
  rest,
  record {
    whole = ap (λ l. b ∷ l) split.whole;
    each = ((plain, split.each.0), split.each.1);
    last = split.last;
  },
)

pub some_split : SomeSplit
some_split [] = ([], [], record { whole = refl; each = tt; last = tt })
some_split (b ∷ bs) = elim (cases_eq b 10) [
  | inl same ↦ subst (λ (n : ℕ). (lines : List (List ℕ)) × (rest : List ℕ) × IsSplit (n ∷ bs) lines rest) (sym same)
      (after_feed bs (some_split bs))
  | inr other ↦ after_byte b bs other (some_split bs)
]

-- ---- there is one split

-- a line feed stands after a prefix
no_feed : (front back : List ℕ) → IsLine (front ++ 10 ∷ back) → ⊥
no_feed [] back plain = plain.0 refl
no_feed (b ∷ front) back plain = no_feed front back plain.1

pub same_line : (line other x y : List ℕ) → IsLine line → IsLine other → line ++ 10 ∷ x ≡ other ++ 10 ∷ y
    → (line ≡ other) × (x ≡ y)
same_line [] [] x y p q e = (refl, cc)
same_line [] (b ∷ other) x y p q e = let same : 10 ≡ b = cc in absurd (q.0 (sym same))
same_line (b ∷ line) [] x y p q e = let same : b ≡ 10 = cc in absurd (p.0 same)
same_line (b ∷ line) (c ∷ other) x y p q e =
    let same : b ≡ c = cc in
    let tails : line ++ 10 ∷ x ≡ other ++ 10 ∷ y = cc in
    let rest : (line ≡ other) × (x ≡ y) = same_line line other x y p.1 q.1 tails in
    let lines : line ≡ other = rest.0 in
    (cc, rest.1)

-- the first line comes first
first_in_front : (line : List ℕ) (lines : List (List ℕ)) (rest : List ℕ) → flat_map ended_line (line ∷ lines)
    ++ rest ≡ line ++ 10 ∷ (flat_map ended_line lines ++ rest)
first_in_front line lines rest = append_assoc (line ++ 10 ∷ []) (flat_map ended_line lines) rest
    ∙ append_assoc line (10 ∷ []) (flat_map ended_line lines ++ rest)

same_split : (lines others : List (List ℕ)) (rest end : List ℕ) → AllByRecursion IsLine lines
    → AllByRecursion IsLine others → IsLine rest → IsLine end
    → flat_map ended_line lines ++ rest ≡ flat_map ended_line others ++ end → (lines ≡ others) × (rest ≡ end)
same_split [] [] rest end p q r s e = (refl, e)
same_split [] (other ∷ others) rest end p q r s e = absurd (no_feed other (flat_map ended_line others ++ end)
    (subst IsLine (e ∙ first_in_front other others end) r))
same_split (line ∷ lines) [] rest end p q r s e = absurd (no_feed line (flat_map ended_line lines ++ rest)
    (subst IsLine (sym e ∙ first_in_front line lines rest) s))
same_split (line ∷ lines) (other ∷ others) rest end p q r s e =
    let heads : (line ≡ other) × (flat_map ended_line lines ++ rest ≡ flat_map ended_line others ++ end)
    = same_line line other _ _ p.0 q.0 (sym (first_in_front line lines rest) ∙ e ∙ first_in_front other others end) in
    let tails : (lines ≡ others) × (rest ≡ end) = same_split lines others rest end p.1 q.1 r s heads.1 in
    let first : line ≡ other = heads.0 in
    let more : lines ≡ others = tails.0 in
    (cc, tails.1)

pub one_split : OneSplit
one_split bytes lines others rest end p q = same_split lines others rest end p.each q.each p.last q.last (sym p.whole
    ∙ q.whole)
