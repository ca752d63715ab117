-- The words of a paragraph stay where an edit is made, before the caret and behind it.
use Rattle.std.specs.Prelude.{◌≡◌, ℕ, zero, suc, ◌+◌, ◌-◌, ◌^◌, ◌<◌, ◌≤◌, ◌==◌, ◌&&◌, ◌||◌, not, cond, nat_le, nat_lt, min, Bool, true, false}
use Rattle.std.specs.Prelude.{if◌then◌else◌, List, [], ◌∷◌, ◌++◌, take, drop, Option, Some, None, IfSome}
use Rattle.std.proofs.Common.{refl, sym, ap, ◌∙◌, inl, inr, arith}
use Rattle.std.proofs.lemmas.Bool.{and_parts, ltb-true, leb-true}
use Rattle.std.proofs.lemmas.Bool.Decides.{eqb_tells, leb_tells}
use Rattle.event_bytes.specs.Bytes.{carriage_return}
use Rattle.screen_pictures.specs.Bytes.{space}
use Rattle.text_frames.specs.Lines.{is_return}
use Rattle.text_frames.proofs.Greatest.{greatest_within}
use Rattle.filled_pastes.specs.Poured.{is_gap, parts_words}
use Rattle.filled_pastes.specs.Paragraphs.{due_from, edit_at, edit_found, after_edit, end_from, ends_at, fill_edit, follows_blank, go_on, runs_on}
use Rattle.filled_pastes.specs.Paragraphs.{has_place, is_in_reach, is_visible, is_written, last_seen, moved, one_on, paragraph_start, turns_at, word_length_at}
use Rattle.filled_pastes.specs.Filled.{IsEdit, KeepsLetters, letters}
use Rattle.filled_pastes.specs.declared.edits.Edit.{Edit}
use Rattle.filled_pastes.specs.declared.edits.Edit.TheVariants.{Ends, Tears, Joins, Blanks}

-- ---- an end of line comes

comes_all : (q : ℕ) (bs : List ℕ) → letters (take q bs ++ carriage_return ∷ drop q bs) ≡ letters bs
comes_all zero bs = refl
comes_all (suc q) [] = refl
comes_all (suc q) (x ∷ xs) = ap (λ (l : List ℕ). cond (not (parts_words x)) (x ∷ l) l) (comes_all q xs)

comes_before : (q p : ℕ) (bs : List ℕ) → q ≤ p
    → letters (take (suc p) (take q bs ++ carriage_return ∷ drop q bs)) ≡ letters (take p bs)
comes_before zero p bs low = refl
comes_before (suc q) zero bs low = absurd (omega (arith, low))
comes_before (suc q) (suc p) [] low = refl
comes_before (suc q) (suc p) (x ∷ xs) low =
    ap (λ (l : List ℕ). cond (not (parts_words x)) (x ∷ l) l) (comes_before q p xs (omega (arith, low)))

nothing : (p : ℕ) → letters (take p []) ≡ []
nothing zero = refl
nothing (suc p) = refl

comes_behind : (q p : ℕ) (bs : List ℕ) → p < q
    → letters (take p (take q bs ++ carriage_return ∷ drop q bs)) ≡ letters (take p bs)
comes_behind zero p bs low = absurd (omega (arith, low))
comes_behind (suc q) zero bs low = refl
comes_behind (suc q) (suc p) [] low = nothing p
comes_behind (suc q) (suc p) (x ∷ xs) low =
    ap (λ (l : List ℕ). cond (not (parts_words x)) (x ∷ l) l) (comes_behind q p xs (omega (arith, low)))

-- ---- an end of line goes

parted : (x : ℕ) → is_return x ≡ true → parts_words x ≡ true
parted x is = elim (is_gap x) as (λ (b : Bool). (b || (x == carriage_return)) ≡ true) [ true ↦ refl | false ↦ is ]

gone : (x : ℕ) (l : List ℕ) → is_return x ≡ true → l ≡ cond (not (parts_words x)) (x ∷ l) l
gone x l is = sym (ap (λ (b : Bool). cond (not b) (x ∷ l) l) (parted x is))

goes_all : (e : ℕ) (bs : List ℕ) → ends_at bs e ≡ true → letters (take e bs ++ drop (suc e) bs) ≡ letters bs
goes_all zero [] is = absurd (cc is)
goes_all (suc e) [] is = absurd (cc is)
goes_all zero (x ∷ xs) is = gone x (letters xs) is
goes_all (suc e) (x ∷ xs) is = ap (λ (l : List ℕ). cond (not (parts_words x)) (x ∷ l) l) (goes_all e xs is)

goes_before : (e p : ℕ) (bs : List ℕ) → ends_at bs e ≡ true → e ≤ p
    → letters (take p (take e bs ++ drop (suc e) bs)) ≡ letters (take (suc p) bs)
goes_before zero p [] is low = absurd (cc is)
goes_before (suc e) p [] is low = absurd (cc is)
goes_before zero p (x ∷ xs) is low = gone x (letters (take p xs)) is
goes_before (suc e) zero (x ∷ xs) is low = absurd (omega (arith, low))
goes_before (suc e) (suc p) (x ∷ xs) is low =
    ap (λ (l : List ℕ). cond (not (parts_words x)) (x ∷ l) l) (goes_before e p xs is (omega (arith, low)))

goes_behind : (e p : ℕ) (bs : List ℕ) → p ≤ e
    → letters (take p (take e bs ++ drop (suc e) bs)) ≡ letters (take p bs)
goes_behind e zero bs low = refl
goes_behind zero (suc p) bs low = absurd (omega (arith, low))
goes_behind (suc e) (suc p) [] low = refl
goes_behind (suc e) (suc p) (x ∷ xs) low =
    ap (λ (l : List ℕ). cond (not (parts_words x)) (x ∷ l) l) (goes_behind e p xs (omega (arith, low)))

-- ---- a blank takes its place

swaps_all : (e : ℕ) (bs : List ℕ) → ends_at bs e ≡ true → letters (take e bs ++ space ∷ drop (suc e) bs) ≡ letters bs
swaps_all zero [] is = absurd (cc is)
swaps_all (suc e) [] is = absurd (cc is)
swaps_all zero (x ∷ xs) is = gone x (letters xs) is
swaps_all (suc e) (x ∷ xs) is = ap (λ (l : List ℕ). cond (not (parts_words x)) (x ∷ l) l) (swaps_all e xs is)

swaps_before : (e p : ℕ) (bs : List ℕ) → ends_at bs e ≡ true
    → letters (take p (take e bs ++ space ∷ drop (suc e) bs)) ≡ letters (take p bs)
swaps_before e zero bs is = refl
swaps_before zero (suc p) [] is = absurd (cc is)
swaps_before (suc e) (suc p) [] is = absurd (cc is)
swaps_before zero (suc p) (x ∷ xs) is = gone x (letters (take p xs)) is
swaps_before (suc e) (suc p) (x ∷ xs) is =
    ap (λ (l : List ℕ). cond (not (parts_words x)) (x ∷ l) l) (swaps_before e p xs is)

-- ---- an edit keeps all letters

not_le : (q p : ℕ) → nat_le q p ≡ false → p < q
not_le q p is = elim (leb_tells q p) [
  | inl le ↦ absurd (let no : true ≡ false = sym le.0 ∙ is in cc no)
  | inr lt ↦ lt.1
]

not_lt : (e p : ℕ) → nat_lt e p ≡ false → p ≤ e
not_lt e p is = let lt : p < suc e = not_le (suc e) p is in omega (arith, lt)

one : (n : ℕ) → suc n ≡ n + 1
one n = omega arith

module _ (bs : List ℕ) (p : ℕ) (low : p < 2 ^ 32 - 1) where
  on_by : (q : ℕ) (b : Bool) → nat_le q p ≡ b
      → letters (take (if b then min (p + 1) (2 ^ 32 - 1) else p) (take q bs ++ carriage_return ∷ drop q bs)) ≡ letters (take p bs)
  on_by q true is =
      let le : q ≤ p = leb-true q p is in
      let e : min (p + 1) (2 ^ 32 - 1) ≡ suc p = omega (arith, low) in
      ap (λ (n : ℕ). letters (take n (take q bs ++ carriage_return ∷ drop q bs))) e ∙ comes_before q p bs le
  on_by q false is = comes_behind q p bs (not_le q p is)

  ends_keep : (q : ℕ) (edit : Edit) → after_edit bs edit ≡ take q bs ++ carriage_return ∷ drop q bs → moved edit p ≡ one_on q p
      → KeepsLetters bs p edit
  ends_keep q edit text place = record {
    all = ap letters text ∙ comes_all q bs;
    before = (λ k. letters (take (place k) (text k))) ∙ on_by q (nat_le q p) refl;
  }

  join_by : (e : ℕ) (b : Bool) → nat_lt e p ≡ b → ends_at bs e ≡ true
      → letters (take (if b then p - 1 else p) (take e bs ++ drop (suc e) bs)) ≡ letters (take p bs)
  join_by e true is there =
      let lt : e < p = ltb-true e p is in
      let n : p ≡ suc (p - 1) = omega (arith, lt) in
      goes_before e (p - 1) bs there (omega (arith, lt)) ∙ ap (λ (n : ℕ). letters (take n bs)) (sym n)
  join_by e false is there = goes_behind e p bs (not_lt e p is)

  joined : (e : ℕ) → take e bs ++ drop (e + 1) bs ≡ take e bs ++ drop (suc e) bs
  joined e = ap (λ (n : ℕ). take e bs ++ drop n bs) (sym (one e))

  blanked : (e : ℕ) → take e bs ++ space ∷ drop (e + 1) bs ≡ take e bs ++ space ∷ drop (suc e) bs
  blanked e = ap (λ (n : ℕ). take e bs ++ space ∷ drop n bs) (sym (one e))

  pub keeps : (edit : Edit) → IsEdit bs edit → KeepsLetters bs p edit
  unfolding moved
  keeps (Ends q) is = ends_keep q (Ends q) refl refl
  keeps (Tears t q) is = ends_keep q (Tears t q) refl refl
  keeps (Joins e) is = record {
    all = ap letters (joined e) ∙ goes_all e bs is.0;
    before = ap (λ (l : List ℕ). letters (take (moved (Joins e) p) l)) (joined e) ∙ join_by e (nat_lt e p) refl is.0;
  }
  keeps (Blanks e) is = record {
    all = ap letters (blanked e) ∙ swaps_all e bs is.0;
    before = ap (λ (l : List ℕ). letters (take p l)) (blanked e) ∙ swaps_before e p bs is.0;
  }

-- ---- what an edit is

module _ (bs : List ℕ) (w q : ℕ) where
  end_is : follows_blank bs q ≡ true → 0 < word_length_at bs q → IsEdit bs (end_from (last_seen bs w q) q)
  unfolding last_seen
  end_is blank word = (elim (last_seen bs w q == q) as (λ (b : Bool). (last_seen bs w q == q) ≡ b
      → IsEdit bs (if b then Ends q else Tears (last_seen bs w q) q)) [
        | true ↦ λ same. (blank, word)
        | false ↦ λ other. (before other, blank, word)
      ]) refl
    where
      before : (last_seen bs w q == q) ≡ false → last_seen bs w q < q
      before other = elim (eqb_tells (last_seen bs w q) q) [
        | inl same ↦ absurd (let no : true ≡ false = sym same.0 ∙ other in cc no)
        | inr differs ↦ (let far = differs.1 in let low : last_seen bs w q ≤ q = greatest_within (is_visible bs w) q in omega (arith, far, low))
      ]

  go_is : ends_at bs q ≡ true → is_written bs q ≡ true → 0 < word_length_at bs (q + 1) → IsEdit bs (go_on bs q)
  go_is ends written word = (elim (follows_blank bs q) as (λ (b : Bool). follows_blank bs q ≡ b
      → IsEdit bs (if b then Joins q else Blanks q)) [
        | true ↦ λ blank. (ends, blank, word)
        | false ↦ λ none. (ends, written, word)
      ]) refl

  goes_is : runs_on bs q ≡ true → IsEdit bs (go_on bs q)
  unfolding runs_on
  goes_is is =
      let first = and_parts (ends_at bs q) (is_written bs q && nat_lt 0 (word_length_at bs (q + 1))) is in
      let second = and_parts (is_written bs q) (nat_lt 0 (word_length_at bs (q + 1))) first.1 in
      go_is first.0 second.0 (ltb-true 0 (word_length_at bs (q + 1)) second.1)

  turns_is : turns_at bs w q ≡ true → IsEdit bs (end_from (last_seen bs w q) q)
  unfolding turns_at
  turns_is is =
      let first = and_parts (follows_blank bs q) _ is in
      let second = and_parts (is_written bs q) _ first.1 in
      let third = and_parts (nat_lt 0 (word_length_at bs q)) _ second.1 in
      end_is first.0 (ltb-true 0 (word_length_at bs q) third.0)

  pub edit_is : IfSome (edit_at bs w q) (IsEdit bs)
  unfolding edit_at
  edit_is = (elim (turns_at bs w q && is_in_reach bs w q) as (λ (b : Bool). (turns_at bs w q && is_in_reach bs w q) ≡ b
      → IfSome (if b then Some (end_from (last_seen bs w q) q) else
      (if runs_on bs q && has_place bs w q then Some (go_on bs q) else None)) (IsEdit bs)) [
        | true ↦ λ is. turns_is (and_parts (turns_at bs w q) (is_in_reach bs w q) is).0
        | false ↦ λ none. (elim (runs_on bs q && has_place bs w q) as (λ (b : Bool). (runs_on bs q && has_place bs w q) ≡ b
            → IfSome (if b then Some (go_on bs q) else None) (IsEdit bs)) [
              | true ↦ λ is. goes_is (and_parts (runs_on bs q) (has_place bs w q) is).0
              | false ↦ λ none. tt
            ]) refl
      ]) refl

kept : (bs : List ℕ) (p : ℕ) (o : Option Edit) → p < 2 ^ 32 - 1 → IfSome o (IsEdit bs)
    → IfSome o (λ edit. IsEdit bs edit × KeepsLetters bs p edit)
kept bs p None low is = tt
kept bs p (Some edit) low is = (is, keeps bs p low edit is)

found : (bs : List ℕ) (w p : ℕ) (o : Option ℕ) → p < 2 ^ 32 - 1
    → IfSome (edit_found bs w o) (λ edit. IsEdit bs edit × KeepsLetters bs p edit)
found bs w p None low = tt
found bs w p (Some q) low = kept bs p (edit_at bs w q) low (edit_is bs w q)

pub stays : (bs : List ℕ) (w p : ℕ) → p < 2 ^ 32 - 1
    → IfSome (fill_edit bs w p) (λ edit. IsEdit bs edit × KeepsLetters bs p edit)
unfolding fill_edit
stays bs w p low = found bs w p (due_from bs w (paragraph_start bs p)) low
