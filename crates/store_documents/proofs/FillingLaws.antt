-- What filling and joining leave of a text.
use Rattle.std.proofs.Common.{◌≡◌, ℕ, ◌+◌, ◌*◌, ◌/◌, ◌≤◌, Bool, true, false, not, cond, ◌&&◌, ◌==◌, nat_lt, nat_le}
use Rattle.std.proofs.Common.{List, [], ◌∷◌, ◌++◌, length, filter, Some, None, refl, sym, ap, subst, ◌∙◌, arith, suc}
use Rattle.std.specs.Option.{option_to_list}
use Rattle.std.proofs.lemmas.Bool.{and_parts, and_from}
use Rattle.std.proofs.lemmas.Bool.Decides.{nat_tests}
use Rattle.std.specs.List.{list_all}
use Rattle.event_bytes.specs.Bytes.{carriage_return, is_text_byte}
use Rattle.text_frames.specs.Cells.{column_after}
use Rattle.store_documents.specs.Filling.{blank_byte, column_behind, unit_end, has_wide_unit, is_broken_behind, filled_from}
use Rattle.store_documents.specs.Filling.{joined_after, has_narrow_lines, has_short_units}

joined_shorter : (before : ℕ) (text : List ℕ) → length (joined_after before text) ≤ length text
joined_shorter before [] = omega arith
joined_shorter before (b ∷ text) =
    by_case ((b == carriage_return) && (before == blank_byte)) (joined_shorter b text)
  where
    by_case : (d : Bool) → length (joined_after b text) ≤ length text
        → length (option_to_list (cond d None (Some b)) ++ joined_after b text) ≤ suc (length text)
    by_case true le = omega arith
    by_case false le = omega arith

tail_of : List ℕ → List ℕ
tail_of [] = []
tail_of (b ∷ text) = text

-- where joining leaves a text, it leaves its first byte
rest_same : (before b : ℕ) (text : List ℕ) (d : Bool)
    → option_to_list (cond d None (Some b)) ++ joined_after b text ≡ b ∷ text
    → (d ≡ false) × (joined_after b text ≡ text)
unfolding tail_of
rest_same before b text true e = absurd (
    let shorter = joined_shorter b text in
    let longer : length (joined_after b text) ≡ suc (length text) = ap length e in omega arith)
rest_same before b text false e = (refl, ap tail_of e)

no_longer : (n m : ℕ) → (nat_lt m n && nat_lt n n) ≡ true → ⊥
no_longer n m is =
    let less : nat_lt n n ≡ true = (and_parts _ _ is).1 in grind (arith, nat_tests)

-- what begins with something that stays together is joined alike behind all bytes
same_behind : (width column before other : ℕ) (text : List ℕ) → has_wide_unit width column text ≡ true
    → joined_after before text ≡ joined_after other text
same_behind width column before other [] wide = refl
same_behind width column before other (c ∷ text) wide = by_case (c == carriage_return) wide
  where
    by_case : (r : Bool)
        → (nat_lt width (cond r column (cond (c == blank_byte) (column + 1) (unit_end (column_after column c) text)))
        && nat_lt column (cond r column (cond (c == blank_byte) (column + 1) (unit_end (column_after column c) text)))) ≡ true
        → option_to_list (cond (r && (before == blank_byte)) None (Some c)) ++ joined_after c text
        ≡ option_to_list (cond (r && (other == blank_byte)) None (Some c)) ++ joined_after c text
    by_case true is = absurd (no_longer column width is)
    by_case false is = refl

pub joined_back : (width column before : ℕ) (text : List ℕ) → joined_after before text ≡ text
    → joined_after before (filled_from width column text) ≡ text
joined_back width column before [] same = refl
joined_back width column before (b ∷ text) same =
    by_case (is_broken_behind width column b text) refl
    (λ other. joined_back width 0 other text) (λ next. joined_back width next b text)
  where
    parts : (((b == carriage_return) && (before == blank_byte)) ≡ false) × (joined_after b text ≡ text)
    parts = rest_same before b text _ same

    kept : (rest : List ℕ) → joined_after before (b ∷ rest) ≡ b ∷ joined_after b rest
    kept rest = ap (λ (d : Bool). option_to_list (cond d None (Some b)) ++ joined_after b rest) parts.0

    dropped : (rest : List ℕ) → (b == blank_byte) ≡ true → joined_after b (carriage_return ∷ rest)
        ≡ joined_after carriage_return rest
    dropped rest is = ap (λ (s : Bool). option_to_list (cond s None (Some carriage_return)) ++ joined_after carriage_return rest) is

    by_case : (broken : Bool) → is_broken_behind width column b text ≡ broken
        → ((other : ℕ) → joined_after other text ≡ text → joined_after other (filled_from width 0 text) ≡ text)
        → ((next : ℕ) → joined_after b text ≡ text → joined_after b (filled_from width next text) ≡ text)
        → joined_after before (cond broken (b ∷ carriage_return ∷ filled_from width 0 text)
        (b ∷ filled_from width (column_behind column b) text)) ≡ b ∷ text
    by_case true is first next = let both = and_parts _ _ is in
        kept (carriage_return ∷ filled_from width 0 text)
        ∙ ap (λ (rest : List ℕ). b ∷ rest) (dropped (filled_from width 0 text) both.0
        ∙ first carriage_return (same_behind width (column + 1) carriage_return b text both.1 ∙ parts.1))
    by_case false is first next =
        kept (filled_from width (column_behind column b) text)
        ∙ ap (λ (rest : List ℕ). b ∷ rest) (next (column_behind column b) parts.1)

pub nothing_lost : (width column : ℕ) (text : List ℕ)
    → filter (λ b. not (b == carriage_return)) (filled_from width column text)
    ≡ filter (λ b. not (b == carriage_return)) text
nothing_lost width column [] = refl
nothing_lost width column (b ∷ text) =
    by_case (is_broken_behind width column b text) (λ next. nothing_lost width next text)
  where
    by_case : (broken : Bool) → ((next : ℕ) → filter (λ b. not (b == carriage_return)) (filled_from width next text)
        ≡ filter (λ b. not (b == carriage_return)) text) → filter (λ b. not (b == carriage_return))
        (cond broken (b ∷ carriage_return ∷ filled_from width 0 text) (b ∷ filled_from width (column_behind column b) text))
        ≡ filter (λ b. not (b == carriage_return)) (b ∷ text)
    by_case true same = ap (λ (rest : List ℕ). cond (not (b == carriage_return)) (b ∷ rest) rest) (same 0)
    by_case false same =
        ap (λ (rest : List ℕ). cond (not (b == carriage_return)) (b ∷ rest) rest) (same (column_behind column b))

after_is_later : (column b : ℕ) → column ≤ column_after column b
after_is_later column b = by_case (b == 9)
  where
    by_case : (t : Bool) → column ≤ cond t ((column / 4 + 1) * 4) (column + 1)
    by_case true = omega arith
    by_case false = omega arith

end_is_later : (column : ℕ) (text : List ℕ) → column ≤ unit_end column text
end_is_later column [] = omega arith
end_is_later column (b ∷ text) =
    by_case (b == carriage_return) (b == blank_byte) (end_is_later (column_after column b) text)
  where
    by_case : (r s : Bool) → column_after column b ≤ unit_end (column_after column b) text
        → column ≤ cond r column (cond s (column + 1) (unit_end (column_after column b) text))
    by_case true s later = omega arith
    by_case false true later = omega arith
    by_case false false later =
        let one : column ≤ column_after column b = after_is_later column b in omega arith

short_first : (width : ℕ) (text : List ℕ) → has_short_units width text ≡ true → unit_end 0 text ≤ width
short_first width [] short = omega arith
short_first width (b ∷ text) short =
    let first : nat_le (unit_end 0 (b ∷ text)) width ≡ true = (and_parts _ _ short).0 in grind (arith, nat_tests)

is_space : (b : ℕ) → (b == blank_byte) ≡ true → b ≡ blank_byte
is_space b is = grind (arith, nat_tests)

after_space : (column b : ℕ) → (b == blank_byte) ≡ true → column_after column b ≡ column + 1
after_space column b is = ap (λ (n : ℕ). column_after column n) (is_space b is)

unit_fits : (width column end : ℕ) → column ≤ width → (nat_lt width end && nat_lt column end) ≡ false → end ≤ width
unit_fits width column end room none = by_case (nat_lt width end) refl none
  where
    by_case : (t : Bool) → nat_lt width end ≡ t → (t && nat_lt column end) ≡ false → end ≤ width
    by_case true is none = let later : nat_lt column end ≡ false = none in grind (arith, nat_tests)
    by_case false is none = grind (arith, nat_tests)

next_fits : (width column b : ℕ) (text : List ℕ) → unit_end 0 text ≤ width → unit_end column (b ∷ text) ≤ width
    → is_broken_behind width column b text ≡ false
    → (column_behind column b ≤ width) × (unit_end (column_behind column b) text ≤ width)
next_fits width column b text first fits whole = by_case (b == carriage_return) (b == blank_byte) refl fits whole
  where
    by_case : (r s : Bool) → (b == blank_byte) ≡ s
        → cond r column (cond s (column + 1) (unit_end (column_after column b) text)) ≤ width
        → (s && has_wide_unit width (column + 1) text) ≡ false
        → (cond r 0 (column_after column b) ≤ width) × (unit_end (cond r 0 (column_after column b)) text ≤ width)
    by_case true s is within whole = (omega arith, first)
    by_case false true is within whole = let same = sym (after_space column b is) in (
      subst (λ (n : ℕ). n ≤ width) same within,
      subst (λ (n : ℕ). unit_end n text ≤ width) same
          (unit_fits width (column + 1) _ within whole),
    )
    by_case false false is within whole =
        let later : column_after column b ≤ unit_end (column_after column b) text = end_is_later (column_after column b) text in
        (omega arith, within)

at_most : (n m : ℕ) → n ≤ m → nat_le n m ≡ true
at_most n m le = grind (arith, nat_tests)

pub narrow_lines : (width column : ℕ) (text : List ℕ) → column ≤ width → unit_end column text ≤ width
    → has_short_units width text ≡ true → has_narrow_lines width column (filled_from width column text) ≡ true
narrow_lines width column [] within fits short = at_most column width within
narrow_lines width column (b ∷ text) within fits short =
    by_case (is_broken_behind width column b text) refl
    (λ next within fits. narrow_lines width next text within fits (and_parts _ _ short).1)
  where
    others : has_short_units width text ≡ true
    others = (and_parts (nat_le (unit_end 0 (b ∷ text)) width) (has_short_units width text) short).1

    first : unit_end 0 text ≤ width
    first = short_first width text others

    behind_space : (b == blank_byte) ≡ true → column_behind column b ≤ width
    behind_space is =
        let e : unit_end column (b ∷ text) ≡ column + 1 = ap (λ (n : ℕ). unit_end column (n ∷ text)) (is_space b is) in
        let f : column_behind column b ≡ column + 1 = ap (λ (n : ℕ). column_behind column n) (is_space b is) in
        omega arith

    by_case : (broken : Bool) → is_broken_behind width column b text ≡ broken
        → ((next : ℕ) → next ≤ width → unit_end next text ≤ width → has_narrow_lines width next (filled_from width next text) ≡ true)
        → has_narrow_lines width column (cond broken (b ∷ carriage_return ∷ filled_from width 0 text)
        (b ∷ filled_from width (column_behind column b) text)) ≡ true
    by_case true is rest =
        and_from _ _ (at_most column width within)
        (and_from _ _ (at_most _ width (behind_space (and_parts _ _ is).0)) (rest 0 (omega arith) first))
    by_case false is rest = let fit = next_fits width column b text first fits is in
        and_from _ _ (at_most column width within) (rest (column_behind column b) fit.0 fit.1)

pub all_narrow : (width : ℕ) (text : List ℕ) → has_short_units width text ≡ true
    → has_narrow_lines width 0 (filled_from width 0 text) ≡ true
all_narrow width text short = narrow_lines width 0 text (omega arith) (short_first width text short) short

pub filled_plain : (width column : ℕ) (text : List ℕ) → list_all is_text_byte text ≡ true
    → list_all is_text_byte (filled_from width column text) ≡ true
unfolding is_text_byte
filled_plain width column [] plain = refl
filled_plain width column (b ∷ text) plain =
    by_case (is_broken_behind width column b text) (λ next. filled_plain width next text (and_parts _ _ plain).1)
  where
    by_case : (broken : Bool)
        → ((next : ℕ) → list_all is_text_byte (filled_from width next text) ≡ true)
        → list_all is_text_byte (cond broken (b ∷ carriage_return ∷ filled_from width 0 text)
        (b ∷ filled_from width (column_behind column b) text)) ≡ true
    by_case true rest = and_from _ _ (and_parts _ _ plain).0 (and_from _ _ refl (rest 0))
    by_case false rest = and_from _ _ (and_parts _ _ plain).0 (rest (column_behind column b))
