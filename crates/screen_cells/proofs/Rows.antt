-- The lines of rows from the top down.
use Rattle.std.proofs.Common.{◌≡◌, ℕ, ◌+◌, Bool, true, false, cond, List, [], ◌∷◌, ◌++◌, refl, sym, ap, ◌∙◌, arith, ◌-◌}
use Rattle.std.proofs.Common.{◌<◌, ◌≤◌, Option, subst}
use Rattle.std.specs.Prelude.{reverse, filter}
use Rattle.std.specs.List.{flat_map, range_with_len}
use Rattle.std.proofs.lemmas.List.{reverse-append, map-id}
use Rattle.std.proofs.lemmas.List.FromFn.{map-range_with_len_more}
use Rattle.std.specs.Io.KnownBytes.{Appends}
use Rattle.byte_streams.specs.Sent.{AppendsFront}
use Rattle.screen_pictures.specs.Printed.{down_from}
use Rattle.byte_streams.proofs.Taking.{HasTaken, taken_part, front_part}

down_none : down_from 0 ≡ []
unfolding down_from
down_none = refl

down_more : (n : ℕ) → down_from (n + 1) ≡ n ∷ down_from n
unfolding down_from
down_more n = ap reverse (range_more n) ∙ reverse-append (range_with_len 0 n) (n ∷ [])
  where
    range_more : (m : ℕ) → range_with_len 0 (m + 1) ≡ range_with_len 0 m ++ m ∷ []
    range_more m = sym (map-id (range_with_len 0 (m + 1))) ∙ map-range_with_len_more (λ (k : ℕ). k) 0 m m (omega arith)
        ∙ ap (λ l. l ++ m ∷ []) (map-id (range_with_len 0 m))

pub down_at : (n : ℕ) → 0 < n → down_from n ≡ (n - 1) ∷ down_from (n - 1)
down_at n some = let next : n ≡ n - 1 + 1 = omega arith in ap down_from next ∙ down_more (n - 1)

module _ (line : ℕ → List ℕ) (old mid new : Option (List ℕ)) (text part : List ℕ) (n : ℕ) (some : 0 < n)
    (is : part ≡ line (n - 1)) where
  next_line : flat_map line (down_from n) ≡ part ++ flat_map line (down_from (n - 1))
  next_line = ap (flat_map line) (down_at n some) ∙ ap (λ l. l ++ flat_map line (down_from (n - 1))) (sym is)

  -- the line of the row n - 1 was written, or a prefix of it
  pub line_taken : HasTaken old mid text (flat_map line (down_from n)) → Appends mid new part
      → HasTaken old new text (flat_map line (down_from (n - 1)))
  line_taken before now = taken_part old mid new text part (flat_map line (down_from (n - 1)))
      (subst (HasTaken old mid text) next_line before) now

  pub line_front : HasTaken old mid text (flat_map line (down_from n)) → AppendsFront mid new part
      → AppendsFront old new text
  line_front before now = front_part old mid new text part (flat_map line (down_from (n - 1)))
      (subst (HasTaken old mid text) next_line before) now

-- of the rows that pass
module _ (line : ℕ → List ℕ) (passes : ℕ → Bool) where
  passing_at : (n : ℕ) (b : Bool) → 0 < n → passes (n - 1) ≡ b
      → filter passes (down_from n) ≡ cond b ((n - 1) ∷ filter passes (down_from (n - 1)))
      (filter passes (down_from (n - 1)))
  passing_at n b some is = ap (filter passes) (down_at n some)
      ∙ ap (λ t. cond t ((n - 1) ∷ filter passes (down_from (n - 1))) (filter passes (down_from (n - 1)))) is

  -- the row n - 1 has no line
  pub no_line : (old mid : Option (List ℕ)) (text : List ℕ) (n : ℕ) → 0 < n → passes (n - 1) ≡ false
      → HasTaken old mid text (flat_map line (filter passes (down_from n)))
      → HasTaken old mid text (flat_map line (filter passes (down_from (n - 1))))
  no_line old mid text n some failed before = subst (HasTaken old mid text)
      (ap (flat_map line) (passing_at n false some failed)) before

  module _ (old mid new : Option (List ℕ)) (text part : List ℕ) (n : ℕ) (some : 0 < n) (is : part ≡ line (n - 1))
      (passed : passes (n - 1) ≡ true) where
    next_passing : flat_map line (filter passes (down_from n)) ≡ part
        ++ flat_map line (filter passes (down_from (n - 1)))
    next_passing = ap (flat_map line) (passing_at n true some passed)
        ∙ ap (λ l. l ++ flat_map line (filter passes (down_from (n - 1)))) (sym is)

    -- its line was written, or a prefix of it
    pub passing_taken : HasTaken old mid text (flat_map line (filter passes (down_from n))) → Appends mid new part
        → HasTaken old new text (flat_map line (filter passes (down_from (n - 1))))
    passing_taken before now =
        taken_part old mid new text part (flat_map line (filter passes (down_from (n - 1))))
        (subst (HasTaken old mid text) next_passing before) now

    pub passing_front : HasTaken old mid text (flat_map line (filter passes (down_from n)))
        → AppendsFront mid new part → AppendsFront old new text
    passing_front before now =
        front_part old mid new text part (flat_map line (filter passes (down_from (n - 1))))
        (subst (HasTaken old mid text) next_passing before) now

-- no row is left
pub no_rows : (n : ℕ) → n ≤ 0 → down_from n ≡ []
no_rows n none = let zero_is : n ≡ 0 = omega arith in ap down_from zero_is ∙ down_none
