-- Parts of a line that is heard.
use Rattle.std.proofs.Common.{◌≡◌, ◌∙◌, ℕ, zero, suc, Bool, true, false, cond, List, [], ◌∷◌, length, take, drop, refl, sym, ap, subst, arith}
use Rattle.std.specs.Prelude.{◌==◌, ◌||◌, ◌&&◌}
use Rattle.terminal_presses.specs.declared.press.Heard.{Heard}
use Rattle.terminal_presses.specs.declared.press.Heard.TheVariants.{Byte, Quiet}
use Rattle.std.specs.Prelude.{Option}
use Rattle.std.specs.Io.KnownBytes.{Consumes, prepend_known}
use Rattle.std.proofs.lemmas.List.{take-append-drop}
use Rattle.terminal_keyboard.specs.Hearings.{heard_bytes, is_escape, is_line_end, line_from}
use Rattle.terminal_keyboard.proofs.Hearings.{bytes_of_both, told_and_kept}

heard_first : (behind : Bool) (one : Heard) (more : List Heard)
    → line_from behind (one ∷ more) ≡ suc (cond (is_line_end behind one) 0 (line_from (is_escape one) more))
unfolding line_from
heard_first behind one more = refl

pub heard_none : (behind : Bool) → line_from behind [] ≡ 0
unfolding line_from
heard_none behind = refl

empty : (l : List Heard) → length l ≡ 0 → l ≡ []
empty [] is = refl
empty (x ∷ l) is = absurd (omega (arith, is))

pub line_front : (behind : Bool) (n : ℕ) (l : List Heard) → line_from behind l ≡ length l
    → line_from behind (take n l) ≡ length (take n l)
line_front behind zero l is = heard_none behind
line_front behind (suc n) [] is = heard_none behind
line_front behind (suc n) (x ∷ l) is = heard_first behind x (take n l)
    ∙ by_end (is_line_end behind x) (line_front (is_escape x) n l) (sym (heard_first behind x l) ∙ is) where
      front_none : (k : ℕ) → take {A = Heard} k [] ≡ []
      front_none zero = refl
      front_none (suc k) = refl

      taken_none : l ≡ [] → take n l ≡ []
      taken_none none = ap (take n) none ∙ front_none n

      by_end : (b : Bool) → (line_from (is_escape x) l ≡ length l
          → line_from (is_escape x) (take n l) ≡ length (take n l)) → suc (cond b 0 (line_from (is_escape x) l)) ≡ suc (length l)
          → suc (cond b 0 (line_from (is_escape x) (take n l))) ≡ suc (length (take n l))
      by_end true more same = let none : length l ≡ 0 = omega (arith, same) in
          ap (λ (k : List Heard). suc (length k)) (sym (taken_none (empty l none)))
      by_end false more same = ap suc (more (let e : line_from (is_escape x) l ≡ length l = omega (arith, same) in e))

-- behind no escape byte fewer lines end
fewer : (behind : Bool) (x : Heard) → is_line_end false x ≡ true → is_line_end behind x ≡ true
fewer false x is = is
fewer true (Quiet) is = is
fewer true (Byte b) is = or_more _ (b == 122) is where
  or_more : (e : Bool) (f : Bool) → (e || (false && f)) ≡ true → (e || (true && f)) ≡ true
  or_more true f is = refl
  or_more false f is = absurd cc is

any_line : (behind : Bool) (l : List Heard) → line_from behind l ≡ length l → line_from false l ≡ length l
any_line behind [] is = heard_none false
any_line behind (x ∷ l) is = heard_first false x l
    ∙ by_ends (is_line_end false x) (is_line_end behind x) (fewer behind x) (sym (heard_first behind x l) ∙ is) where
      by_ends : (b c : Bool) → (b ≡ true → c ≡ true) → suc (cond c 0 (line_from (is_escape x) l)) ≡ suc (length l)
          → suc (cond b 0 (line_from (is_escape x) l)) ≡ suc (length l)
      by_ends true true more same = same
      by_ends true false more same = absurd cc (more refl)
      by_ends false true more same = let none : length l ≡ 0 = omega (arith, same) in
          ap (λ k. suc (line_from (is_escape x) k)) (empty l none) ∙ ap suc (heard_none (is_escape x) ∙ sym none)
      by_ends false false more same = same

pub line_rest : (behind : Bool) (n : ℕ) (l : List Heard) → line_from behind l ≡ length l
    → line_from false (drop n l) ≡ length (drop n l)
line_rest behind zero l is = any_line behind l is
line_rest behind (suc n) [] is = heard_none false
line_rest behind (suc n) (x ∷ l) is = by_end (is_line_end behind x) (line_rest (is_escape x) n l) (sym (heard_first behind x l) ∙ is) where
  rest_none : (k : ℕ) → drop {A = Heard} k [] ≡ []
  rest_none zero = refl
  rest_none (suc k) = refl

  dropped_none : l ≡ [] → drop n l ≡ []
  dropped_none none = ap (drop n) none ∙ rest_none n

  by_end : (b : Bool) → (line_from (is_escape x) l ≡ length l → line_from false (drop n l) ≡ length (drop n l))
      → suc (cond b 0 (line_from (is_escape x) l)) ≡ suc (length l) → line_from false (drop n l) ≡ length (drop n l)
  by_end true more same = let none : length l ≡ 0 = omega (arith, same) in
      ap (line_from false) (dropped_none (empty l none)) ∙ heard_none false ∙ sym (ap length (dropped_none (empty l none)))
  by_end false more same = more (let e : line_from (is_escape x) l ≡ length l = omega (arith, same) in e)

-- what is told of what was heard, and what is kept
pub bytes_told : (a b b' : Option (List ℕ)) (n : ℕ) (all told rest heard later : List Heard)
    → Consumes a b (heard_bytes all) → heard ≡ all → told ≡ take n heard → rest ≡ drop n heard → later ≡ rest → b' ≡ b
    → (said : List Heard) → said ≡ told → Consumes a (prepend_known (heard_bytes later) b') (heard_bytes said)
bytes_told a b b' n all told rest heard later came is front back kept same said of =
    subst (λ x. Consumes a (prepend_known (heard_bytes later) b') (heard_bytes x)) (sym (of ∙ front))
    (subst (λ x. Consumes a (prepend_known (heard_bytes x) b') (heard_bytes (take n heard))) (sym (kept ∙ back))
    (subst (λ x. Consumes a (prepend_known (heard_bytes (drop n heard)) x) (heard_bytes (take n heard))) (sym same)
    (told_and_kept a b (heard_bytes (take n heard)) (heard_bytes (drop n heard)) (heard_bytes all) came
    (ap heard_bytes (sym (take-append-drop n heard ∙ is)) ∙ bytes_of_both (take n heard) (drop n heard)))))

-- a quiet while is no end of a line
pub line_quiet : line_from false (Quiet ∷ []) ≡ 1
line_quiet = heard_first false Quiet [] ∙ ap suc (heard_none false)

-- only that is told, and all that was heard is kept
pub bytes_quiet : (a b b' : Option (List ℕ)) (all heard later : List Heard) → Consumes a b (heard_bytes all) → heard ≡ all
    → later ≡ heard → b' ≡ b → (said : List Heard) → said ≡ Quiet ∷ []
    → Consumes a (prepend_known (heard_bytes later) b') (heard_bytes said)
bytes_quiet a b b' all heard later came is kept same said of =
    subst (λ x. Consumes a (prepend_known (heard_bytes later) b') (heard_bytes x)) (sym of)
    (subst (λ x. Consumes a (prepend_known (heard_bytes x) b') []) (sym (kept ∙ is))
    (subst (λ x. Consumes a (prepend_known (heard_bytes all) x) []) (sym same)
    (told_and_kept a b [] (heard_bytes all) (heard_bytes all) came refl)))
