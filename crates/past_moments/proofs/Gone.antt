-- Where a word stands on the screen last. `d` is what is known of a disk.
use Rattle.std.proofs.Common.{◌≡◌, ◌∙◌, ◌+◌, ◌-◌, ◌<◌, ◌≤◌, ℕ, zero, suc, List, [], ◌∷◌, length, take, drop, refl, sym, ap, subst, arith}
use Rattle.std.proofs.Common.{Bool, true, false, ◌&&◌, ◌||◌, not, if◌then◌else◌, Some, None}
use Rattle.std.specs.Prelude.{Option}
use Rattle.screen_pictures.specs.declared.cell.Cell.{Cell}
use Rattle.event_bytes.specs.declared.event.Event.{Event}
use Rattle.desktop_definitions.specs.Desktop.{Desktop}
use Rattle.desktop_definitions.specs.Step.{step, steps}
use Rattle.past_moments.specs.Seeking.{Goes, IsLastGone, IsSoughtBy, Stays, begins_with, has_word}
use Rattle.past_moments.specs.declared.seeking.Sought.TheVariants.{At, Before}

-- ---- a row

pub row_more : (row : List Cell) (word : List ℕ) (x : ℕ) → x < length row → begins_with (drop x row) word ≡ false
    → has_word (drop x row) word ≡ has_word (drop (x + 1) row) word
row_more [] word x low none = absurd (omega (arith, low))
row_more (c ∷ row) word zero low none = ap (λ b. b || has_word row word) none
row_more (c ∷ row) word (suc x) low none =
    let next : x + 1 ≡ suc x = omega arith in
    let more : suc (suc x) ≡ suc x + 1 = omega arith in
    row_more row word x (omega (arith, low)) none ∙ ap (λ n. has_word (drop n row) word) next
    ∙ ap (λ n. has_word (drop n (c ∷ row)) word) more

pub row_has : (row : List Cell) (word : List ℕ) (x : ℕ) → x < length row → begins_with (drop x row) word ≡ true
    → has_word (drop x row) word ≡ true
row_has [] word x low is = absurd (omega (arith, low))
row_has (c ∷ row) word zero low is = ap (λ b. b || has_word row word) is
row_has (c ∷ row) word (suc x) low is = row_has row word x (omega (arith, low)) is

pub row_end : (row : List Cell) (word : List ℕ) (x : ℕ) → length row ≤ x → has_word (drop x row) word ≡ false
row_end [] word zero long = refl
row_end [] word (suc x) long = refl
row_end (c ∷ row) word zero long = absurd (omega (arith, long))
row_end (c ∷ row) word (suc x) long = row_end row word x (omega (arith, long))

-- ---- posts, one after another

zero_left : (n : ℕ) → 0 + n ≡ n
zero_left n = omega arith

none_of : (n : ℕ) (d : Desktop) → steps d (take n []) ≡ d
none_of zero d = refl
none_of (suc n) d = refl

-- so many events more
pub steps_on : (d : Desktop) (l : List Event) (i n m : ℕ) → m ≡ i + n
    → steps d (take m l) ≡ steps (steps d (take i l)) (take n (drop i l))
steps_on d l zero n m is = ap (λ k. steps d (take k l)) (is ∙ zero_left n)
steps_on d [] (suc i) n m is = none_of m d ∙ sym (none_of n d)
steps_on d (event ∷ l) (suc i) n zero is = absurd (omega (arith, is))
steps_on d (event ∷ l) (suc i) n (suc m) is = steps_on (step d event).desktop l i n m (omega (arith, is))

-- ---- moments

below : (a b : ℕ) → a < b + 1 → (a ≡ b → ⊥) → a < b
below a b le other = omega (arith, le, other)

stays_more : (at : ℕ → Bool) (from n : ℕ) → Stays at from n → (Goes at n → ⊥) → Stays at from (n + 1)
stays_more at from n stays none = λ i low high goes.
    stays i low (below i n high (λ same. none (subst (Goes at) same goes))) goes

stays_none : (at : ℕ → Bool) (n : ℕ) → Stays at n n
stays_none at n = λ i low high goes. absurd (omega (arith, low, high))

last_more : (at : ℕ → Bool) (n : ℕ) (last : Option ℕ) → (Goes at n → ⊥) → IsLastGone at n last → IsLastGone at (n + 1) last
last_more at n None none is = stays_more at 0 n is none
last_more at n (Some i) none is = (omega (arith, is.0), is.1, stays_more at (i + 1) n is.2 none)

-- a moment more
pub gone_more : (at : ℕ → Bool) (n : ℕ) (last : Option ℕ) (was is : Bool) → was ≡ at n → is ≡ at (n + 1)
    → IsLastGone at n last → IsLastGone at (n + 1) (if was && not is then Some n else last)
gone_more at n last true false was is gone = (omega arith, (sym was, sym is), stays_none at (n + 1))
gone_more at n last true true was is gone =
    last_more at n last (λ goes. absurd (let wrong : ⊥ = cc (is, goes.1) in wrong)) gone
gone_more at n last false true was is gone =
    last_more at n last (λ goes. absurd (let wrong : ⊥ = cc (was, goes.0) in wrong)) gone
gone_more at n last false false was is gone =
    last_more at n last (λ goes. absurd (let wrong : ⊥ = cc (was, goes.0) in wrong)) gone

-- ---- from one moment up to another

module _ (at among : ℕ → Bool) (first n : ℕ) (same : (i : ℕ) → i ≤ n → at (first + i) ≡ among i) where
  goes_among : (i : ℕ) → first ≤ i → i < first + n → Goes at i → Goes among (i - first)
  goes_among i low high goes =
      let here : first + (i - first) ≡ i = omega (arith, low) in
      let next : first + (i - first + 1) ≡ i + 1 = omega (arith, low) in (
        sym (same (i - first) (omega (arith, low, high))) ∙ ap at here ∙ goes.0,
        sym (same (i - first + 1) (omega (arith, low, high))) ∙ ap at next ∙ goes.1,
      )

  goes_there : (i : ℕ) → i < n → Goes among i → Goes at (first + i)
  goes_there i low goes =
      let next : first + i + 1 ≡ first + (i + 1) = omega arith in (
        same i (omega (arith, low)) ∙ goes.0,
        ap at next ∙ same (i + 1) (omega (arith, low)) ∙ goes.1,
      )

  pub sought_none : (k : ℕ) → k ≡ first + n → IsLastGone among n None → IsSoughtBy at k (Before first)
  sought_none k is stays = λ i low high goes.
      stays (i - first) (omega arith) (omega (arith, low, high, is)) (goes_among i low (omega (arith, high, is)) goes)

  pub sought_some : (k i : ℕ) → k ≡ first + n → IsLastGone among n (Some i) → IsSoughtBy at k (At (first + i))
  sought_some k i is gone = (
    goes_there i gone.0 gone.1,
    λ j low high goes. gone.2 (j - first) (omega (arith, low)) (omega (arith, low, high, is))
        (goes_among j (omega (arith, low)) (omega (arith, high, is)) goes),
  )

-- between two moments, one behind the other
pub sought_between : (at : ℕ → Bool) (first : ℕ) → (Goes at first → ⊥) → IsSoughtBy at (first + 1) (Before first)
sought_between at first none = stays_more at first first (stays_none at first) none
