-- The first one of the spans of a past, and the epoch of a start.
use Rattle.std.proofs.Common.{◌≡◌, ◌⊎◌, inl, inr, ◌+◌, ◌<◌, ◌≤◌, ℕ, List, [], ◌∷◌, refl, sym, ◌∙◌, ap, subst, arith, true, false}
use Rattle.std.specs.Prelude.{Bool, IfSome, IsSomeAnd, None, Some, if◌then◌else◌, max}
use Rattle.std.specs.declared.option.Option.{Option}
use Rattle.std.proofs.lemmas.Bool.{cases_lt}
use Rattle.store_layout.proofs.Bits.{true_or_false}
use Rattle.sector_disk.specs.Trail.{Content}
use Rattle.store_layout.specs.declared.head.Head.{Head}
use Rattle.store_layout.specs.declared.head.PastEnd.{PastEnd}
use Rattle.store_layout.specs.declared.layout.TheConstants.{LABEL}
use Rattle.store_layout.specs.Layout.{head_of, is_label, is_open, slot_gate, slot_head}
use Rattle.past_pages.specs.Page.{Page}
use Rattle.desk_past.specs.Chain.{AreSpans, HasSpan, IsFirstOf, IsOlderThan, IsSpan, newer, open_head, start_shows}
use Rattle.desk_past.specs.declared.chain.Begun.{Begun}
use Rattle.desk_past.specs.Going.{slot_epoch, start_epoch}
use Rattle.desk_past.specs.Past.{Start}
use Rattle.desk_past.proofs.Chaining.{SaysOfAll, newer_first, newer_second, open_at, shut_at}

-- ---- the epoch of a start

-- the epoch of a head, or 0 where there is none
abbrev epoch_of : Option Head → ℕ
epoch_of None = 0
epoch_of (Some head) = head.epoch

slot_is : (c : Content) (base slot : ℕ) → slot_epoch c base slot ≡ epoch_of (open_head c base slot)
slot_is c base slot = elim (true_or_false (is_open (c (base + slot_gate slot)))) [
  | inl opened ↦
      ap (λ (b : Bool). if b then (head_of (c (base + slot_head slot))).epoch else 0) opened
      ∙ sym (ap epoch_of (open_at c base slot opened))
  | inr shut ↦
      ap (λ (b : Bool). if b then (head_of (c (base + slot_head slot))).epoch else 0) shut
      ∙ sym (ap epoch_of (shut_at c base slot shut))
]

newer_epoch : (one other : Option Head) (h : Head) → newer one other ≡ Some h
    → h.epoch ≡ max (epoch_of one) (epoch_of other)
newer_epoch None None h is = absurd (let wrong : ⊥ = cc is in wrong)
newer_epoch None (Some b) h is = let same : b.epoch ≡ h.epoch = ap epoch_of is in omega (arith, same)
newer_epoch (Some a) None h is = let same : a.epoch ≡ h.epoch = ap epoch_of is in omega (arith, same)
newer_epoch (Some a) (Some b) h is = elim (cases_lt a.epoch b.epoch) [
  | inl less ↦
      let same : b.epoch ≡ h.epoch = ap epoch_of (sym (newer_second a b less) ∙ is) in omega (arith, same, less)
  | inr ge ↦ let same : a.epoch ≡ h.epoch = ap epoch_of (sym (newer_first a b ge) ∙ is) in omega (arith, same, ge)
]

-- it is that of the newer one of its open heads
pub head_told : (c : Content) (base : ℕ) (h : Head) → is_label (c (base + LABEL)) ≡ true
    → newer (open_head c base 0) (open_head c base 1) ≡ Some h → h.epoch ≡ start_epoch c base
head_told c base h label is =
    newer_epoch (open_head c base 0) (open_head c base 1) h is
    ∙ (λ i. max (sym (slot_is c base 0) i) (sym (slot_is c base 1) i))
    ∙ sym (ap (λ (b : Bool). if b then max (slot_epoch c base 0) (slot_epoch c base 1) else 0) label)

-- ---- spans that were passed

-- of this span the start was found, or an older one since
abbrev pub IsPassed : {size : ℕ} {told : PastEnd} {span : Start × List Page} {c : Content} → Option ℕ → ℕ
    → IsSpan size told span c → Type 0
IsPassed None epoch is = ⊥
IsPassed {span = span} (Some base) epoch is =
    (base ≡ span.0.base) × (epoch ≡ (start_shows is).epoch) ⊎ (epoch < (start_shows is).epoch)

-- these were passed up to where this is told, and the others go on from there
abbrev pub ArePassed : (size : ℕ) (c : Content) (epoch : ℕ) (told : PastEnd) → Option ℕ → (number : ℕ) (end : PastEnd)
    (spans : List (Start × List Page)) → AreSpans size c number end spans → Type 0
ArePassed size c epoch told first number end [] are = Unit {0}
ArePassed size c epoch told first number end (span ∷ spans) are =
    (number ≡ epoch) × (end ≡ told)
    ⊎ IsPassed first epoch are.0
    × ArePassed size c epoch told first (start_shows are.0).epoch (start_shows are.0).past spans are.2

-- none was passed so far
pub passed_none : (size : ℕ) (c : Content) (epoch : ℕ) (told : PastEnd) (first : Option ℕ) (number : ℕ) (end : PastEnd)
    (spans : List (Start × List Page)) (are : AreSpans size c number end spans) → number ≡ epoch → end ≡ told
    → ArePassed size c epoch told first number end spans are
passed_none size c epoch told first number end [] are same is = tt
passed_none size c epoch told first number end (span ∷ spans) are same is = inl (same, is)

later : {size : ℕ} {told : PastEnd} {span : Start × List Page} {c : Content} (first : Option ℕ) (epoch lower base : ℕ)
    (is : IsSpan size told span c) → lower < epoch → IsPassed first epoch is → IsPassed (Some base) lower is
later None epoch lower base is less passed = absurd passed
later (Some old) epoch lower base is less (inl here) = let same = here.1 in inr (omega (arith, same, less))
later (Some old) epoch lower base is less (inr older) = inr (omega (arith, older, less))

-- one start further back
pub passed_on : (size : ℕ) (c : Content) (epoch : ℕ) (told : PastEnd) (first : Option ℕ) (begun : Begun)
    → SaysOfAll size told epoch (Some begun) c → begun.epoch < epoch → (number : ℕ) (end : PastEnd)
    (spans : List (Start × List Page)) (are : AreSpans size c number end spans)
    → ArePassed size c epoch told first number end spans are
    → ArePassed size c begun.epoch begun.told (Some begun.base) number end spans are
passed_on size c epoch told first begun says less number end [] are passed = tt
passed_on size c epoch told first begun says less number end (span ∷ spans) are (inl here) =
    let so = subst (λ (x : PastEnd × ℕ). SaysOfAll size x.0 x.1 (Some begun) c) (λ i. (sym here.1 i, sym here.0 i)) says
    span are.0 are.1 in
    inr (
      inl (so.0, so.1),
      passed_none size c begun.epoch begun.told (Some begun.base) (start_shows are.0).epoch (start_shows are.0).past
          spans are.2 (sym so.1) (sym so.2),
    )
passed_on size c epoch told first begun says less number end (span ∷ spans) are (inr passed) = inr (
  later first epoch begun.epoch begun.base are.0 less passed.0,
  passed_on size c epoch told first begun says less (start_shows are.0).epoch (start_shows are.0).past spans are.2
      passed.1,
)

-- no span ends where this is told
abbrev pub NoneEnds : ℕ → Content → ℕ → PastEnd → Type 0
NoneEnds size c epoch told = (span : Start × List Page) → (is : IsSpan size told span c)
    → IsOlderThan (start_shows is).epoch epoch → ⊥

all_passed : (size : ℕ) (c : Content) (epoch : ℕ) (told : PastEnd) (base : ℕ) → NoneEnds size c epoch told
    → epoch ≡ start_epoch c base → (number : ℕ) (end : PastEnd) (spans : List (Start × List Page))
    (are : AreSpans size c number end spans) → ArePassed size c epoch told (Some base) number end spans are
    → IsFirstOf size c number end spans are base
all_passed size c epoch told base none is number end [] are passed = tt
all_passed size c epoch told base none is number end (span ∷ spans) are (inl here) =
    absurd (subst (λ (x : PastEnd × ℕ). NoneEnds size c x.1 x.0) (λ i. (sym here.1 i, sym here.0 i)) none span are.0
    are.1)
all_passed size c epoch told base none is number end (span ∷ spans) are (inr passed) = (
  elim passed.0 [
    | inl here ↦ inl here.0
    | inr older ↦ inr (omega (arith, older, is))
  ],
  all_passed size c epoch told base none is (start_shows are.0).epoch (start_shows are.0).past spans are.2 passed.1,
)

-- all were passed
pub first_found : (size : ℕ) (c : Content) (epoch : ℕ) (told : PastEnd) (first : Option ℕ) → NoneEnds size c epoch told
    → IfSome first (λ base. epoch ≡ start_epoch c base) → (number : ℕ) (end : PastEnd)
    (spans : List (Start × List Page)) (are : AreSpans size c number end spans)
    → ArePassed size c epoch told first number end spans are → HasSpan spans
    → IsSomeAnd first (IsFirstOf size c number end spans are)
first_found size c epoch told (Some base) none is number end spans are passed some =
    all_passed size c epoch told base none is number end spans are passed
first_found size c epoch told None none is number end [] are passed some = absurd some
first_found size c epoch told None none is number end (span ∷ spans) are (inl here) some =
    absurd (subst (λ (x : PastEnd × ℕ). NoneEnds size c x.1 x.0) (λ i. (sym here.1 i, sym here.0 i)) none span are.0
    are.1)
first_found size c epoch told None none is number end (span ∷ spans) are (inr passed) some = absurd passed.0
