-- The spans of a past over several parts. `d` is what is known of a disk.
use Rattle.std.proofs.Common.{◌≡◌, ◌≢◌, ◌⊎◌, inl, inr, ◌+◌, ◌<◌, ◌≤◌, ℕ, List, [], ◌∷◌, length, refl, sym, ◌∙◌, ap, subst, arith, true, false}
use Rattle.std.specs.Prelude.{Bool, nat_lt, if◌then◌else◌}
use Rattle.std.specs.declared.option.Option.{Option}
use Rattle.std.specs.Prelude.{Some, None, IsSomeAnd, is_some}
use Rattle.std.proofs.lemmas.Bool.{cases_lt, lt-ltb, le-ltb, false≢true}
use Rattle.store_layout.proofs.Bits.{true_or_false}
use Rattle.sector_disk.specs.declared.disk.Disk.{Ghosts}
use Rattle.sector_disk.specs.Trail.{Content, now}
use Rattle.desktop_definitions.specs.Desktop.{Desktop}
use Rattle.store_layout.specs.declared.head.Head.{Head}
use Rattle.store_layout.specs.declared.head.PastEnd.{PastEnd}
use Rattle.store_layout.specs.declared.layout.TheConstants.{LABEL, STORE_SECTORS}
use Rattle.store_layout.specs.Layout.{head_of, is_label, is_open, slot_gate, slot_head}
use Rattle.store_layout.specs.Meaning.{Standing}
use Rattle.past_pages.specs.Page.{Page}
use Rattle.past_pages.specs.Laying.{StandsFrom}
use Rattle.desk_past.specs.Chain.{HasSpan, AreSpans, IsOlderThan, IsSpan, SaysOfSpan, WasIn, WasThen, newer, open_head, start_shows}
use Rattle.desk_past.specs.declared.chain.Begun.{Begun}
use Rattle.desk_past.specs.declared.chain.TheConstants.{NO_EPOCH}
use Rattle.desk_past.specs.Deeds.{PastDeed}
use Rattle.desk_past.specs.Going.{LiesInPart}
use Rattle.desk_past.specs.Past.{KeepsAll, Start, all_deeds, moment}
use Rattle.desk_past.proofs.Gone.{holds_told, start_stands, told_room}
use Rattle.desk_journal.specs.View.{StoreView}

-- ---- the head of a start

module _ (c : Content) (base : ℕ) where
  pub open_at : (slot : ℕ) → is_open (c (base + slot_gate slot)) ≡ true
      → open_head c base slot ≡ Some (head_of (c (base + slot_head slot)))
  open_at slot opened = ap (λ (b : Bool). if b then Some (head_of (c (base + slot_head slot))) else None) opened

  pub shut_at : (slot : ℕ) → is_open (c (base + slot_gate slot)) ≡ false → open_head c base slot ≡ None
  shut_at slot shut = ap (λ (b : Bool). if b then Some (head_of (c (base + slot_head slot))) else None) shut

-- what was read of a slot
pub head_open : (c : Content) (base slot : ℕ) (gate sector : List ℕ) {h : Head} → gate ≡ c (base + slot_gate slot)
    → sector ≡ c (base + slot_head slot) → is_open gate ≡ true → h ≡ head_of sector → Some h ≡ open_head c base slot
head_open c base slot gate sector gate_is sector_is opened is =
    ap Some (is ∙ ap head_of sector_is) ∙ sym (open_at c base slot (sym (ap is_open gate_is) ∙ opened))

pub head_shut : (c : Content) (base slot : ℕ) (gate sector : List ℕ) → gate ≡ c (base + slot_gate slot)
    → sector ≡ c (base + slot_head slot) → is_open gate ≡ false → None ≡ open_head c base slot
head_shut c base slot gate sector gate_is sector_is shut =
    sym (shut_at c base slot (sym (ap is_open gate_is) ∙ shut))

pub newer_first : (one other : Head) → other.epoch ≤ one.epoch → newer (Some one) (Some other) ≡ Some one
newer_first one other le = ap (λ (b : Bool). if b then Some other else Some one) (le-ltb one.epoch other.epoch le)

pub newer_second : (one other : Head) → one.epoch < other.epoch → newer (Some one) (Some other) ≡ Some other
newer_second one other less = ap (λ (b : Bool). if b then Some other else Some one) (lt-ltb one.epoch other.epoch less)

-- it says what the standing does
abbrev pub SaysSo : Standing → Head → Type 0
SaysSo t h = (h.epoch ≡ t.epoch) × (h.past ≡ t.past)

-- what a start shows is what the newer one of its open heads says
pub newest_shown : (c : Content) (base : ℕ) (t : Standing) → StandsFrom c base t
    → IsSomeAnd (newer (open_head c base 0) (open_head c base 1)) (SaysSo t)
newest_shown c base t at = elim (cases_lt t.slot 1) [
  | inl low ↦
      let here : t.slot ≡ 0 = omega (arith, low) in
      let live = subst (λ (s : ℕ). is_open (c (base + slot_gate s)) ≡ true) here at.live in
      let says : SaysSo t (head_of (c (base + slot_head 0))) = (
        subst (λ (s : ℕ). (head_of (c (base + slot_head s))).epoch ≡ t.epoch) here at.epoch,
        subst (λ (s : ℕ). (head_of (c (base + slot_head s))).past ≡ t.past) here at.past,
      ) in
      elim (true_or_false (is_open (c (base + slot_gate 1)))) [
        | inl opened ↦
            let older = (at.other 1 (omega (arith, here)) opened).1 in
            subst (λ (o : Option Head). IsSomeAnd o (SaysSo t))
            (sym ((λ i. newer (open_at c base 0 live i) (open_at c base 1 opened i))
            ∙ newer_first (head_of (c (base + slot_head 0))) (head_of (c (base + slot_head 1)))
            (omega (arith, older, says.0))))
            says
        | inr shut ↦
            subst (λ (o : Option Head). IsSomeAnd o (SaysSo t))
            (sym (λ i. newer (open_at c base 0 live i) (shut_at c base 1 shut i))) says
      ]
  | inr high ↦
      let here : t.slot ≡ 1 = let two = at.two in omega (arith, high, two) in
      let live = subst (λ (s : ℕ). is_open (c (base + slot_gate s)) ≡ true) here at.live in
      let says : SaysSo t (head_of (c (base + slot_head 1))) = (
        subst (λ (s : ℕ). (head_of (c (base + slot_head s))).epoch ≡ t.epoch) here at.epoch,
        subst (λ (s : ℕ). (head_of (c (base + slot_head s))).past ≡ t.past) here at.past,
      ) in
      elim (true_or_false (is_open (c (base + slot_gate 0)))) [
        | inl opened ↦
            let older = (at.other 0 (omega (arith, here)) opened).1 in
            subst (λ (o : Option Head). IsSomeAnd o (SaysSo t))
            (sym ((λ i. newer (open_at c base 0 opened i) (open_at c base 1 live i))
            ∙ newer_second (head_of (c (base + slot_head 0))) (head_of (c (base + slot_head 1)))
            (omega (arith, older, says.0))))
            says
        | inr shut ↦
            subst (λ (o : Option Head). IsSomeAnd o (SaysSo t))
            (sym (λ i. newer (shut_at c base 0 shut i) (open_at c base 1 live i))) says
      ]
]

-- ---- the part of a span

module _ {size : ℕ} {told : PastEnd} {span : Start × List Page} {c : Content} (is : IsSpan size told span c) where
  pub span_low : span.0.base + STORE_SECTORS ≤ told.next
  span_low = told_room is.holds span.0.base refl

  -- the start stands there
  pub span_stands : (base : ℕ) → span.0.base ≡ base → StandsFrom c base (start_shows is)
  span_stands base same = start_stands is.holds.written.0 base same

-- the rest of the spans, from where a start tells
abbrev pub HasSpans : ℕ → Content → PastEnd → ℕ → ℕ → Desktop → Type 0
HasSpans size c told epoch k was = (spans : List (Start × List Page)) × (are : AreSpans size c epoch told spans)
    × WasThen size c epoch told spans are k was

-- what is said of the start of a span where that tells of these spans
abbrev pub SaysOfAll : ℕ → PastEnd → ℕ → Option Begun → Content → Type 0
SaysOfAll size told epoch found c = (span : Start × List Page) → (is : IsSpan size told span c)
    → IsOlderThan (start_shows is).epoch epoch → IsSomeAnd found (SaysOfSpan is)

-- a moment of the spans is one of the first of them, or one of the others
pub first_or_others : {size : ℕ} {c : Content} {told : PastEnd} {epoch k : ℕ} {was : Desktop}
    → HasSpans size c told epoch k was
    → (span : Start × List Page) × (is : IsSpan size told span c) × IsOlderThan (start_shows is).epoch epoch
    × ((WasIn k was is × (k < span.0.before → (next : Start × List Page) × (more : IsSpan size (start_shows is).past
    next c)
    × IsOlderThan (start_shows more).epoch (start_shows is).epoch))
    ⊎ ((k < (start_shows is).past.before) × HasSpans size c (start_shows is).past (start_shows is).epoch k was))
first_or_others ([], are, wrong) = absurd wrong
first_or_others (span ∷ [], are, inl here) = (span, are.0, are.1, inl (here.0, λ ahead. absurd (here.1 ahead)))
first_or_others (span ∷ (next ∷ spans), are, inl here) =
    (span, are.0, are.1, inl (here.0, λ ahead. (next, are.2.0, are.2.1)))
first_or_others (span ∷ spans, are, inr there) = (span, are.0, are.1, inr (there.0, (spans, are.2, there.1)))

is_there : {T : Type 0} (P : T → Type 0) (o : Option T) → IsSomeAnd o P → (x : T) × (o ≡ Some x)
is_there P (Some x) has = (x, refl)
is_there P None has = absurd has

-- the span before is found where the start of this one tells of it
pub spans_on : {size : ℕ} {told told' : PastEnd} {epoch epoch' : ℕ} {found : Option Begun} {c : Content}
    → SaysOfAll size told epoch found c → told ≡ told' → epoch ≡ epoch' → (next : Start × List Page)
    → (more : IsSpan size told' next c) → IsOlderThan (start_shows more).epoch epoch' → (b : Begun) × (found ≡ Some b)
spans_on {size = size} {found = found} {c = c} says is same next more older =
    is_there (SaysOfSpan more) found (subst (λ (x : PastEnd × ℕ). SaysOfAll size x.0 x.1 found c) (λ i. (is i, same i))
    says next more older)

pub is_some_of : {T : Type 0} (o : Option T) (b : Bool) → b ≡ is_some o → (x : T) × (o ≡ Some x) → b ≡ true
is_some_of o b is there = is ∙ ap is_some there.1

-- a moment of spans comes before where they end
pub before_told : (size k : ℕ) (c : Content) (told : PastEnd) (epoch : ℕ) (was : Desktop)
    (spans : List (Start × List Page))
    (are : AreSpans size c epoch told spans) → WasThen size c epoch told spans are k was → k < told.before
before_told size k c told epoch was [] are wrong = absurd wrong
before_told size k c told epoch was (span ∷ spans) are (inl here) = here.0.high
before_told size k c told epoch was (span ∷ spans) are (inr there) =
    let counted = are.0.holds.counted in
    let start = are.0.holds.written.0.counted in
    let low = there.0 in omega (arith, low, start, counted)

-- ---- the part in use

module _ {D : Type 0} (d : Ghosts D) {start : Start} {deeds : List PastDeed} {desktop : Desktop} {store : StoreView D}
    (keeps : KeepsAll d start deeds desktop store) (lies : LiesInPart d keeps) (told : PastEnd)
    (head : told ≡ keeps.remembers.standing.past) where
  span_in_use : IsSpan (d.size store.disk) told (start, keeps.remembers.pages) (now (d.trail store.disk)).reads
  span_in_use = record {
    end = lies.end;
    part = lies.part;
    within = let within = lies.within in let next = ap (λ (p : PastEnd). p.next) head in omega (arith, within, next);
    holds = holds_told keeps.remembers told head refl keeps.remembers.past.written;
  }

  -- its moments are those of one span
  pub was_in_use : (k : ℕ) → start.before ≤ k → k < told.before
      → HasSpans (d.size store.disk) (now (d.trail store.disk)).reads
      told NO_EPOCH k (moment start (all_deeds keeps.remembers.pages) k)
  was_in_use k low high = (
    (start, keeps.remembers.pages) ∷ [],
    (span_in_use, inr refl, tt),
    inl (
      record {
        low = let counted = span_in_use.holds.written.0.counted in omega (arith, counted, low);
        high = high;
        behind = λ _. refl;
        ahead = λ ahead. absurd (omega (arith, ahead, low));
      },
      λ ahead. absurd (omega (arith, ahead, low)),
    ),
  )
