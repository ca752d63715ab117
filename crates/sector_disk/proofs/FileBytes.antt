-- Laws of the bytes of a file: what a write of some of them leaves, and runs of calls.
use Rattle.std.proofs.Common.{◌≡◌, ◌⊎◌, inl, inr, ℕ, ◌+◌, ◌-◌, ◌<◌, ◌≤◌, List, [], length, get_or, take, drop}
use Rattle.std.proofs.Common.{if◌then◌else◌, true, false, refl, sym, ◌∙◌, ap, arith}
use Rattle.std.proofs.Common.{length-drop, get_or-take}
use Rattle.std.proofs.lemmas.List.{get_or-drop, length-take-le}
use Rattle.std.proofs.lemmas.Bool.{cases_lt}
use Rattle.std.proofs.lemmas.Bool.Decides.{nat_tests}
use Rattle.sector_disk.specs.Trail.{Nowhere}
use Rattle.sector_disk.specs.FileTrail.{FileMoment, FileTrail, current, in_span, overwritten, ChangesOnly}
use Rattle.sector_disk.specs.FileTrail.{IsFileConfined, EndsTrail}
use Rattle.std.proofs.Common.{Result, Ok, Err, OnOk, OnErr, subst}

inside : (from n i : ℕ) → from ≤ i → i < from + n → in_span from n i ≡ true
inside from n i low high = grind (arith, nat_tests)

outside : (from n i : ℕ) → (i < from) ⊎ (from + n ≤ i) → in_span from n i ≡ false
outside from n i out = grind (arith, nat_tests)

-- a byte is one of those, or another
pub placed : (from n i : ℕ) → ((from ≤ i) × (i < from + n)) ⊎ ((i < from) ⊎ (from + n ≤ i))
placed from n i = elim (cases_lt i from) [
  | inl before ↦ inr (inl before)
  | inr reached ↦ elim (cases_lt i (from + n)) [
    | inl within ↦ inl (reached, within)
    | inr past ↦ inr (inr past)
  ]
]

module _ (m : FileMoment) (from : ℕ) (bytes : List ℕ) (i : ℕ) where
  pub reads_inside : from ≤ i → i < from + length bytes → (overwritten m from bytes).reads i ≡ get_or bytes (i - from) 0
  reads_inside low high = ap (λ b. if b then get_or bytes (i - from) 0 else m.reads i) (inside from (length bytes) i low high)

  pub pending_inside : from ≤ i → i < from + length bytes → (overwritten m from bytes).pending i ≡ true
  pending_inside low high = ap (λ b. if b then true else m.pending i) (inside from (length bytes) i low high)

  pub reads_outside : (i < from) ⊎ (from + length bytes ≤ i) → (overwritten m from bytes).reads i ≡ m.reads i
  reads_outside out = ap (λ b. if b then get_or bytes (i - from) 0 else m.reads i) (outside from (length bytes) i out)

  pub pending_outside : (i < from) ⊎ (from + length bytes ≤ i) → (overwritten m from bytes).pending i ≡ m.pending i
  pending_outside out = ap (λ b. if b then true else m.pending i) (outside from (length bytes) i out)

pub same_moments : (m m' : FileMoment) → ((i : ℕ) → m.reads i ≡ m'.reads i) → ((i : ℕ) → m.pending i ≡ m'.pending i)
    → m ≡ m'
same_moments m m' reads pending = λ i. record { reads = λ k. reads k i; pending = λ k. pending k i }

-- no byte written
pub overwritten_none : (m : FileMoment) (from : ℕ) (bytes : List ℕ) → overwritten m from (take 0 bytes) ≡ m
overwritten_none m from bytes = same_moments (overwritten m from []) m (λ i. reads_outside m from [] i (none i))
    (λ i. pending_outside m from [] i (none i))
  where
    none : (i : ℕ) → (i < from) ⊎ (from + 0 ≤ i)
    none i = elim (cases_lt i from) [ inl before ↦ inl before | inr reached ↦ inr (omega arith) ]

-- the first bytes written, and then the next ones
module _ (m : FileMoment) (from : ℕ) (bytes : List ℕ) (k n at : ℕ) (next : at ≡ from + k)
    (few : k + n ≤ length bytes) where
  first : FileMoment
  first = overwritten m from (take k bytes)

  long_first : length (take k bytes) ≡ k
  long_first = length-take-le k bytes (omega (arith, few))

  long_rest : length (take n (drop k bytes)) ≡ n
  long_rest = length-take-le n (drop k bytes) (omega (arith, few, length-drop k bytes))

  long_all : length (take (k + n) bytes) ≡ k + n
  long_all = length-take-le (k + n) bytes few

  pub overwritten_more : overwritten (overwritten m from (take k bytes)) at (take n (drop k bytes))
      ≡ overwritten m from (take (k + n) bytes)
  overwritten_more = same_moments _ _ (λ i. elim (placed at n i) [
    | inl later ↦ reads_inside (overwritten m from (take k bytes)) at (take n (drop k bytes)) i later.0
        (omega (arith, later.1, long_rest))
        ∙ get_or-take n (drop k bytes) (i - at) 0 (omega (arith, later.0, later.1))
        ∙ get_or-drop k bytes (i - at) 0
        ∙ ap (λ j. get_or bytes j 0) (back i later.0)
        ∙ sym (get_or-take (k + n) bytes (i - from) 0 (omega (arith, later.0, later.1, next)))
        ∙ sym (reads_inside m from (take (k + n) bytes) i (omega (arith, later.0, next))
        (omega (arith, later.1, next, long_all)))
    | inr out ↦ reads_outside (overwritten m from (take k bytes)) at (take n (drop k bytes)) i (away i out)
        ∙ elim (placed from k i) [
          | inl early ↦ reads_inside m from (take k bytes) i early.0 (omega (arith, early.1, long_first))
              ∙ get_or-take k bytes (i - from) 0 (omega (arith, early.0, early.1))
              ∙ sym (get_or-take (k + n) bytes (i - from) 0 (omega (arith, early.0, early.1)))
              ∙ sym (reads_inside m from (take (k + n) bytes) i early.0 (omega (arith, early.1, long_all)))
          | inr never ↦ reads_outside m from (take k bytes) i (before i never)
              ∙ sym (reads_outside m from (take (k + n) bytes) i (nowhere i out never))
        ]
  ]) (λ i. elim (placed at n i) [
    | inl later ↦ pending_inside (overwritten m from (take k bytes)) at (take n (drop k bytes)) i later.0
        (omega (arith, later.1, long_rest))
        ∙ sym (pending_inside m from (take (k + n) bytes) i (omega (arith, later.0, next))
        (omega (arith, later.1, next, long_all)))
    | inr out ↦ pending_outside (overwritten m from (take k bytes)) at (take n (drop k bytes)) i (away i out)
        ∙ elim (placed from k i) [
          | inl early ↦ pending_inside m from (take k bytes) i early.0 (omega (arith, early.1, long_first))
              ∙ sym (pending_inside m from (take (k + n) bytes) i early.0 (omega (arith, early.1, long_all)))
          | inr never ↦ pending_outside m from (take k bytes) i (before i never)
              ∙ sym (pending_outside m from (take (k + n) bytes) i (nowhere i out never))
        ]
  ])
    where
      back : (i : ℕ) → at ≤ i → k + (i - at) ≡ i - from
      back i low = omega (arith, low, next)

      away : (i : ℕ) → (i < at) ⊎ (at + n ≤ i) → (i < at) ⊎ (at + length (take n (drop k bytes)) ≤ i)
      away i (inl low) = inl low
      away i (inr high) = inr (omega (arith, high, long_rest))

      before : (i : ℕ) → (i < from) ⊎ (from + k ≤ i) → (i < from) ⊎ (from + length (take k bytes) ≤ i)
      before i (inl low) = inl low
      before i (inr high) = inr (omega (arith, high, long_first))

      nowhere : (i : ℕ) → (i < at) ⊎ (at + n ≤ i) → (i < from) ⊎ (from + k ≤ i)
          → (i < from) ⊎ (from + length (take (k + n) bytes) ≤ i)
      nowhere i (inl low) (inl below) = inl below
      nowhere i (inl low) (inr past) = absurd (omega (arith, low, past, next))
      nowhere i (inr high) _ = inr (omega (arith, high, long_all, next))

-- runs of calls
pub stays : (area : ℕ → Type 0) (f : FileTrail) → ChangesOnly area f f
stays area f = record {
  later = omega arith;
  kept = λ t le. refl;
  reads = λ t above below i out. let same : t ≡ f.clock = omega arith in ap (λ k. (f.at k).reads i) same;
  settled = λ t above below i out was. let same : t ≡ f.clock = omega arith in ap (λ k. (f.at k).pending i) same ∙ was;
}

pub widened : {area more : ℕ → Type 0} {old new : FileTrail} → ((i : ℕ) → area i → more i) → ChangesOnly area old new
    → ChangesOnly more old new
widened in_more run = record {
  later = run.later;
  kept = run.kept;
  reads = λ t above below i out. run.reads t above below i (λ within. out (in_more i within));
  settled = λ t above below i out was. run.settled t above below i (λ within. out (in_more i within)) was;
}

pub joined : {area : ℕ → Type 0} {old mid new : FileTrail} → ChangesOnly area old mid → ChangesOnly area mid new
    → ChangesOnly area old new
joined {old = old} {mid = mid} {new = new} first second = record {
  later = omega (arith, first.later, second.later);
  kept = λ t le. second.kept t (omega (arith, le, first.later)) ∙ first.kept t le;
  reads = λ t above below i out. elim (cases_lt mid.clock t) [
    | inr early ↦ ap (λ m. m.reads i) (second.kept t early) ∙ first.reads t above early i out
    | inl late ↦ second.reads t (omega arith) below i out ∙ first.reads mid.clock first.later (omega arith) i out
  ];
  settled = λ t above below i out was. elim (cases_lt mid.clock t) [
    | inr early ↦ ap (λ m. m.pending i) (second.kept t early) ∙ first.settled t above early i out was
    | inl late ↦ second.settled t (omega arith) below i out (first.settled mid.clock first.later
        (omega arith) i out was)
  ];
}

-- at the end of a run each byte outside its area reads as before
pub still_reads : {area : ℕ → Type 0} (old new : FileTrail) → ChangesOnly area old new → (i : ℕ) → ¬ area i
    → (current new).reads i ≡ (current old).reads i
still_reads old new run i out = run.reads new.clock run.later (omega arith) i out

module _ {F : Type 0} (honest : F → Type 0) (trail : F → FileTrail) where
  pub confined_stays : (area : ℕ → Type 0) (f : F) → IsFileConfined honest trail area f f
  confined_stays area f = record { still = λ h. h; already = λ h. h; moments = λ h. stays area (trail f) }

  pub confined_widened : {area more : ℕ → Type 0} {old new : F} → ((i : ℕ) → area i → more i)
      → IsFileConfined honest trail area old new → IsFileConfined honest trail more old new
  confined_widened in_more run = record {
    still = run.still;
    already = run.already;
    moments = λ h. widened in_more (run.moments h);
  }

  pub confined_joined : {area : ℕ → Type 0} {old mid new : F} → IsFileConfined honest trail area old mid
      → IsFileConfined honest trail area mid new → IsFileConfined honest trail area old new
  confined_joined first second = record {
    still = λ h. second.still (first.still h);
    already = λ h. first.already (second.already h);
    moments = λ h. joined (first.moments h) (second.moments (first.still h));
  }

  -- a call that was done touched nothing, and after one that wasn't nothing more is told
  pub touched_none : {E : Type 0} (result : Result (Unit {0}) E) (old new : F)
      → OnOk result (IsFileConfined honest trail Nowhere old new) → OnErr result (EndsTrail honest trail old new)
      → IsFileConfined honest trail Nowhere old new
  touched_none (Ok _) old new run none = run
  touched_none (Err _) old new none ends = record {
    still = ends.still;
    already = ends.already;
    moments = λ h. subst (ChangesOnly Nowhere (trail old)) (sym ends.same) (stays Nowhere (trail old));
  }
