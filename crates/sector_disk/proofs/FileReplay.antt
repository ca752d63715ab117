-- One change of a file in memory more.
use Rattle.std.proofs.Common.{◌≡◌, ◌⊎◌, inl, inr, ℕ, ◌+◌, ◌-◌, ◌<◌, ◌≤◌, ◌==◌, List, [], ◌∷◌, ◌++◌, length, take, get_or}
use Rattle.std.proofs.Common.{if◌then◌else◌, refl, sym, ◌∙◌, ap, arith, false}
use Rattle.std.proofs.lemmas.List.{length-append, take-append-le, get_or_append_left, get_or-append_right, get_or_past}
use Rattle.std.proofs.Math.Seq.{take-length}
use Rattle.std.proofs.lemmas.Bool.{cases_eq, cases_lt}
use Rattle.sector_disk.specs.declared.file_call.FileCall.{FileCall}
use Rattle.sector_disk.specs.declared.file_call.FileCall.TheVariants.{Byte, Sync}
use Rattle.sector_disk.specs.Trail.{Nowhere}
use Rattle.sector_disk.specs.FileTrail.{FileMoment, current, Span}
use Rattle.sector_disk.specs.FileTrail.{IsFileConfined}
use Rattle.sector_disk.specs.MemoryFile.{empty_file, file_after, file_replayed, file_trail_of}
use Rattle.sector_disk.proofs.FileBytes.{reads_inside, reads_outside, pending_outside}
use Rattle.sector_disk.proofs.FileViews.{tests_same, tests_other}

replayed-append : (calls : List FileCall) (call : FileCall) (m : FileMoment)
    → file_replayed (calls ++ call ∷ []) m ≡ file_after call (file_replayed calls m)
replayed-append [] call m = refl
replayed-append (c ∷ calls) call m = replayed-append calls call (file_after c m)

current-trail : (calls : List FileCall) → current (file_trail_of calls) ≡ file_replayed calls empty_file
current-trail calls = ap (λ l. file_replayed l empty_file) (take-length calls)

-- what a change leaves of the bytes outside an area
pub record KeepsRest (area : ℕ → Type 0) (old new : FileMoment) : Type 0 where
  pub reads : (i : ℕ) → ¬ area i → new.reads i ≡ old.reads i
  pub settled : (i : ℕ) → ¬ area i → old.pending i ≡ false → new.pending i ≡ false

module _ (calls new : List FileCall) (call : FileCall) (is : new ≡ calls ++ call ∷ []) where
  long : length new ≡ length calls + 1
  long = ap length is ∙ length-append calls (call ∷ [])

  pub current_after : current (file_trail_of new) ≡ file_after call (current (file_trail_of calls))
  current_after = current-trail new ∙ ap (λ l. file_replayed l empty_file) is ∙ replayed-append calls call empty_file
      ∙ ap (file_after call) (sym (current-trail calls))

  past : (t : ℕ) → t ≤ length calls → (file_trail_of new).at t ≡ (file_trail_of calls).at t
  past t le = ap (λ l. file_replayed l empty_file) (ap (take t) is ∙ take-append-le t calls (call ∷ []) le)

  pub goes_on : (area : ℕ → Type 0)
      → KeepsRest area (current (file_trail_of calls)) (file_after call (current (file_trail_of calls)))
      → IsFileConfined (λ _. Unit {0}) file_trail_of area calls new
  goes_on area step = record {
    still = λ h. h;
    already = λ h. h;
    moments = λ _. record {
      later = omega (arith, long);
      kept = past;
      reads = λ t above below i out. elim (near t above below) [
        | inl first ↦ ap (λ m. m.reads i) (ap (file_trail_of new).at first ∙ past (length calls) (omega arith))
        | inr last ↦ ap (λ m. m.reads i) (ap (file_trail_of new).at last ∙ current_after) ∙ step.reads i out
      ];
      settled = λ t above below i out was. elim (near t above below) [
        | inl first ↦ ap (λ m. m.pending i) (ap (file_trail_of new).at first ∙ past (length calls) (omega arith)) ∙ was
        | inr last ↦ ap (λ m. m.pending i) (ap (file_trail_of new).at last ∙ current_after) ∙ step.settled i out was
      ];
    };
  }
    where
      near : (t : ℕ) → length calls ≤ t → t ≤ length new → (t ≡ length calls) ⊎ (t ≡ length new)
      near t above below = grind (arith, long)

-- a byte of a span
pub byte_keeps : (m : FileMoment) (at value from n : ℕ) → from ≤ at → at < from + n
    → KeepsRest (Span from n) m (file_after (Byte at value) m)
byte_keeps m at value from n low high = record {
  reads = λ i out. reads_outside m at (value ∷ []) i (away i out);
  settled = λ i out was. pending_outside m at (value ∷ []) i (away i out) ∙ was;
}
  where
    away : (i : ℕ) → ¬ Span from n i → (i < at) ⊎ (at + 1 ≤ i)
    away i out = elim (cases_lt i at) [
      | inl below ↦ inl below
      | inr reached ↦ elim (cases_lt at i) [
        | inl behind ↦ inr (omega (arith, behind))
        | inr here ↦ absurd (out (omega (arith, low, reached), omega (arith, high, here)))
      ]
    ]

pub sync_keeps : (m : FileMoment) → KeepsRest Nowhere m (file_after Sync m)
sync_keeps m = record { reads = λ i out. refl; settled = λ i out was. refl }

-- what is read after a byte was written
pub byte_reads : (m : FileMoment) (at value i : ℕ) → (file_after (Byte at value) m).reads i
    ≡ (if i == at then value else m.reads i)
byte_reads m at value i = elim (cases_eq i at) [
  | inl same ↦ reads_inside m at (value ∷ []) i (omega (arith, same)) (omega (arith, same))
      ∙ ap (λ j. get_or (value ∷ []) j 0) (none same)
      ∙ sym (ap (λ b. if b then value else m.reads i) (tests_same i at same))
  | inr other ↦ reads_outside m at (value ∷ []) i (away other)
      ∙ sym (ap (λ b. if b then value else m.reads i) (tests_other i at other))
]
  where
    none : i ≡ at → i - at ≡ 0
    none same = omega (arith, same)

    away : (i ≡ at → ⊥) → (i < at) ⊎ (at + 1 ≤ i)
    away other = elim (cases_lt i at) [ inl below ↦ inl below | inr reached ↦ inr (omega (arith, reached, other)) ]

-- zeros behind the last byte read as none
pub zero_more : (bytes : List ℕ) (i : ℕ) → get_or (bytes ++ 0 ∷ []) i 0 ≡ get_or bytes i 0
zero_more bytes i = elim (cases_lt i (length bytes)) [
  | inl within ↦ get_or_append_left bytes (0 ∷ []) 0 i within
  | inr behind ↦ get_or-append_right bytes (0 ∷ []) (length bytes) i 0 refl behind ∙ zero (i - length bytes)
      ∙ sym (get_or_past bytes i 0 behind)
]
  where
    zero : (j : ℕ) → get_or {A = ℕ} (0 ∷ []) j 0 ≡ 0
    zero j = elim (cases_eq j 0) [
      | inl here ↦ ap (λ j. get_or {A = ℕ} (0 ∷ []) j 0) here
      | inr other ↦ get_or_past {X = ℕ} (0 ∷ []) j 0 (omega (arith, other))
    ]
