-- What the calls of a file are, seen by its sectors.
use Rattle.std.proofs.Common.{◌≡◌, ◌⊎◌, inl, inr, ℕ, zero, suc, ◌+◌, ◌-◌, ◌*◌, ◌<◌, ◌≤◌, ◌||◌, ◌==◌, List, length, get_or}
use Rattle.std.proofs.Common.{if◌then◌else◌, true, false, Bool, refl, sym, ◌∙◌, ap, arith}
use Rattle.std.proofs.Common.{Result, Ok, Err, OnOk, MatchResult, is_ok}
use Rattle.std.proofs.lemmas.List.{ext_get_or}
use Rattle.std.proofs.lemmas.List.FromFn.{get_or-map-range_with_len, length-map-range_with_len}
use Rattle.std.proofs.lemmas.Bool.{cases_eq, or_from, or_parts, or_left}
use Rattle.std.proofs.lemmas.Bool.Decides.{nat_tests}
use Rattle.sector_disk.specs.declared.disk.TheConstants.{SECTOR_BYTES}
use Rattle.sector_disk.specs.Trail.{IsCrashImage, Touches, Only, written, after_sync}
use Rattle.sector_disk.specs.Confined.{IsConfined}
use Rattle.sector_disk.specs.FileTrail.{FileMoment, FileTrail, current, IsFileImage, Span, overwritten, file_synced}
use Rattle.sector_disk.specs.FileTrail.{ChangesOnly, IsFileConfined}
use Rattle.sector_disk.specs.FileSectors.{bytes_from, any_in, sectors_in, sectors_at, sectors_of}
use Rattle.sector_disk.proofs.FileBytes.{reads_inside, reads_outside, pending_inside, pending_outside}

pub length-bytes_in : (bytes : ℕ → ℕ) (from n : ℕ) → length (bytes_from bytes from n) ≡ n
unfolding bytes_from
length-bytes_in bytes from n = length-map-range_with_len bytes from n

pub bytes_in_at : (bytes : ℕ → ℕ) (from n i : ℕ) → i < n → get_or (bytes_from bytes from n) i 0 ≡ bytes (from + i)
unfolding bytes_from
bytes_in_at bytes from n i low = get_or-map-range_with_len bytes from n i (from + i) 0 low refl

-- a list of those bytes
pub bytes_by_index : (bytes : ℕ → ℕ) (from n : ℕ) (l : List ℕ) → length l ≡ n
    → ((i : ℕ) → i < n → get_or l i 0 ≡ bytes (from + i)) → l ≡ bytes_from bytes from n
bytes_by_index bytes from n l long each = ext_get_or 0 l (bytes_from bytes from n) (long ∙ sym (length-bytes_in bytes from n))
    (λ i low. each i (omega (arith, low, long)) ∙ sym (bytes_in_at bytes from n i (omega (arith, low, long))))

pub bytes_in_same : (bytes bytes' : ℕ → ℕ) (from n : ℕ) → ((i : ℕ) → from ≤ i → i < from + n → bytes' i ≡ bytes i)
    → bytes_from bytes' from n ≡ bytes_from bytes from n
bytes_in_same bytes bytes' from n same = bytes_by_index bytes from n (bytes_from bytes' from n) (length-bytes_in bytes' from n)
    (λ i low. bytes_in_at bytes' from n i low ∙ same (from + i) (omega arith) (omega (arith, low)))

pub any_in_none : (is : ℕ → Bool) (from n : ℕ) → ((i : ℕ) → from ≤ i → i < from + n → is i ≡ false)
    → any_in is from n ≡ false
unfolding any_in
any_in_none is from zero none = refl
any_in_none is from (suc n) none = or_from (is from) (any_in is (from + 1) n) (none from (omega arith) (omega arith))
    (any_in_none is (from + 1) n (λ i low high. none i (omega (arith, low)) (omega (arith, high))))

pub none_in : (is : ℕ → Bool) (from n : ℕ) → any_in is from n ≡ false → (i : ℕ) → from ≤ i → i < from + n → is i ≡ false
unfolding any_in
none_in is from zero none i low high = absurd (omega (arith, low, high))
none_in is from (suc n) none i low high =
    let parts = or_parts (is from) (any_in is (from + 1) n) none in
    elim (cases_eq i from) [
      | inl same ↦ ap is same ∙ parts.0
      | inr other ↦ none_in is (from + 1) n parts.1 i (omega (arith, low, other)) (omega (arith, high))
    ]

pub any_in_same : (is is' : ℕ → Bool) (from n : ℕ) → ((i : ℕ) → from ≤ i → i < from + n → is' i ≡ is i)
    → any_in is' from n ≡ any_in is from n
unfolding any_in
any_in_same is is' from zero same = refl
any_in_same is is' from (suc n) same =
    ap (λ b. b || any_in is' (from + 1) n) (same from (omega arith) (omega arith))
    ∙ ap (λ b. is from || b) (any_in_same is is' (from + 1) n
    (λ i low high. same i (omega (arith, low)) (omega (arith, high))))

pub any_in_first : (is : ℕ → Bool) (from n : ℕ) → is from ≡ true → 0 < n → any_in is from n ≡ true
unfolding any_in
any_in_first is from zero now_so some = absurd (omega (arith, some))
any_in_first is from (suc n) now_so some = or_left (is from) (any_in is (from + 1) n) now_so

-- the bytes of another sector

sector_apart : (k n i : ℕ) → (k ≡ n → ⊥) → SECTOR_BYTES * k ≤ i → i < SECTOR_BYTES * k + SECTOR_BYTES
    → (i < SECTOR_BYTES * n) ⊎ (SECTOR_BYTES * n + SECTOR_BYTES ≤ i)
sector_apart k n i other low high = grind (arith, other, low, high)

pub tests_same : (k n : ℕ) → k ≡ n → (k == n) ≡ true
tests_same k n same = grind (arith, nat_tests)

pub tests_other : (k n : ℕ) → (k ≡ n → ⊥) → (k == n) ≡ false
tests_other k n other = grind (arith, nat_tests)

-- a sector's bytes, and those of another
pub span_apart : (n from w : ℕ) → from ≡ SECTOR_BYTES * n → w ≡ SECTOR_BYTES → (k i : ℕ) → ¬ Only n k → SECTOR_BYTES * k ≤ i
    → i < SECTOR_BYTES * k + SECTOR_BYTES → ¬ Span from w i
span_apart n from w begins wide k i other low high within = elim (sector_apart k n i other low high) [
  | inl below ↦ omega (arith, below, within.0, begins)
  | inr past ↦ omega (arith, past, within.1, begins, wide)
]

-- a sector written whole
pub sector_written : (m : FileMoment) (n : ℕ) (bytes : List ℕ) → length bytes ≡ SECTOR_BYTES
    → sectors_at (overwritten m (SECTOR_BYTES * n) bytes) ≡ written (sectors_at m) n bytes
sector_written m n bytes long = λ i. record { reads = λ k. reads k i; pending = λ k. pending k i }
  where
    new : FileMoment
    new = overwritten m (SECTOR_BYTES * n) bytes

    away : (k i : ℕ) → (k ≡ n → ⊥) → SECTOR_BYTES * k ≤ i → i < SECTOR_BYTES * k + SECTOR_BYTES
        → (i < SECTOR_BYTES * n) ⊎ (SECTOR_BYTES * n + length bytes ≤ i)
    away k i other low high = elim (sector_apart k n i other low high) [
      | inl below ↦ inl below
      | inr past ↦ inr (omega (arith, past, long))
    ]

    here : bytes_from (overwritten m (SECTOR_BYTES * n) bytes).reads (SECTOR_BYTES * n) SECTOR_BYTES ≡ bytes
    here = sym (bytes_by_index (overwritten m (SECTOR_BYTES * n) bytes).reads (SECTOR_BYTES * n) SECTOR_BYTES bytes long
        (λ i low. sym (reads_inside m (SECTOR_BYTES * n) bytes (SECTOR_BYTES * n + i) (omega arith)
        (omega (arith, low, long))
        ∙ ap (λ j. get_or bytes j 0) (back i))))
      where
        back : (i : ℕ) → (SECTOR_BYTES * n + i) - SECTOR_BYTES * n ≡ i
        back i = omega arith

    reads : (k : ℕ) → bytes_from (overwritten m (SECTOR_BYTES * n) bytes).reads (SECTOR_BYTES * k) SECTOR_BYTES
        ≡ (if k == n then bytes else bytes_from m.reads (SECTOR_BYTES * k) SECTOR_BYTES)
    reads k = elim (cases_eq k n) [
      | inl same ↦ ap (λ q. bytes_from (overwritten m (SECTOR_BYTES * n) bytes).reads (SECTOR_BYTES * q) SECTOR_BYTES) same
          ∙ here
          ∙ sym (ap (λ b. if b then bytes else bytes_from m.reads (SECTOR_BYTES * k) SECTOR_BYTES) (tests_same k n same))
      | inr other ↦ bytes_in_same m.reads (overwritten m (SECTOR_BYTES * n) bytes).reads (SECTOR_BYTES * k) SECTOR_BYTES
          (λ i low high. reads_outside m (SECTOR_BYTES * n) bytes i (away k i other low high))
          ∙ sym (ap (λ b. if b then bytes else bytes_from m.reads (SECTOR_BYTES * k) SECTOR_BYTES) (tests_other k n other))
    ]

    pending : (k : ℕ) → any_in (overwritten m (SECTOR_BYTES * n) bytes).pending (SECTOR_BYTES * k) SECTOR_BYTES
        ≡ (if k == n then true else any_in m.pending (SECTOR_BYTES * k) SECTOR_BYTES)
    pending k = elim (cases_eq k n) [
      | inl same ↦ ap (λ q. any_in (overwritten m (SECTOR_BYTES * n) bytes).pending (SECTOR_BYTES * q) SECTOR_BYTES) same
          ∙ any_in_first (overwritten m (SECTOR_BYTES * n) bytes).pending (SECTOR_BYTES * n) SECTOR_BYTES
          (pending_inside m (SECTOR_BYTES * n) bytes (SECTOR_BYTES * n) (omega arith) (omega (arith, long)))
          (omega arith)
          ∙ sym (ap (λ b. if b then true else any_in m.pending (SECTOR_BYTES * k) SECTOR_BYTES) (tests_same k n same))
      | inr other ↦ any_in_same m.pending (overwritten m (SECTOR_BYTES * n) bytes).pending (SECTOR_BYTES * k) SECTOR_BYTES
          (λ i low high. pending_outside m (SECTOR_BYTES * n) bytes i (away k i other low high))
          ∙ sym (ap (λ b. if b then true else any_in m.pending (SECTOR_BYTES * k) SECTOR_BYTES) (tests_other k n other))
    ]

-- all settled
pub sectors_synced : (m : FileMoment) → sectors_at (file_synced m) ≡ after_sync (sectors_at m)
sectors_synced m = λ i. record {
  reads = sectors_in m.reads;
  pending = λ k. any_in_none (λ _. false) (SECTOR_BYTES * k) SECTOR_BYTES (λ j low high. refl) i;
}

-- what touches no byte outside an area touches no sector outside another, in which all sectors with its bytes are
pub seen_by_sectors : (bytes area : ℕ → Type 0) (old new : FileTrail)
    → ((n i : ℕ) → ¬ area n → SECTOR_BYTES * n ≤ i → i < SECTOR_BYTES * n + SECTOR_BYTES → ¬ bytes i)
    → ChangesOnly bytes old new → Touches area (sectors_of old) (sectors_of new)
seen_by_sectors bytes area old new apart run = record {
  later = run.later;
  kept = λ t le. ap sectors_at (run.kept t le);
  reads = λ t above below n out. bytes_in_same (current old).reads (new.at t).reads (SECTOR_BYTES * n) SECTOR_BYTES
      (λ i low high. run.reads t above below i (apart n i out low high));
  settled = λ t above below n out was. any_in_none (new.at t).pending (SECTOR_BYTES * n) SECTOR_BYTES
      (λ i low high. run.settled t above below i (apart n i out low high)
      (none_in (current old).pending (SECTOR_BYTES * n) SECTOR_BYTES was i low high));
}

-- each crash image of a file is one of its sectors
pub image_of_file : (m : FileMoment) (image : ℕ → ℕ) → IsFileImage m image → IsCrashImage (sectors_at m) (sectors_in image)
image_of_file m image is n settled = bytes_in_same m.reads image (SECTOR_BYTES * n) SECTOR_BYTES
    (λ i low high. is i (none_in m.pending (SECTOR_BYTES * n) SECTOR_BYTES settled i low high))

-- calls of a file, seen by the sectors of a disk that has it
pub confined_by_sectors : {F D : Type 0} (file : D → F) (size : D → ℕ) (honest : F → Type 0) (trail : F → FileTrail)
    (bytes area : ℕ → Type 0) (old new : D) → size new ≡ size old
    → ((n i : ℕ) → ¬ area n → SECTOR_BYTES * n ≤ i → i < SECTOR_BYTES * n + SECTOR_BYTES → ¬ bytes i)
    → IsFileConfined honest trail bytes (file old) (file new)
    → IsConfined size (λ d. honest (file d)) (λ d. sectors_of (trail (file d))) area old new
confined_by_sectors file size honest trail bytes area old new as_large apart run = record {
  as_large = as_large;
  still = run.still;
  already = run.already;
  moments = λ h. seen_by_sectors bytes area (trail (file old)) (trail (file new)) apart (run.moments h);
}

-- what holds of a call that was done holds where it was told so
pub when_done : {E : Type 0} (result : Result (Unit {0}) E) (done : Bool) (old new : ℕ) (P : Type 0)
    → MatchResult result (λ _. (done ≡ true) × (new ≡ old)) (λ _. (done ≡ false) × (old < new))
    → (done ≡ true → P) → OnOk result P
when_done (Ok _) done old new P is holds = holds is.0
when_done (Err _) done old new P is holds = tt

pub where_ok : {E : Type 0} (result : Result (Unit {0}) E) (P : Type 0) → OnOk result P → is_ok result ≡ true → P
where_ok (Ok _) P holds ok = holds
where_ok (Err _) P none ok = absurd (cc)
