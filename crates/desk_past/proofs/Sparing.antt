-- Which sectors calls spare, one after another. `d` is what is known of a disk.
use Rattle.std.proofs.Common.{◌≡◌, ◌⊎◌, inl, inr, ◌+◌, ◌<◌, ◌≤◌, ℕ, ◌∷◌, length, refl, sym, ◌∙◌, ap, subst, arith, false}
use Rattle.std.proofs.Math.Dec.{eqb}
use Rattle.std.proofs.lemmas.Bool.{eq-eqb, false≢true}
use Rattle.std.proofs.lemmas.Bool.Decides.{eqb_tells}
use Rattle.std.specs.Prelude.{Bool, Result, if◌then◌else◌}
use Rattle.sector_disk.specs.declared.disk.Disk.{Ghosts}
use Rattle.sector_disk.specs.Confined.{IsConfined}
use Rattle.sector_disk.specs.Trail.{Content, IsCrashImage, Moment, now}
use Rattle.sector_disk.proofs.Touching.{at_last, chained, read_is_an_image, spared, weakened}
use Rattle.store_layout.proofs.Bits.{true_or_false}
use Rattle.store_layout.specs.declared.layout.TheConstants.{STORE_SECTORS}
use Rattle.store_layout.specs.Filling.{InRange}
use Rattle.store_layout.specs.Meaning.{Standing, Stands}
use Rattle.store_slots.specs.Device.{IsOnlyRead, IsSameDevice, StaysWithin}
use Rattle.store_slots.specs.declared.error.Error.{Error}
use Rattle.desk_journal.specs.Behind.{StaysBehind}
use Rattle.desk_journal.specs.Undoing.{ShowsStanding}
use Rattle.desk_journal.specs.View.{StoreView}
use Rattle.past_pages.specs.Parts.{IsPastPart}
use Rattle.past_pages.specs.Reading.{IsOnlyReadFrom, IsQuiet}
use Rattle.past_pages.proofs.StillReads.{nothing_written, still_reads}
use Rattle.desk_past.specs.Beginning.{SparesAround, SparesBut}
use Rattle.desk_past.specs.Going.{IsOldest}
use Rattle.desk_past.specs.Keeping.{UsesDevice}
use Rattle.desk_past.specs.Writing.{LiesInOldest, LiesUpTo, LiesAhead, UsesOnly, WritesOnly}

module _ {D : Type 0} (d : Ghosts D) (area : ℕ → Type 0) where
  pub but_none : {store : StoreView D} → (store.must_reopen ≡ false → d.honest store.disk → IsQuiet d store)
      → SparesBut d area store store
  but_none {store = store} quiet = record {
    moments = λ usable honest. weakened (nothing_written (d.trail store.disk))
        (λ c image n out. image n (quiet usable honest n));
  }

  pub but_read : {old new : StoreView D} → IsOnlyRead d old.disk new.disk
      → (old.must_reopen ≡ false → d.honest old.disk → IsQuiet d old) → SparesBut d area old new
  but_read run quiet = record {
    moments = λ usable honest. weakened (run.unwritten honest) (λ c image n out. image n (quiet usable honest n));
  }

  -- what is touched lies in the area
  pub but_touched : {touched : ℕ → Type 0} {old new : StoreView D}
      → (d.honest old.disk → (n : ℕ) → touched n → area n)
      → IsConfined d.size d.honest d.trail touched old.disk new.disk
      → (old.must_reopen ≡ false → d.honest old.disk → IsQuiet d old) → SparesBut d area old new
  but_touched {old = old} inside only quiet = record {
    moments = λ usable honest.
        spared (λ c. (n : ℕ) → ¬ area n → c n ≡ (now (d.trail old.disk)).reads n)
        (quiet usable honest) (only.moments honest) (λ c same n out.
        same n (λ within. out (inside honest n within)));
  }

  pub but_then : {old mid : StoreView D} (new : StoreView D) → IsSameDevice d old.disk mid.disk
      → mid.must_reopen ≡ false → SparesBut d area old mid → SparesBut d area mid new
      → SparesBut d area old new
  but_then {mid = mid} new device closed first second = record {
    moments = λ usable honest.
        let before = first.moments usable honest in
        chained before (weakened (second.moments closed (device.still honest)) (λ c same n out. same n out
        ∙ at_last before (now (d.trail mid.disk)).reads (read_is_an_image (now (d.trail mid.disk))) n out));
  }

  -- a wider area is spared less
  pub but_wider : {part : ℕ → Type 0} {old new : StoreView D} → (d.honest old.disk → (n : ℕ) → part n → area n)
      → SparesBut d part old new → SparesBut d area old new
  but_wider inside spares = record {
    moments = λ usable honest. weakened (spares.moments usable honest) (λ c same n out.
        same n (λ within. out (inside honest n within)));
  }

-- nothing is pending where each image was one of a moment at which nothing was
still_quiet : (old new : Moment) → ((c : Content) → IsCrashImage new c → IsCrashImage old c)
    → ((n : ℕ) → old.pending n ≡ false) → (n : ℕ) → new.pending n ≡ false
still_quiet old new images quiet n = elim (true_or_false (new.pending n)) [
  | inr settled ↦ settled
  | inl pends ↦
      let other : Content = λ k. if eqb k n then 0 ∷ new.reads n else new.reads k in
      let image : IsCrashImage new other = λ k settled. elim (eqb_tells k n) [
        | inl here ↦ absurd (false≢true (sym settled ∙ ap new.pending here.1 ∙ pends))
        | inr apart ↦ ap (λ (b : Bool). if b then 0 ∷ new.reads n else new.reads k) apart.0
      ] in
      let grown : other n ≡ 0 ∷ new.reads n =
      ap (λ (b : Bool). if b then 0 ∷ new.reads n else new.reads n) (eq-eqb n n refl) in
      let same : 0 ∷ new.reads n ≡ new.reads n = sym grown ∙ images other image n (quiet n)
      ∙ sym (images new.reads (read_is_an_image new) n (quiet n)) in
      absurd (omega (arith, ap length same))
]

pub read_quiet : {D : Type 0} (d : Ghosts D) (old new : StoreView D) → IsOnlyRead d old.disk new.disk → IsQuiet d old
    → d.honest old.disk → IsQuiet d new
read_quiet d old new run quiet honest =
    still_quiet (now (d.trail old.disk)) (now (d.trail new.disk)) (at_last (run.unwritten honest)) quiet

-- what a store shows stays where it is only read
pub read_shows : {D : Type 0} (d : Ghosts D) (old new : StoreView D) → IsOnlyRead d old.disk new.disk → IsQuiet d old
    → d.honest old.disk → (s : Standing) → ShowsStanding d old s → ShowsStanding d new s
read_shows d old new run quiet honest s at =
    let same = at_last (run.unwritten honest) (now (d.trail new.disk)).reads
    (read_is_an_image (now (d.trail new.disk))) in
    subst (λ (x : ℕ × Content). Stands x.0 x.1 s)
    (λ i. (sym run.device.as_large i, λ n. sym (same n (quiet n)) i)) at

-- a sector up to the end of a part lies ahead, where pages go on in that part
pub in_part : (size sectors base end next told n : ℕ) → sectors ≡ size → IsPastPart sectors base end
    → base + STORE_SECTORS ≤ told → told ≤ end → told ≡ next → LiesUpTo end next n → LiesAhead size next n
in_part size sectors base end next told n large part low high is up = record {
  at = record {
    base = base;
    end = end;
    part = subst (λ k. IsPastPart k base end) large part;
    low = omega (arith, low, is);
    high = omega (arith, high, is);
  };
  ahead = up;
}

module _ {D : Type 0} (d : Ghosts D) where
  pub only_none : {ahead : ℕ → ℕ → Type 0} {store : StoreView D}
      → (store.must_reopen ≡ false → d.honest store.disk → IsQuiet d store) → WritesOnly d ahead store store
  only_none quiet = record { spared = λ s at. but_none d _ quiet }

  pub only_read : {ahead : ℕ → ℕ → Type 0} {old new : StoreView D} → IsOnlyRead d old.disk new.disk
      → (old.must_reopen ≡ false → d.honest old.disk → IsQuiet d old) → WritesOnly d ahead old new
  only_read run quiet = record { spared = λ s at. but_read d _ run quiet }

  -- only the sectors of the store are touched
  pub only_within : {ahead : ℕ → ℕ → Type 0} {old new : StoreView D} → StaysWithin d old.disk new.disk
      → (old.must_reopen ≡ false → d.honest old.disk → IsQuiet d old) → WritesOnly d ahead old new
  only_within within quiet = record { spared = λ s at. but_touched d _ (λ honest n low. inl low) within quiet }

  -- only some sectors are touched, whatever the head tells
  pub only_there : {ahead : ℕ → ℕ → Type 0} {old new : StoreView D} (from limit : ℕ)
      → ((next n : ℕ) → InRange from limit n → ahead next n)
      → IsConfined d.size d.honest d.trail (InRange from limit) old.disk new.disk
      → (old.must_reopen ≡ false → d.honest old.disk → IsQuiet d old) → WritesOnly d ahead old new
  only_there from limit inside only quiet = record {
    spared = λ s at. but_touched d _ (λ honest n there. inr (inside s.past.next n there)) only quiet;
  }

  -- what is written goes by what the head tells
  pub only_as : {part ahead : ℕ → ℕ → Type 0} {old new : StoreView D} → WritesOnly d part old new
      → (d.honest old.disk → (s : Standing) → ShowsStanding d old s → (n : ℕ) → part s.past.next n
      → ahead s.past.next n)
      → WritesOnly d ahead old new
  only_as only inside = record {
    spared = λ s at. but_wider d _ (λ honest n either. elim either [
      | inl low ↦ inl low
      | inr there ↦ inr (inside honest s at n there)
    ]) (only.spared s at);
  }

  -- reads, and then a call
  pub only_behind_read : {ahead : ℕ → ℕ → Type 0} {old mid : StoreView D} (new : StoreView D)
      → IsOnlyRead d old.disk mid.disk → (old.must_reopen ≡ false → d.honest old.disk → IsQuiet d old)
      → (old.must_reopen ≡ false → mid.must_reopen ≡ false) → WritesOnly d ahead mid new → WritesOnly d ahead old new
  only_behind_read {old = old} {mid = mid} new run quiet in_use rest = record {
    spared = λ s at. record {
      moments = λ usable honest. (but_then d _ {old = old} {mid = mid} new run.device (in_use usable)
          (but_read d _ run quiet)
          (rest.spared s (read_shows d old mid run (quiet usable honest) honest s at))).moments usable honest;
    };
  }

  -- a call, and then another one that touches only the sectors of the store
  pub only_then_within : {ahead : ℕ → ℕ → Type 0} {old mid : StoreView D} (new : StoreView D)
      → IsSameDevice d old.disk mid.disk
      → (old.must_reopen ≡ false → mid.must_reopen ≡ false)
      → (mid.must_reopen ≡ false → d.honest mid.disk → IsQuiet d mid)
      → WritesOnly d ahead old mid → StaysWithin d mid.disk new.disk → WritesOnly d ahead old new
  only_then_within new device in_use quiet first within = record {
    spared = λ s at. record {
      moments = λ usable honest. (but_then d _ new device (in_use usable) (first.spared s at)
          (but_touched d _ (λ honest n low. inl low) within quiet)).moments usable honest;
    };
  }

  -- reads, and then a call that touches only the sectors of the store
  pub only_within_read : {ahead : ℕ → ℕ → Type 0} {old : StoreView D} (mid new : StoreView D)
      → IsOnlyRead d old.disk mid.disk → (old.must_reopen ≡ false → d.honest old.disk → IsQuiet d old)
      → (old.must_reopen ≡ false → mid.must_reopen ≡ false) → StaysWithin d mid.disk new.disk
      → WritesOnly d ahead old new
  only_within_read {old = old} mid new run quiet in_use within = record {
    spared = λ s at. record {
      moments = λ usable honest. (but_then d _ {old = old} {mid = mid} new run.device (in_use usable)
          (but_read d _ run quiet)
          (but_touched d _ (λ _ n low. inl low) within
          (λ _ _. read_quiet d old mid run (quiet usable honest) honest))).moments usable honest;
    };
  }

  -- or those of it and some behind it
  pub only_behind_reads : {ahead : ℕ → ℕ → Type 0} {old : StoreView D} (mid new : StoreView D) (from limit : ℕ)
      → IsOnlyRead d old.disk mid.disk → (old.must_reopen ≡ false → d.honest old.disk → IsQuiet d old)
      → (old.must_reopen ≡ false → mid.must_reopen ≡ false)
      → (d.honest old.disk → (s : Standing) → ShowsStanding d old s → (n : ℕ) → InRange from limit n
      → ahead s.past.next n)
      → StaysBehind d from limit mid.disk new.disk → WritesOnly d ahead old new
  only_behind_reads {old = old} mid new from limit run quiet in_use inside within = record {
    spared = λ s at. record {
      moments = λ usable honest. (but_then d _ {old = old} {mid = mid} new run.device (in_use usable)
          (but_read d _ run quiet)
          (but_touched d _ (λ _ n either. elim either [
            | inl low ↦ inl low
            | inr there ↦ inr (inside honest s at n there)
          ]) within
          (λ _ _. read_quiet d old mid run (quiet usable honest) honest))).moments usable honest;
    };
  }

  -- the same on a disk that is as large
  pub only_as_large : (old : StoreView D) {mid new : StoreView D} → IsSameDevice d old.disk mid.disk
      → WritesOnly d (LiesAhead (d.size mid.disk)) mid new → WritesOnly d (LiesAhead (d.size old.disk)) mid new
  only_as_large old {mid = mid} {new = new} device only =
      subst (λ k. WritesOnly d (LiesAhead k) mid new) device.as_large only

  -- a call that uses the device, and writes nowhere else
  pub uses_only : {T : Type 0} {ahead : ℕ → ℕ → Type 0} {OfCall : Error → Type 0} {answer : Result T Error}
      {old new : StoreView D} → UsesDevice d OfCall answer old new → WritesOnly d ahead old new
      → UsesOnly d ahead OfCall answer old new
  uses_only uses others = record { same = uses.same; faults = uses.faults; others = others }

  pub device_used : {T : Type 0} {ahead : ℕ → ℕ → Type 0} {OfCall : Error → Type 0} {answer : Result T Error}
      {old new : StoreView D} → UsesOnly d ahead OfCall answer old new → UsesDevice d OfCall answer old new
  device_used uses = record { same = uses.same; faults = uses.faults }

  -- reads, and then a past that begins in the oldest part
  pub only_begun : {old mid : StoreView D} (new : StoreView D) (next base : ℕ) → IsOnlyReadFrom d old mid
      → (old.must_reopen ≡ false → d.honest old.disk → IsQuiet d old)
      → (d.honest old.disk → IsOldest (d.size old.disk) next base (now (d.trail old.disk)).reads)
      → SparesAround d base mid new
      → WritesOnly d (λ _. LiesInOldest (d.size old.disk) (now (d.trail old.disk)).reads next) old new
  only_begun {old = old} {mid = mid} new next base still quiet oldest around = record {
    spared = λ s at. record {
      moments = λ usable honest. (but_then d _ {old = old} {mid = mid} new still.left.disk.device still.usable
          (but_read d _ still.left.disk quiet)
          (but_wider d _ (λ second n either. elim either [
            | inl low ↦ inl low
            | inr within ↦ inr (record { base = base; oldest = oldest honest; within = within })
          ]) around)).moments usable honest;
    };
  }

  -- what lies in the oldest part does so where the store was only read before
  pub oldest_then : {old mid : StoreView D} → IsOnlyReadFrom d old mid → IsQuiet d old → d.honest old.disk
      → (next told n : ℕ) → told ≡ next → LiesInOldest (d.size mid.disk) (now (d.trail mid.disk)).reads told n
      → LiesInOldest (d.size old.disk) (now (d.trail old.disk)).reads next n
  oldest_then still quiet honest next told n is there =
      subst (λ (x : ℕ × Content × ℕ). LiesInOldest x.0 x.1 x.2 n)
      (λ i. (still.left.disk.device.as_large i, still_reads d still quiet honest i, is i)) there
