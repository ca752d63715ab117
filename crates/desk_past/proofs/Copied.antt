-- Copies of sectors behind a store. `d` is what is known of a disk.
use Rattle.std.proofs.Common.{◌≡◌, ◌⊎◌, inl, inr, ◌+◌, ◌-◌, ◌*◌, ◌/◌, ◌%◌, ◌<◌, ◌≤◌, ℕ, List, length, sym, ◌∙◌, ap, arith}
use Rattle.std.proofs.Common.{false}
use Rattle.std.specs.Prelude.{get_or}
use Rattle.std.proofs.lemmas.Bool.{cases_lt}
use Rattle.sector_disk.specs.declared.disk.Disk.{Ghosts}
use Rattle.sector_disk.specs.declared.disk.TheConstants.{SECTOR_BYTES}
use Rattle.sector_disk.specs.Stored.{HoldsBytes, last_sector, stored}
use Rattle.sector_disk.specs.Trail.{Content, now}
use Rattle.sector_disk.proofs.StoredLaws.{length-stored, stored_at}
use Rattle.sector_disk.proofs.Touching.{at_last, read_is_an_image}
use Rattle.store_layout.specs.declared.layout.TheConstants.{STORE_SECTORS}
use Rattle.store_layout.specs.Filling.{InRange}
use Rattle.desk_journal.specs.View.{StoreView}
use Rattle.past_pages.specs.Sectors.{HasCopies}
use Rattle.desk_past.specs.Beginning.{SparesAllBut, SparesBut}
use Rattle.desk_past.proofs.Sparing.{but_wider}

-- ---- copies

-- what was read from the one place is held at the other
pub copied_from : (base from count : ℕ) (was c : Content) (bytes : List ℕ)
    → bytes ≡ stored was from (SECTOR_BYTES * count) → HoldsBytes c (base + from) bytes
    → HasCopies base from count was c
copied_from base from count was c bytes is held = λ n within j low.
    let k : ℕ = n - from in
    let there : base + from + k ≡ base + n = omega (arith, within.0) in
    let long : length bytes ≡ SECTOR_BYTES * count = ap length is ∙ length-stored was from (SECTOR_BYTES * count) in
    let inside : k ≤ last_sector (length bytes) = omega (arith, long, within.0, within.1) in
    let i : ℕ = SECTOR_BYTES * k + j in
    let at : from + i / SECTOR_BYTES ≡ n = omega (arith, low, within.0) in
    let place : i % SECTOR_BYTES ≡ j = omega (arith, low) in
    ap (λ m. get_or (c m) j 0) (sym there) ∙ held k j inside low ∙ ap (λ l. get_or l i 0) is
    ∙ stored_at was from (SECTOR_BYTES * count) i (omega (arith, low, within.0, within.1))
    ∙ ap (λ m. get_or (was m) (i % SECTOR_BYTES) 0) at ∙ ap (λ m. get_or (was n) m 0) place

-- the same copies, of contents that are the same where it matters
pub copies_as : (base from count : ℕ) (was was' c c' : Content)
    → ((n : ℕ) → InRange from count n → c' (base + n) ≡ c (base + n))
    → ((n : ℕ) → InRange from count n → was' n ≡ was n)
    → HasCopies base from count was c → HasCopies base from count was' c'
copies_as base from count was was' c c' there here copies = λ n within j low.
    ap (λ l. get_or l j 0) (there n within) ∙ copies n within j low ∙ sym (ap (λ l. get_or l j 0) (here n within))

-- and more of them behind those
pub copies_on : (base from count more : ℕ) (was c : Content) → HasCopies base from count was c
    → HasCopies base (from + count) more was c → HasCopies base from (count + more) was c
copies_on base from count more was c first second = λ n within.
    elim (cases_lt n (from + count)) [
      | inl low ↦ first n (within.0, low)
      | inr high ↦ second n (high, omega (arith, within.1))
    ]

module _ {D : Type 0} (d : Ghosts D) where
  -- a wider stretch is spared less
  pub spared_wider : (base limit : ℕ) {old new : StoreView D} (from count : ℕ) → base ≤ from
      → from + count ≤ base + limit
      → SparesAllBut d from count old new → SparesAllBut d base limit old new
  spared_wider base limit from count low high spares = but_wider d (InRange base limit)
      (λ honest n within. (omega (arith, low, within.0), omega (arith, high, within.1))) spares

  -- what is spared reads as before
  pub spared_reads : {area : ℕ → Type 0} {old new : StoreView D} → SparesBut d area old new
      → old.must_reopen ≡ false → d.honest old.disk → (n : ℕ) → ¬ area n
      → (now (d.trail new.disk)).reads n ≡ (now (d.trail old.disk)).reads n
  spared_reads {new = new} spares usable honest n out =
      at_last (spares.moments usable honest) (now (d.trail new.disk)).reads (read_is_an_image (now (d.trail new.disk)))
      n out
