-- A past that is forgotten. `d` is what is known of a disk.
use Rattle.std.proofs.Common.{◌≡◌, ◌⊎◌, inl, inr, ◌+◌, ◌-◌, ◌*◌, ◌<◌, ◌≤◌, ℕ, List, [], length, sym, ◌∙◌, ap, arith, false, refl, subst}
use Rattle.std.specs.Prelude.{get_or, replicate}
use Rattle.std.proofs.lemmas.Bool.{cases_lt}
use Rattle.std.proofs.lemmas.List.{get_or-replicate, length-replicate}
use Rattle.sector_disk.specs.declared.disk.Disk.{Ghosts}
use Rattle.sector_disk.specs.declared.disk.TheConstants.{SECTOR_BYTES}
use Rattle.sector_disk.specs.Stored.{HoldsBytes, last_sector}
use Rattle.sector_disk.specs.Trail.{Content, now}
use Rattle.sector_disk.proofs.Touching.{at_last, chained, read_is_an_image, weakened}
use Rattle.event_bytes.specs.declared.event.Event.{Event}
use Rattle.desktop_definitions.specs.Desktop.{Desktop}
use Rattle.store_layout.specs.declared.layout.TheConstants.{STORE_SECTORS}
use Rattle.store_layout.specs.Filling.{InRange}
use Rattle.store_layout.specs.Meaning.{Means, Stands}
use Rattle.store_slots.specs.Device.{IsSameDevice}
use Rattle.desk_journal.proofs.Aside.{stands_behind}
use Rattle.desk_journal.specs.Checkpointing.{LeavesDesktop}
use Rattle.desk_journal.specs.View.{StoreView}
use Rattle.past_pages.specs.Sectors.{HasCopies, AreBlank, IsBlank}
use Rattle.past_pages.specs.Parts.{IsPastPart}
use Rattle.past_pages.specs.declared.parts.TheConstants.{PART_SECTORS}
use Rattle.past_pages.specs.Reading.{IsOnlyReadFrom, IsQuiet}
use Rattle.past_pages.proofs.StillReads.{still_reads}
use Rattle.desk_past.specs.Beginning.{HasBegun, SparesAllBut, begun_at}
use Rattle.desk_past.specs.Forgetting.{AreBlankBeside, HasForgotten, SparesStart}
use Rattle.desk_past.specs.Past.{HoldsPages, KeepsAll, Start}
use Rattle.desk_past.proofs.Carrying.{written_stays}
use Rattle.desk_past.proofs.Copied.{copies_as, spared_reads}
use Rattle.desk_past.proofs.Remembering.{remembers_on}

-- ---- zeros

pub blank_held : (from count : ℕ) (c : Content) (bytes : List ℕ) → bytes ≡ replicate (count * SECTOR_BYTES) 0
    → HoldsBytes c from bytes → AreBlank from count c
blank_held from count c bytes is held = λ n within j low.
    let k : ℕ = n - from in
    let there : from + k ≡ n = omega (arith, within.0) in
    let long : length bytes ≡ count * SECTOR_BYTES = ap length is ∙ length-replicate (count * SECTOR_BYTES) 0 in
    ap (λ m. get_or (c m) j 0) (sym there)
    ∙ held k j (omega (arith, long, within.0, within.1)) low
    ∙ ap (λ l. get_or l (SECTOR_BYTES * k + j) 0) is
    ∙ get_or-replicate (count * SECTOR_BYTES) (SECTOR_BYTES * k + j) 0 0 (omega (arith, low, within.0, within.1))

pub blank_as : (from count : ℕ) (c c' : Content) → ((n : ℕ) → InRange from count n → c' n ≡ c n) → AreBlank from count c
    → AreBlank from count c'
blank_as from count c c' same blank = λ n within j low. ap (λ l. get_or l j 0) (same n within) ∙ blank n within j low

pub blank_on : (from count more : ℕ) (c : Content) → AreBlank from count c → AreBlank (from + count) more c
    → AreBlank from (count + more) c
blank_on from count more c first second = λ n within. elim (cases_lt n (from + count)) [
  | inl low ↦ first n (within.0, low)
  | inr high ↦ second n (high, omega (arith, within.1))
]

module _ {D : Type 0} (d : Ghosts D) where
  -- ---- a start that stays

  pub spares_start : (base from count : ℕ) {old new : StoreView D} → STORE_SECTORS ≤ from
      → (base + STORE_SECTORS ≤ from) ⊎ (from + count ≤ base) → SparesAllBut d from count old new
      → SparesStart d base old new
  spares_start base from count behind apart spares = record {
    moments = λ usable honest. weakened (spares.moments usable honest) (λ c same n kept. same n (λ inside. elim kept [
      | inl low ↦ omega (arith, low, inside.0, behind)
      | inr within ↦ elim apart [
        | inl above ↦ omega (arith, above, inside.0, within.1)
        | inr below ↦ omega (arith, below, inside.1, within.0)
      ]
    ]));
  }

  pub start_then : {base : ℕ} {old mid : StoreView D} (new : StoreView D) → IsSameDevice d old.disk mid.disk
      → mid.must_reopen ≡ false → SparesStart d base old mid → SparesStart d base mid new → SparesStart d base old new
  start_then {mid = mid} new device closed first second = record {
    moments = λ usable honest.
        let before = first.moments usable honest in
        chained before (weakened (second.moments closed (device.still honest)) (λ c same n kept. same n kept
        ∙ at_last before (now (d.trail mid.disk)).reads (read_is_an_image (now (d.trail mid.disk))) n kept));
  }

  -- ---- a past that has begun, and stays

  module _ {base : ℕ} {old mid : StoreView D} (new : StoreView D) (begun : HasBegun d base old mid)
      (honest : d.honest mid.disk)
      (device : IsSameDevice d mid.disk new.disk) (usable : new.must_reopen ≡ false)
      (spares : SparesStart d base mid new) where
    pub same_there : (n : ℕ) → (n < STORE_SECTORS) ⊎ InRange base STORE_SECTORS n
        → (now (d.trail new.disk)).reads n ≡ (now (d.trail mid.disk)).reads n
    same_there n kept = at_last (spares.moments begun.keeps.usable honest) (now (d.trail new.disk)).reads
        (read_is_an_image (now (d.trail new.disk))) n kept

    abbrev pub still_keeps : KeepsAll d (begun_at old.desktop begun.before base) [] old.desktop new
    still_keeps = record {
      usable = usable;
      behind = begun.keeps.behind;
      remembers = remembers_on begun.keeps.remembers device.as_large
          (stands_behind (now (d.trail mid.disk)).reads (now (d.trail new.disk)).reads begun.keeps.remembers.standing
          (subst (λ n. Stands n (now (d.trail mid.disk)).reads begun.keeps.remembers.standing) (sym device.as_large)
          begun.keeps.remembers.past.stands) (λ n low. same_there n (inl low)))
          (written_stays begun.keeps.remembers.pages (now (d.trail mid.disk)).reads (now (d.trail new.disk)).reads
          (begun_at old.desktop begun.before base)
          (λ n low high. same_there n (inr (low, omega (arith, high, begun.next, begun.keeps.remembers.past.up_to))))
          begun.keeps.remembers.past.written);
    }

    abbrev pub still_begun : HasBegun d base old new
    still_begun = record {
      before = begun.before;
      keeps = still_keeps;
      next = begun.next;
      copies = copies_as base 0 STORE_SECTORS (now (d.trail old.disk)).reads (now (d.trail old.disk)).reads
          (now (d.trail mid.disk)).reads (now (d.trail new.disk)).reads
          (λ n within. same_there (base + n) (inr (omega arith, omega (arith, within.1)))) (λ n within. refl)
          begun.copies;
    }

-- ---- all parts

-- two stretches around a start have zeros
pub blank_around : (first base end : ℕ) (c : Content) → first ≤ base → AreBlank first (base - first) c
    → AreBlank (base + STORE_SECTORS) (end - (base + STORE_SECTORS)) c
    → (n : ℕ) → first ≤ n → n < end → ¬ InRange base STORE_SECTORS n → IsBlank (c n)
blank_around first base end c behind below above = λ n low high out. elim (cases_lt n base) [
  | inl less ↦ below n (low, omega (arith, less, behind))
  | inr more ↦ elim (cases_lt n (base + STORE_SECTORS)) [
    | inl inside ↦ absurd (out (more, inside))
    | inr far ↦ above n (far, omega (arith, high, far))
  ]
]

-- ---- a past that was forgotten

module _ {D : Type 0} (d : Ghosts D) where
  -- the desktop stays, since what begins has it
  pub forgets_then : {old read : StoreView D} (mid new : StoreView D) (base : ℕ) → LeavesDesktop d old mid
      → IsOnlyReadFrom d old read → IsSameDevice d read.disk mid.disk → mid.must_reopen ≡ false
      → (d.honest old.disk → HasBegun d base read mid) → SparesStart d base mid new → LeavesDesktop d old new
  forgets_then {old = old} {read = read} mid new base first still device closed was spares = λ usable honest.
      let begun = was honest in
      let r = begun.keeps.remembers in
      let stands = subst (λ n. Stands n (now (d.trail mid.disk)).reads r.standing)
      (device.as_large ∙ still.left.disk.device.as_large) r.past.stands in
      chained (first usable honest)
      (weakened (spares.moments closed (device.still (still.left.disk.device.still honest))) (λ c same. (
        r.standing,
        stands_behind (now (d.trail mid.disk)).reads c r.standing stands (λ n low. same n (inl low)),
        r.is ∙ still.left.desktop honest,
      )))

  pub has_forgotten : (old read mid new : StoreView D) → IsOnlyReadFrom d old read → IsQuiet d old → d.honest old.disk
      → IsSameDevice d read.disk mid.disk → (base : ℕ) → IsPastPart (d.size old.disk) base (base + PART_SECTORS)
      → HasBegun d base read mid → IsSameDevice d mid.disk new.disk
      → new.must_reopen ≡ false → SparesStart d base mid new
      → AreBlankBeside (d.size mid.disk) base (now (d.trail new.disk)).reads → HasForgotten d old new
  has_forgotten old read mid new still quiet honest device base part begun device' usable spares blank =
      let second = device.still (still.left.disk.device.still honest) in
      let now_begun = still_begun d new begun second device' usable spares in
      let kept = subst (λ desktop. (k : KeepsAll d (begun_at desktop begun.before base) [] desktop new)
      × (k.remembers.standing.past.next ≡ base + STORE_SECTORS)) (still.left.desktop honest)
      (now_begun.keeps, now_begun.next) in
      record {
        base = base;
        end = base + PART_SECTORS;
        part = part;
        begun = record {
          before = begun.before;
          keeps = kept.0;
          next = kept.1;
          copies = subst (λ r. HasCopies base 0 STORE_SECTORS r (now (d.trail new.disk)).reads)
              (still_reads d still quiet honest) now_begun.copies;
        };
        blank = subst (λ n. AreBlankBeside n base (now (d.trail new.disk)).reads)
            (device.as_large ∙ still.left.disk.device.as_large) blank;
      }
