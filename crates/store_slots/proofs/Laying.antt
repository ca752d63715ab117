-- A disk that was just laid out shows the empty desktop.
use Rattle.std.proofs.Common.{◌≡◌, ◌≢◌, ℕ, ◌+◌, ◌*◌, ◌/◌, ◌%◌, ◌<◌, ◌≤◌, List, [], take, length, get_or, refl, sym}
use Rattle.std.proofs.Common.{◌∙◌, ap, subst, arith, rules}
use Rattle.std.proofs.Common.{Bool, true, false, if◌then◌else◌}
use Rattle.command_table.specs.Versions.{version_number}
use Rattle.command_table.specs.declared.version.Version.{Version}
use Rattle.command_table.specs.declared.version.Version.TheVariants.{V1, V2, V3}
use Rattle.std.proofs.lemmas.List.{get_or-take}
use Rattle.sector_disk.specs.declared.disk.Disk.{Ghosts}
use Rattle.sector_disk.specs.Confined.{IsConfined}
use Rattle.sector_disk.specs.Trail.{Moment, Trail, now, written, after_sync, Touches, Nowhere, Only}
use Rattle.sector_disk.proofs.Touching.{still_reads}
use Rattle.sector_disk.specs.Stored.{stored, byte_of}
use Rattle.sector_disk.proofs.StoredLaws.{stored_by_index, none_stored}
use Rattle.store_layout.proofs.Filled.{reads_here, reads_elsewhere}
use Rattle.desktop_definitions.specs.Desktop.{empty_desktop}
use Rattle.desktop_definitions.specs.Seen.{seen}
use Rattle.desktop_definitions.specs.Sound.{IsSound, IsWithin, IsKeptWhole}
use Rattle.desktop_definitions.proofs.StepLaws.{empty_sound}
use Rattle.sector_disk.specs.declared.disk.TheConstants.{SECTOR_BYTES}
use Rattle.image_format.specs.declared.empty.TheConstants.{EMPTY_IMAGE, FLAT_EMPTY_IMAGE}
use Rattle.image_format.specs.Image.{has_overlays, IsSpellable, Spells}
use Rattle.image_format.specs.Laws.{EmptyLaw, empty_bytes}
use Rattle.store_layout.specs.declared.head.Head.{Head}
use Rattle.store_layout.specs.declared.layout.TheConstants.{FIRST_LAYOUT, LABEL, LAYOUT, STORE_SECTORS}
use Rattle.store_layout.proofs.Bits.{clash}
use Rattle.store_layout.specs.Layout.{is_label, is_open, slot_gate, slot_head, gate, image_at, area_start, area_at}
use Rattle.store_layout.specs.Layout.{head, head_of, untold, IsGoodHead}
use Rattle.store_layout.specs.Meaning.{MakesDesktop, full_sectors}
use Rattle.store_layout.specs.Kept.{IsNewSlot, ShowsSettled}
use Rattle.store_layout.proofs.StandingLaws.{image_stays}
use Rattle.store_slots.specs.Written.{HasGate, IsFilled}
use Rattle.store_slots.proofs.Calls.{wrote, none_wrote, both_kept}
use Rattle.store_slots.proofs.NewSlot.{filled_as}

-- ---- the empty desktop

empty_seen : seen [] empty_desktop ≡ empty_desktop
unfolding seen empty_desktop
empty_seen = refl

seen_empty : (characters : List ℕ) → seen characters empty_desktop ≡ empty_desktop
unfolding seen empty_desktop
seen_empty characters = refl

nothing_there : IsWithin 0 empty_desktop
unfolding empty_desktop
nothing_there = search rules

empty_whole : IsKeptWhole empty_desktop
unfolding empty_desktop
empty_whole = record {
  within = nothing_there;
  sound = λ characters. subst IsSound (sym (seen_empty characters)) empty_sound;
}

-- a column has one track at least
one_track : (b : Bool) (most : ℕ) → 1 ≤ most → 1 ≤ (if b then most else 1)
one_track true most some = some
one_track false most some = omega arith

empty_parts : (version : ℕ) → IsSpellable version empty_desktop
unfolding empty_desktop
empty_parts version = record {
  tables = record {
    texts = search rules;
    files = search rules;
    copied = search rules;
    deleted = search rules;
    numbers = search rules;
  };
  ids = search rules;
  user = one_track (has_overlays version) _ (omega arith);
  system = one_track (has_overlays version) _ (omega arith);
}

pub empty_spelled : EmptyLaw → (version : ℕ) → Spells version 0 (empty_bytes version) empty_desktop
unfolding empty_desktop
empty_spelled law version = record {
  count = refl;
  whole = empty_whole;
  parts = empty_parts version;
  exact = sym (law version).0;
}

few_of : (b : Bool) → length (if b then EMPTY_IMAGE else FLAT_EMPTY_IMAGE) ≤ 30
few_of true = omega arith
few_of false = omega arith

-- it has few bytes in each version
pub few_bytes : (version : ℕ) → length (empty_bytes version) ≤ 30
few_bytes version = few_of (has_overlays version)

-- every version is one of a layout
pub versions_known : (version : Version) → (FIRST_LAYOUT ≤ version_number version) × (version_number version ≤ LAYOUT)
versions_known V1 = (omega arith, omega arith)
versions_known V2 = (omega arith, omega arith)
versions_known V3 = (omega arith, omega arith)

-- ---- slot 0

module _ (before one two three four last : Moment) (image head_bytes shut label bytes : List ℕ) (version : ℕ)
    (known : (FIRST_LAYOUT ≤ version) × (version ≤ LAYOUT)) (spelled : Spells version 0 bytes empty_desktop)
    (few : length bytes ≤ 30) (image_is : take (length bytes) image ≡ bytes)
    (is_head : head_of head_bytes ≡ record {
      version = version;
      epoch = 1;
      written = 0;
      extent = length bytes;
      area = 0;
      past = untold;
    })
    (is_shut : is_open shut ≡ false) (image_written : one ≡ written before (image_at 0) image)
    (head_written : two ≡ written one (slot_head 0) head_bytes) (gate_written : three ≡ written two (gate 0 0) shut)
    (label_written : four ≡ written three LABEL label) (synced : last ≡ after_sync four) where
  abbrev new_head : Head
  new_head = record { version = version; epoch = 1; written = 0; extent = length bytes; area = 0; past = untold }

  after_label : (n : ℕ) → n ≢ LABEL → last.reads n ≡ three.reads n
  after_label n other = ap (λ m. m.reads n) (synced ∙ ap after_sync label_written)
      ∙ reads_elsewhere three LABEL n label other

  after_gate : (n : ℕ) → n ≢ LABEL → n ≢ gate 0 0 → last.reads n ≡ two.reads n
  after_gate n other further = after_label n other ∙ ap (λ m. m.reads n) gate_written
      ∙ reads_elsewhere two (gate 0 0) n shut further

  here : head last.reads 0 ≡ new_head
  here = ap head_of (after_gate (slot_head 0) (omega arith) (omega arith)
      ∙ ap (λ m. m.reads (slot_head 0)) head_written ∙ reads_here one (slot_head 0) head_bytes) ∙ is_head

  image_there : last.reads (image_at 0) ≡ image
  image_there = after_gate (image_at 0) (omega arith) (omega arith)
      ∙ ap (λ m. m.reads (image_at 0)) head_written
      ∙ reads_elsewhere one (slot_head 0) (image_at 0) head_bytes (omega arith)
      ∙ ap (λ m. m.reads (image_at 0)) image_written ∙ reads_here before (image_at 0) image

  image_stored : stored last.reads (image_at 0) (length bytes) ≡ bytes
  image_stored = stored_by_index last.reads (image_at 0) (length bytes) bytes refl (λ i low.
      ap (λ l. get_or l i 0) (sym image_is) ∙ get_or-take (length bytes) image i 0 low
      ∙ ap (λ l. get_or l i 0) (sym image_there) ∙ sym (in_first i low))
    where
      in_first : (i : ℕ) → i < length bytes → byte_of last.reads (image_at 0) i ≡ get_or (last.reads (image_at 0)) i 0
      in_first i low =
          let sector : image_at 0 + i / SECTOR_BYTES ≡ image_at 0 = omega (arith, low, few) in
          let place : i % SECTOR_BYTES ≡ i = omega (arith, low, few) in
          ap (λ n. get_or (last.reads n) (i % SECTOR_BYTES) 0) sector
          ∙ ap (λ n. get_or (last.reads (image_at 0)) n 0) place

  made : MakesDesktop new_head bytes [] empty_desktop
  made = record {
    kept = empty_desktop;
    tail = omega arith;
    spells = spelled;
    is = empty_seen;
  }

  fresh : IsNewSlot last.reads 0 version 1 untold empty_desktop
  fresh = record {
    good = subst IsGoodHead (sym here)
        (record {
          first = known.0;
          newest = known.1;
          epoch = omega arith;
          written = omega arith;
          extent = omega (arith, few);
          area = omega arith;
        });
    version_is = ap (λ h. h.version) here;
    epoch = ap (λ h. h.epoch) here;
    past_is = ap (λ h. h.past) here;
    image = subst (λ h. MakesDesktop h (stored last.reads (image_at 0) h.extent)
        (stored last.reads (area_start h.area) (SECTOR_BYTES * full_sectors h.written)) empty_desktop) (sym here)
        (subst (λ l. MakesDesktop new_head l (stored last.reads (area_start 0) 0) empty_desktop) (sym image_stored)
        (subst (λ l. MakesDesktop new_head bytes l empty_desktop) (sym (none_stored last.reads (area_start 0))) made));
    journal = ap is_open (after_label (gate 0 0) (omega arith) ∙ ap (λ m. m.reads (gate 0 0)) gate_written
        ∙ reads_here two (gate 0 0) shut) ∙ is_shut;
  }

  pub slot_started : IsFilled last 0 version 0 1 untold [] empty_desktop
  slot_started = filled_as four last new_head synced fresh here refl refl (none_stored last.reads (area_start 0))

-- the label is there
pub labelled : (three four last : Moment) (label : List ℕ) → is_label label ≡ true → four ≡ written three LABEL label
    → last ≡ after_sync four → is_label (last.reads LABEL) ≡ true
labelled three four last label is wrote synced =
    ap is_label (ap (λ m. m.reads LABEL) (synced ∙ ap after_sync wrote) ∙ reads_here three LABEL label) ∙ is

-- where all this is written: a store, without the gate of slot 1
abbrev InStart : ℕ → Type 0
InStart n = (n < STORE_SECTORS) × ¬ (n ≡ slot_gate 1)

abbrev Keeps : {D : Type 0} → Ghosts D → (ℕ → Type 0) → D → D → Type 0
Keeps d area old new = IsConfined d.size d.honest d.trail area old new

module _ {D : Type 0} (d : Ghosts D) {old new : D} where
  pub image_kept : {n : ℕ} → n ≡ image_at 0 → Keeps d (Only n) old new → Keeps d InStart old new
  image_kept is run = wrote d is (omega arith, λ e. omega (arith, e)) run

  pub head_kept : {mid : D} {n : ℕ} → Keeps d InStart old mid → n ≡ slot_head 0 → Keeps d (Only n) mid new → Keeps d InStart old new
  head_kept first is run = both_kept d first (wrote d is (omega arith, λ e. omega (arith, e)) run)

  pub gate_kept : {mid : D} {n : ℕ} → Keeps d InStart old mid → n ≡ gate 0 0 → Keeps d (Only n) mid new → Keeps d InStart old new
  gate_kept first is run = both_kept d first (wrote d is (omega arith, λ e. omega (arith, e)) run)

  pub label_kept : {mid : D} → Keeps d InStart old mid → Keeps d (Only LABEL) mid new → Keeps d InStart old new
  label_kept first run = both_kept d first (wrote d refl (omega arith, λ e. omega (arith, e)) run)

  pub sync_kept : {mid : D} → Keeps d InStart old mid → Keeps d Nowhere mid new → Keeps d InStart old new
  sync_kept first run = both_kept d first (none_wrote d run)

-- ---- the whole

-- label and slot were written, and the gate of slot 1 closed, before slot 0 was opened
pub laid_out : (size version : ℕ) (closed started opened : Trail) → STORE_SECTORS ≤ size
    → is_open ((now closed).reads (slot_gate 1)) ≡ false
    → Touches (λ n. (n < STORE_SECTORS) × ¬ (n ≡ slot_gate 1)) closed started
    → is_label ((now started).reads LABEL) ≡ true → IsNewSlot (now started).reads 0 version 1 untold empty_desktop
    → Touches (Only (slot_gate 0)) started opened → HasGate (now opened) 0 true
    → ShowsSettled size opened 0 version 1 0 empty_desktop
laid_out size version closed started opened large shut starts label new opens live = record {
  standing = record { slot = 0; version = version; epoch = 1; past = untold; start = empty_desktop; events = [] };
  settled = record {
    quiet = live.quiet;
    stands = record {
      large = large;
      label = ap is_label (same LABEL (omega arith)) ∙ label;
      two = omega arith;
      live = live.is;
      good = subst (λ b. IsGoodHead (head_of b)) (sym (same (slot_head 0) (omega arith))) new.good;
      version = ap (λ b. (head_of b).version) (same (slot_head 0) (omega arith)) ∙ new.version_is;
      epoch = ap (λ b. (head_of b).epoch) (same (slot_head 0) (omega arith)) ∙ new.epoch;
      past = ap (λ b. (head_of b).past) (same (slot_head 0) (omega arith)) ∙ new.past_is;
      other = λ idle two is.
          let here : idle ≡ 1 = omega (arith, two) in
          absurd (clash (subst (λ n. is_open ((now opened).reads (slot_gate n)) ≡ true) here is)
          (ap is_open (same (slot_gate 1) (omega arith)
          ∙ still_reads closed started starts (slot_gate 1) (λ within. within.1 refl)) ∙ shut));
      image = image_stays (now started).reads (now opened).reads 0 empty_desktop (same (slot_head 0) (omega arith))
          (λ k low. same (image_at 0 + k) (omega arith))
          (λ k low. same (area_at (head (now started).reads 0).area k) (omega arith)) new.image;
      journal = λ room. ap is_open (same (gate 0 0) (omega arith)) ∙ new.journal;
    };
  };
  slot = refl;
  version_is = refl;
  epoch = refl;
  events = refl;
  is = refl;
}
  where
    same : (n : ℕ) → n ≢ slot_gate 0 → (now opened).reads n ≡ (now started).reads n
    same n other = still_reads started opened opens n other
