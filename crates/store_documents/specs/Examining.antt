-- What the sectors of a disk say of a store.
use Rattle.std.specs.Prelude.{◌≡◌, ◌<◌, ℕ, ◌+◌, ◌-◌, ◌*◌, ◌/◌, ◌==◌, nat_lt, if◌then◌else◌}
use Rattle.sector_disk.specs.Trail.{Content}
use Rattle.store_layout.specs.Layout.{is_label, is_open, slot_gate, slot_head, head, gate, body, image_at, area_start, area_at}
use Rattle.store_layout.specs.declared.layout.TheConstants.{LABEL, SLOTS, JOURNAL_EVENTS, IMAGE_SECTORS, AREA_SECTORS, AREAS}
use Rattle.store_documents.specs.declared.examining.Examined.{Examined}
use Rattle.store_documents.specs.declared.examining.SlotState.{SlotState}
use Rattle.store_documents.specs.declared.examining.SlotState.TheVariants.{Closed, Open}
use Rattle.store_documents.specs.declared.examining.Part.{Part}
use Rattle.store_documents.specs.declared.examining.Part.TheVariants.{Label, Slot, Journal, Image, Characters, Unused}

abbrev pub slot_state : Content → ℕ → SlotState
slot_state reads slot = if is_open (reads (slot_gate slot)) then Open (head reads slot) else Closed

abbrev pub examined : Content → Examined
examined reads = record {
  labelled = is_label (reads LABEL);
  first = slot_state reads 0;
  second = slot_state reads 1;
}

-- the part of a store in which a sector stands
abbrev pub part_at : ℕ → Part
part_at n =
    if n == LABEL then Label
    else if nat_lt n (gate 0 0) then Slot ((n - slot_gate 0) / 2)
    else if nat_lt n (image_at 0) then Journal ((n - gate 0 0) / (2 * JOURNAL_EVENTS))
    else if nat_lt n (area_start 0) then Image ((n - image_at 0) / IMAGE_SECTORS)
    else if nat_lt n (area_start 0 + AREA_SECTORS * AREAS) then Characters
    ((n - area_start 0) / AREA_SECTORS)
    else Unused

-- each sector of the label, a slot, a journal, an image or an area stands in that part
pub record ArePartsOfLayout : Type 0 where
  pub label : part_at LABEL ≡ Label
  pub gates : (slot : ℕ) → slot < SLOTS → part_at (slot_gate slot) ≡ Slot slot
  pub heads : (slot : ℕ) → slot < SLOTS → part_at (slot_head slot) ≡ Slot slot
  pub journals : (slot k : ℕ) → slot < SLOTS → k < JOURNAL_EVENTS
      → (part_at (gate slot k) ≡ Journal slot) × (part_at (body slot k) ≡ Journal slot)
  pub images : (slot k : ℕ) → slot < SLOTS → k < IMAGE_SECTORS
      → part_at (image_at slot + k) ≡ Image slot
  pub areas : (area k : ℕ) → area < AREAS → k < AREA_SECTORS
      → part_at (area_at area k) ≡ Characters area
