-- The sectors that a meaning depends on.
use Rattle.std.specs.Prelude.{◌≡◌, ◌<◌, ◌+◌, ◌*◌, ℕ, true, ◌↔◌}
use Rattle.sector_disk.specs.Trail.{Content}
use Rattle.desktop_definitions.specs.Desktop.{Desktop}
use Rattle.sector_disk.specs.declared.disk.TheConstants.{SECTOR_BYTES}
use Rattle.store_layout.specs.declared.layout.TheConstants.{JOURNAL_EVENTS, LABEL, SLOTS}
use Rattle.store_layout.specs.Layout.{is_open, slot_gate, slot_head, gate, body, image_at, area_at, head}
use Rattle.store_layout.specs.Meaning.{Means, full_sectors}

-- each gate before gate k is open
abbrev pub IsLedTo : Content → ℕ → ℕ → Type 0
IsLedTo c slot k = (j : ℕ) → j < k → is_open (c (gate slot j)) ≡ true

-- the slot is in use: open, and of two open ones that with the greater epoch, slot 0 where they are equal
pub record IsInUse (c : Content) (slot : ℕ) : Type 0 where
  pub two : slot < SLOTS
  pub opened : is_open (c (slot_gate slot)) ≡ true
  pub other : (idle : ℕ) → slot + idle ≡ 1 → is_open (c (slot_gate idle)) ≡ true
      → (head c idle).epoch < (head c slot).epoch + idle

-- The second content agrees with the first in the label, the gates of the slots, the heads under open gates, and, of
-- the slot in use, in its image to its length, in the sectors of the area that its head names, in the gates of its
-- journal up to the first closed one, and in the bodies before that.
pub record AgreesOnFootprint (c c' : Content) : Type 0 where
  pub label : c' LABEL ≡ c LABEL
  pub slot_gates : (slot : ℕ) → slot < SLOTS → c' (slot_gate slot) ≡ c (slot_gate slot)
  pub heads : (slot : ℕ) → slot < SLOTS → is_open (c (slot_gate slot)) ≡ true
      → c' (slot_head slot) ≡ c (slot_head slot)
  pub image : (slot k : ℕ) → IsInUse c slot → SECTOR_BYTES * k < (head c slot).extent
      → c' (image_at slot + k) ≡ c (image_at slot + k)
  pub area : (slot k : ℕ) → IsInUse c slot → k < full_sectors (head c slot).written
      → c' (area_at (head c slot).area k) ≡ c (area_at (head c slot).area k)
  pub gates : (slot k : ℕ) → IsInUse c slot → k < JOURNAL_EVENTS → IsLedTo c slot k
      → c' (gate slot k) ≡ c (gate slot k)
  pub bodies : (slot k : ℕ) → IsInUse c slot → k < JOURNAL_EVENTS → IsLedTo c slot (k + 1)
      → c' (body slot k) ≡ c (body slot k)

-- contents that agree there mean the same, and one of them means nothing where the other doesn't
abbrev pub FootprintLaw : Type 0
FootprintLaw = (size : ℕ) (c c' : Content) (desktop : Desktop) → AgreesOnFootprint c c'
    → Means size desktop c ↔ Means size desktop c'
