-- Where the parts of a store stand on its disk, by sector, and what tells a label, an open gate and a head. The numbers
-- stand in src/layout.rt. A store has two slots, 0 and 1, each with a gate, a head, a journal and an image.
use Rattle.std.specs.Prelude.{ℕ, ◌+◌, ◌*◌, ◌≤◌, ◌<◌, ◌==◌, if◌then◌else◌, List, Bool, nat_eq, codes, take, drop}
use Rattle.std.specs.List.{starts_with}
use Rattle.std.specs.Int.{w32, w64, from_be_bytes}
use Rattle.sector_disk.specs.Trail.{Content}
use Rattle.image_format.specs.declared.limits.TheConstants.{IMAGE_BYTES}
use Rattle.desktop_definitions.specs.Limits.{most_written}
use Rattle.store_layout.specs.declared.head.Head.{Head}
use Rattle.store_layout.specs.declared.head.PastEnd.{PastEnd}
use Rattle.store_layout.specs.declared.layout.TheConstants.{SLOT_GATES, SLOT_HEADS, JOURNALS, JOURNAL_SECTORS}
use Rattle.store_layout.specs.declared.layout.TheConstants.{IMAGES, IMAGE_SECTORS, AREA, AREA_SECTORS, AREAS}
use Rattle.store_layout.specs.declared.layout.TheConstants.{FIRST_LAYOUT, LAYOUT}

-- the label's sector begins so
unfoldable pub is_label : List ℕ → Bool
is_label bytes = starts_with nat_eq bytes (codes "OBERONDESKSTORE1")

-- a gate that doesn't begin so is closed
unfoldable pub is_open : List ℕ → Bool
is_open bytes = starts_with nat_eq bytes (codes "OPENGATE")

-- the gate of a slot
abbrev pub slot_gate : ℕ → ℕ
slot_gate slot = SLOT_GATES + 2 * slot

-- the head of a slot
abbrev pub slot_head : ℕ → ℕ
slot_head slot = SLOT_HEADS + 2 * slot

-- gate k and body k of a slot's journal, k below JOURNAL_EVENTS
abbrev pub gate : ℕ → ℕ → ℕ
gate slot k = JOURNALS + JOURNAL_SECTORS * slot + 2 * k

abbrev pub body : ℕ → ℕ → ℕ
body slot k = gate slot k + 1

-- the first sector of a slot's image
abbrev pub image_at : ℕ → ℕ
image_at slot = IMAGES + IMAGE_SECTORS * slot

-- the first sector of an area of characters, and sector k of it, k below AREA_SECTORS
abbrev pub area_start : ℕ → ℕ
area_start area = AREA + AREA_SECTORS * area

abbrev pub area_at : ℕ → ℕ → ℕ
area_at area k = area_start area + k

-- A head: numbers of four bytes, and the last one of eight, the highest byte first; the rest of the sector isn't read. One
-- of the first version has no fifth number, and names area 0. The last two tell of the past, and give no content another
-- meaning.
unfoldable pub head_of : List ℕ → Head
head_of bytes = record {
  version = from_be_bytes w32 (take 4 bytes);
  epoch = from_be_bytes w32 (take 4 (drop 4 bytes));
  written = from_be_bytes w32 (take 4 (drop 8 bytes));
  extent = from_be_bytes w32 (take 4 (drop 12 bytes));
  area = if from_be_bytes w32 (take 4 bytes) == FIRST_LAYOUT then 0 else from_be_bytes w32
      (take 4 (drop 16 bytes));
  past = record {
    next = from_be_bytes w32 (take 4 (drop 20 bytes));
    before = from_be_bytes w64 (take 8 (drop 24 bytes));
  };
}

-- a head that tells of no past
abbrev pub untold : PastEnd
untold = record { next = 0; before = 0 }

-- the head of a slot
abbrev pub head : Content → ℕ → Head
head c slot = head_of (c (slot_head slot))

-- a head that a slot in use can have
pub record IsGoodHead (h : Head) : Type 0 where
  pub first : FIRST_LAYOUT ≤ h.version
  pub newest : h.version ≤ LAYOUT
  pub epoch : 1 ≤ h.epoch
  pub written : h.written ≤ most_written
  pub extent : h.extent ≤ IMAGE_BYTES
  pub area : h.area < AREAS
