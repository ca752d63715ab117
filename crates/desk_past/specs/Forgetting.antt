-- A past that is forgotten. `d` is what is known of a disk.
use Rattle.std.specs.Prelude.{◌≡◌, ◌⊎◌, ◌<◌, ◌≤◌, ℕ, false}
use Rattle.sector_disk.specs.declared.disk.Disk.{Ghosts}
use Rattle.sector_disk.specs.Trail.{Content, now, LeavesOnly}
use Rattle.store_layout.specs.declared.layout.TheConstants.{STORE_SECTORS}
use Rattle.store_layout.specs.Filling.{InRange}
use Rattle.desk_journal.specs.View.{StoreView}
use Rattle.past_pages.specs.declared.parts.TheConstants.{PARTS}
use Rattle.past_pages.specs.Parts.{IsPastPart, parts_end}
use Rattle.past_pages.specs.Sectors.{IsBlank}
use Rattle.desk_past.specs.Beginning.{HasBegun}

-- All sectors of all parts have zeros, but those of a start from this sector on.
abbrev pub AreBlankBeside : ℕ → ℕ → Content → Type 0
AreBlankBeside size base c = (n : ℕ) → PARTS ≤ n → n < parts_end size
    → ¬ InRange base STORE_SECTORS n → IsBlank (c n)

module _ {D : Type 0} (d : Ghosts D) where
  -- at every moment of the call a crash leaves the sectors of the store and those of a start as they were
  pub record SparesStart (base : ℕ) (old new : StoreView D) : Type 0 where
    pub moments : old.must_reopen ≡ false → d.honest old.disk
        → LeavesOnly (d.trail old.disk) (d.trail new.disk)
        (λ c. (n : ℕ) → (n < STORE_SECTORS) ⊎ InRange base STORE_SECTORS n
        → c n ≡ (now (d.trail old.disk)).reads n)

  -- A past has begun with what the store shows, and nothing else is in any part behind the store.
  pub record HasForgotten (old new : StoreView D) : Type 0 where
    pub base : ℕ
    pub end : ℕ
    pub part : IsPastPart (d.size old.disk) base end
    pub begun : HasBegun d base old new
    pub blank : AreBlankBeside (d.size old.disk) base (now (d.trail new.disk)).reads
