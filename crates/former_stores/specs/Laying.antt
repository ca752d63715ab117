-- Sectors of a store that are laid in memory. `e` is what is known of the disk there.
use Rattle.std.specs.Prelude.{◌≡◌, ◌+◌, ◌<◌, ◌≤◌, ◌^◌, ℕ, replicate}
use Rattle.sector_disk.specs.declared.disk.Disk.{Ghosts}
use Rattle.sector_disk.specs.declared.disk.TheConstants.{SECTOR_BYTES}
use Rattle.sector_disk.specs.Trail.{Content, now}
use Rattle.store_layout.specs.declared.layout.TheConstants.{STORE_SECTORS}
use Rattle.store_layout.specs.Filling.{InRange}
use Rattle.store_layout.specs.Meaning.{Standing}
use Rattle.desk_journal.specs.View.{StoreView}
use Rattle.past_pages.specs.Laying.{StandsFrom}
use Rattle.desk_past.specs.Reading.{ShowsNow}

-- a disk has so many sectors from this one on, and they read as zeros
pub record IsBlankFrom {E : Type 0} (e : Ghosts E) (to count : ℕ) (disk : E) : Type 0 where
  pub room : to + count ≤ e.size disk
  pub zeros : e.honest disk → (n : ℕ) → InRange to count n
      → (now (e.trail disk)).reads n ≡ replicate SECTOR_BYTES 0

-- so many sectors hold what those of another content do, from this one on
abbrev pub IsCopiedTo : ℕ → ℕ → ℕ → Content → Content → Type 0
IsCopiedTo from to count was c = (k : ℕ) → k < count → c (to + k) ≡ was (from + k)

-- so many sectors lie behind a store, on a disk as large
pub record ArePlaced (from count size : ℕ) : Type 0 where
  pub behind : STORE_SECTORS ≤ from
  pub numbered : from + count < 2 ^ 32
  pub room : from + count ≤ size

-- from this sector on no store stands
abbrev pub StandsNone : Content → ℕ → Type 0
StandsNone c base = (t : Standing) → StandsFrom c base t → ⊥

-- A store stands there, and this one shows what that does. It is on a disk of this size, which has these sectors, too.
pub record IsLaid {E : Type 0} (e : Ghosts E) (c : Content) (base from count large : ℕ)
    (store : StoreView E)
    : Type 0 where
  pub standing : Standing
  pub stands : StandsFrom c base standing
  pub shows : ShowsNow e standing store
  pub pages : (n : ℕ) → InRange from count n → (now (e.trail store.disk)).reads n ≡ c n
  pub size : e.size store.disk ≡ large
