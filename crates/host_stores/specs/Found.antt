-- What is found in a file when the store in it is opened. `f` is what is known of a file.
use Rattle.std.specs.Prelude.{◌≡◌, ℕ, List}
use Rattle.sector_disk.specs.declared.host_file.HostFile.{Ghosts}
use Rattle.sector_disk.specs.declared.file.FileDisk.{FileDisk}
use Rattle.sector_disk.specs.declared.file.TheConstants.{FILE_SECTORS}
use Rattle.sector_disk.specs.Trail.{Content, now}
use Rattle.sector_disk.specs.FileSectors.{sectors_of}
use Rattle.store_layout.specs.Finding.{IsForeign, IsDamagedAt}
use Rattle.desktop_definitions.specs.Desktop.{Desktop}
use Rattle.desktop_definitions.specs.Shown.{shown_screen}
use Rattle.screen_pictures.specs.declared.cell.Cell.{Cell}
use Rattle.store_layout.specs.Meaning.{Means, Shows}
use Rattle.desk_journal.specs.Errors.{Error, NotAStore, Damaged}
use Rattle.desk_journal.specs.View.{StoreView}

module _ {F : Type 0} (f : Ghosts F) where
  -- what the sectors of a file read as
  abbrev pub content_of : F → Content
  content_of file = (now (sectors_of (f.trail file))).reads

  -- the store shows what stands in so many sectors of the file
  abbrev pub IsFoundOn : ℕ → F → StoreView (FileDisk F f) → Type 0
  IsFoundOn sectors file store = f.honest file
      → Shows sectors store.layout store.epoch store.events store.desktop (content_of file)

  -- what stands there is no store, or a damaged one
  pub record IsNoneOn (sectors : ℕ) (file : F) (error : Error) : Type 0 where
    pub foreign : error ≡ NotAStore → f.honest file → IsForeign sectors (content_of file)
    pub damaged : (n : ℕ) → error ≡ Damaged n → f.honest file
        → IsDamagedAt sectors (content_of file) n

  -- both of a file that has just the sectors of a store
  abbrev pub IsFoundIn : F → StoreView (FileDisk F f) → Type 0
  IsFoundIn file store = IsFoundOn FILE_SECTORS file store

  abbrev pub IsNoneIn : F → Error → Type 0
  IsNoneIn file error = IsNoneOn FILE_SECTORS file error

  -- a screen shows what stands in the file
  abbrev pub IsScreenOf : F → List (List Cell) → Type 0
  IsScreenOf file screen = f.honest file → (desktop : Desktop)
      × Means FILE_SECTORS desktop (content_of file) × (screen ≡ shown_screen desktop)
