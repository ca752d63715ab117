-- A desktop in a page: sectors of a small store that shows it.
use Rattle.std.specs.Prelude.{◌≡◌, ◌<◌, ◌==◌, ℕ, List, [], ◌∷◌, if◌then◌else◌, length, replicate}
use Rattle.sector_disk.specs.Trail.{Content}
use Rattle.sector_disk.specs.declared.disk.TheConstants.{SECTOR_BYTES}
use Rattle.desktop_definitions.specs.Desktop.{Desktop}
use Rattle.store_layout.specs.declared.layout.TheConstants.{STORE_SECTORS}
use Rattle.store_layout.specs.Meaning.{Standing, Stands, desktop_of}

-- some sectors of a disk, each as its number and what it holds
abbrev pub Sectors : Type 0
Sectors = List (ℕ × List ℕ)

-- a disk of zeros
abbrev pub blank_disk : Content
blank_disk n = replicate SECTOR_BYTES 0

-- what a disk holds once these sectors were written, one after another
abbrev pub laid_over : Content → Sectors → Content
laid_over c [] = c
laid_over c (sector ∷ sectors) =
    laid_over (λ n. if n == sector.0 then sector.1 else c n) sectors

abbrev pub laid_sectors : Sectors → Content
laid_sectors sectors = laid_over blank_disk sectors

-- each of them is one of a store
abbrev pub AreSectors : Sectors → Type 0
AreSectors [] = Unit {0}
AreSectors (sector ∷ sectors) = (sector.0 < STORE_SECTORS) × (length sector.1 ≡ SECTOR_BYTES)
    × AreSectors sectors

-- on a disk of zeros these sectors are a store that shows this desktop
pub record IsCopyOf (sectors : Sectors) (to : Desktop) : Type 0 where
  pub are : AreSectors sectors
  pub standing : Standing
  pub stands : Stands STORE_SECTORS (laid_sectors sectors) standing
  pub is : desktop_of standing ≡ to
