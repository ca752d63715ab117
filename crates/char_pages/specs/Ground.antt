-- What stays the same of a source over a disk and pages.
use Rattle.std.specs.Prelude.{◌≡◌, ℕ, List, ◌++◌, false, Result}
use Rattle.std.specs.Borrow.{GName}
use Rattle.sector_disk.specs.declared.disk.Disk.{Ghosts}
use Rattle.sector_disk.specs.Trail.{Nowhere, CountsFault, now}
use Rattle.sector_disk.specs.Confined.{IsConfined}
use Rattle.char_pages.specs.declared.pages.Pages.{Pages}
use Rattle.char_pages.specs.Pages.{base_of, saved_of, rest_of, renewed_of, IsTrueOf}

-- a list, and perhaps more behind it
abbrev pub IsLonger : List ℕ → List ℕ → Type 0
IsLonger new old = (more : List ℕ) × (new ≡ old ++ more)

-- Two states of a source over the same disk: nothing was written to it between them. Where no characters were exchanged
-- since some were last said to stand on the disk, none were before either, the same ones stand on it still, and those
-- in memory were only added to.
pub record OnSamePages {D : Type 0} (d : Ghosts D) (old new : D) (p p' : Pages)
    (disk disk' pages pages' : GName) : Type 0 where
  pub confined : IsConfined d.size d.honest d.trail Nowhere old new
  pub same_base : base_of p' ≡ base_of p
  pub before : renewed_of p' ≡ false → renewed_of p ≡ false
  pub same_saved : renewed_of p' ≡ false → saved_of p' ≡ saved_of p
  pub only_added : renewed_of p' ≡ false → IsLonger (rest_of p') (rest_of p)
  -- the borrows are the same
  pub same_disk : disk' ≡ disk
  pub same_pages : pages' ≡ pages

-- What a call leaves that only looks at pages and at their disk: all characters are where they were, and what is in
-- memory of an honest disk is what stands there, as before.
pub record OnlyLooked {D : Type 0} (d : Ghosts D) {T E : Type 0} (result : Result T E) (old new : D)
    (p p' : Pages)
    : Type 0 where
  pub told : d.honest old → IsTrueOf (now (d.trail old)).reads p
      → IsTrueOf (now (d.trail new)).reads p'
  pub base : base_of p' ≡ base_of p
  pub counted : saved_of p' ≡ saved_of p
  pub rest : rest_of p' ≡ rest_of p
  pub renewed : renewed_of p' ≡ renewed_of p
  pub kept : IsConfined d.size d.honest d.trail Nowhere old new
  pub cause : CountsFault result (d.failures old) (d.failures new)
