-- Characters of which the first stand on a disk.
use Rattle.std.specs.Prelude.{◌≡◌, ◌+◌, ◌*◌, ◌/◌, ℕ, List, ◌++◌, length, Bool}
use Rattle.sector_disk.specs.declared.disk.TheConstants.{SECTOR_BYTES}
use Rattle.sector_disk.specs.Trail.{Content}
use Rattle.sector_disk.specs.Stored.{stored}
use Rattle.char_pages.specs.declared.pages.Pages.{Pages}
use Rattle.char_pages.specs.Cached.{AreTrue}
use Rattle.char_pages.specs.Found.{AreFound}
use Rattle.char_pages.specs.Occurrences.{indices_in}

-- the first sector of those on the disk
abbrev pub base_of : Pages → ℕ
base_of p = p.base

-- how many characters stand on the disk, and in how many sectors
abbrev pub saved_of : Pages → ℕ
saved_of p = p.saved

abbrev pub saved_sectors : Pages → ℕ
saved_sectors p = p.saved / SECTOR_BYTES

-- the characters after them, which are in memory
abbrev pub rest_of : Pages → List ℕ
rest_of p = p.rest.items

-- how many characters there are
abbrev pub many_of : Pages → ℕ
many_of p = saved_of p + length (rest_of p)

-- the sectors of the disk that are in memory as well, each under its number
abbrev pub cached_of : Pages → List (ℕ × List ℕ)
cached_of p = p.cache.entries

-- whether all characters were exchanged since some were last said to stand on the disk
abbrev pub renewed_of : Pages → Bool
renewed_of p = p.renewed

-- How many bytes are in memory: the characters there, the sectors that were read, and two bytes for each place at which a
-- byte that was counted is known to stand.
abbrev pub held_in : Pages → ℕ
held_in p = length (rest_of p) + SECTOR_BYTES * length (cached_of p)
    + 2 * indices_in p.occurrences.known.items

-- all characters, where the disk reads this
abbrev pub paged_characters : Content → Pages → List ℕ
paged_characters c p = stored c (base_of p) (saved_of p) ++ rest_of p

-- what is in memory of the sectors on the disk, and what is known of them, is as this reads them
pub record IsTrueOf (c : Content) (p : Pages) : Type 0 where
  pub cached : AreTrue c (cached_of p)
  pub found : AreFound c (base_of p) p.occurrences

-- what is in memory of them stays so
pub record KeepsRead (old new : Pages) : Type 0 where
  pub cached : cached_of new ≡ cached_of old
  pub told : (c : Content) → IsTrueOf c old → IsTrueOf c new
