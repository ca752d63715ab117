-- How many characters a desktop has.
use Rattle.std.proofs.Common.{◌≡◌, ◌+◌, ◌≤◌, ℕ, List, [], length, refl, ◌∙◌, subst}
use Rattle.sector_disk.specs.Trail.{Content}
use Rattle.char_pages.specs.declared.pages.Pages.{Pages}
use Rattle.char_pages.specs.Pages.{saved_of, rest_of}
use Rattle.char_pages.proofs.Paging.{length-paged}
use Rattle.desktop_definitions.specs.Desktop.{KeptDesktop}
use Rattle.desktop_definitions.specs.Limits.{most_written}
use Rattle.desktop_definitions.specs.Seen.{seen}
use Rattle.desktop_definitions.specs.Sound.{IsKeptWhole}
use Rattle.store_slots.specs.Live.{IsOverPages}

-- a disk with no bytes, where any will do
pub no_content : Content
no_content n = []

pub as_kept : (characters : List ℕ) (d : KeptDesktop) → (seen characters d).written ≡ d.written
unfolding seen
as_kept characters d = refl

-- no more than may ever be written
pub few_written : (d : KeptDesktop) → IsKeptWhole d → d.written ≤ most_written
few_written d whole = subst (λ n. n ≤ most_written) (as_kept [] d) (whole.sound []).written_within

-- a desktop of as many characters as the pages have stands over them
pub over_pages : (pages : Pages) (d : KeptDesktop) → IsKeptWhole d → saved_of pages + length (rest_of pages) ≡ d.written
    → IsOverPages pages d
over_pages pages d whole count = λ content. record {
  counted = length-paged content pages.base pages.saved pages.rest.items ∙ count;
  whole = whole;
}
