-- Characters that stand on the disk by now are given up.
use Rattle.std.proofs.Common.{◌≡◌, ◌+◌, ◌-◌, ◌*◌, ◌<◌, ◌≤◌, ℕ, zero, suc, List, [], ◌++◌, length, take, drop}
use Rattle.std.proofs.Common.{sym, ◌∙◌, ap, arith}
use Rattle.std.proofs.lemmas.List.{take_at}
use Rattle.sector_disk.specs.Trail.{Content}
use Rattle.sector_disk.specs.Stored.{stored}
use Rattle.sector_disk.proofs.StoredLaws.{length-stored, none_stored}
use Rattle.sector_disk.specs.declared.disk.TheConstants.{SECTOR_BYTES}
use Rattle.char_pages.specs.declared.pages.Pages.{Pages}
use Rattle.char_pages.specs.Pages.{base_of, saved_of, rest_of, paged_characters}
use Rattle.char_pages.proofs.Paging.{length-paged, paged_settled}
use Rattle.desktop_definitions.specs.Desktop.{KeptDesktop}
use Rattle.desktop_definitions.specs.Seen.{seen}
use Rattle.desktop_definitions.specs.Sound.{IsOver}
use Rattle.store_layout.specs.Layout.{area_start}
use Rattle.store_layout.specs.Kept.{HasFront}
use Rattle.store_slots.specs.Live.{IsOverPages}
use Rattle.store_slots.proofs.Counting.{no_content, as_kept}

-- how many characters there are, as the desktop tells
pub record IsCounted (pages : Pages) (d : KeptDesktop) (n : ℕ) : Type 0 where
  pub written : n ≡ d.written
  pub long : n ≡ saved_of pages + length (rest_of pages)

pub counted : (pages : Pages) (d : KeptDesktop) (n : ℕ) → IsOverPages pages d
    → ((characters : List ℕ) → n ≡ (seen characters d).written) → IsCounted pages d n
counted pages d n over told = record {
  written = told [] ∙ as_kept [] d;
  long = told [] ∙ as_kept [] d ∙ sym (over no_content).counted
      ∙ length-paged no_content pages.base pages.saved pages.rest.items;
}

-- a desktop is over pages of as many characters
pub still_over : (old new : Pages) (d : KeptDesktop) → IsOverPages old d
    → saved_of new + length (rest_of new) ≡ saved_of old + length (rest_of old) → IsOverPages new d
still_over old new d over long = λ content. record {
  counted = length-paged content new.base new.saved new.rest.items ∙ long
      ∙ sym (length-paged content old.base old.saved old.rest.items) ∙ (over content).counted;
  whole = (over content).whole;
}

-- whatever the disk reads, a desktop is over pages where it is over them as it reads once
pub over_all : (pages : Pages) (d : KeptDesktop) (c : Content) → IsOver (paged_characters c pages) d
    → IsOverPages pages d
over_all pages d c over = λ content. record {
  counted = length-paged content pages.base pages.saved pages.rest.items
      ∙ sym (length-paged c pages.base pages.saved pages.rest.items) ∙ over.counted;
  whole = over.whole;
}

-- so it is over pages of as many characters, by what they read
pub over_as_long : (old new : Pages) (d : KeptDesktop) (c c' : Content) → IsOverPages old d
    → length (paged_characters c' new) ≡ length (paged_characters c old) → IsOverPages new d
over_as_long old new d c c' over long = over_all new d c' (record {
  counted = long ∙ (over c).counted;
  whole = (over c).whole;
})

-- no characters on a disk stand anywhere
pub rebased : (content : Content) (base base' saved : ℕ) → (0 < saved → base' ≡ base)
    → stored content base' saved ≡ stored content base saved
rebased content base base' zero same = none_stored content base' ∙ sym (none_stored content base)
rebased content base base' (suc n) same = ap (λ b. stored content b (suc n)) (same (omega arith))

-- the same characters, where the disk holds the front of them
pub settled_same : (content : Content) (old new : Pages) (area n : ℕ)
    → (0 < saved_of old → base_of old ≡ area_start area)
    → base_of new ≡ area_start area
    → saved_of new ≡ SECTOR_BYTES * n → rest_of new ≡ drop (saved_of new - saved_of old) (rest_of old)
    → saved_of old ≤ saved_of new → HasFront content area n (paged_characters content old)
    → paged_characters content new ≡ paged_characters content old
settled_same content old new area n based based_now saved_is rest_is le front =
    (λ i. stored content (based_now i) new.saved ++ rest_is i)
    ∙ paged_settled content (area_start area) old.saved new.saved old.rest.items le
    (ap (stored content (area_start area)) saved_is ∙ front
    ∙ (λ i. take (sym saved_is i) (sym moved i)))
    ∙ moved
  where
    -- the characters, counted from the area
    moved : stored content (area_start area) old.saved ++ old.rest.items ≡ paged_characters content old
    moved = ap (λ l. l ++ old.rest.items)
        (rebased content old.base (area_start area) old.saved (λ some. sym (based some)))

-- what is on the disk is the front
pub has_front : (content : Content) (pages : Pages) (area n : ℕ)
    → (0 < saved_of pages → base_of pages ≡ area_start area)
    → SECTOR_BYTES * n ≡ saved_of pages
    → HasFront content area n (stored content pages.base pages.saved ++ rest_of pages)
has_front content pages area n based is =
    ap (stored content (area_start area)) is
    ∙ rebased content pages.base (area_start area) pages.saved (λ some. sym (based some))
    ∙ sym (take_at (stored content pages.base pages.saved) pages.rest.items (SECTOR_BYTES * n)
    (length-stored content pages.base pages.saved ∙ sym is))
