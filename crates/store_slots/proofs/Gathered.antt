-- Characters that are all read into memory.
use Rattle.std.proofs.Common.{◌≡◌, ◌+◌, ◌-◌, ◌*◌, ℕ, List, [], ◌++◌, length, drop, sym, ◌∙◌, ap, arith, length-append}
use Rattle.sector_disk.specs.Trail.{Content}
use Rattle.sector_disk.specs.Stored.{stored}
use Rattle.sector_disk.proofs.StoredLaws.{none_stored, sector_more}
use Rattle.sector_disk.specs.declared.disk.TheConstants.{SECTOR_BYTES}
use Rattle.char_pages.specs.declared.pages.Pages.{Pages}
use Rattle.char_pages.specs.Pages.{base_of, saved_of, saved_sectors, rest_of, paged_characters}
use Rattle.char_pages.proofs.Paging.{length-paged}
use Rattle.store_layout.specs.Layout.{area_start}
use Rattle.store_layout.specs.Meaning.{area_bytes}

-- no sector has been read
pub none_read : (c : Content) (area : ℕ) (l : List ℕ) → l ≡ [] → l ≡ area_bytes c area 0
none_read c area l none = none ∙ sym (none_stored c (area_start area))

-- one sector more has been read
pub area_more : (c c' : Content) (area k n : ℕ) (old new : List ℕ) → c' ≡ c → n ≡ area_start area + k
    → length old ≡ SECTOR_BYTES * k → length new ≡ length old + SECTOR_BYTES → old ≡ area_bytes c area k
    → new ≡ old ++ c' n → new ≡ area_bytes c area (k + 1)
area_more c c' area k n old new same at long longer was grown =
    let wide : length (c' n) ≡ SECTOR_BYTES = omega (arith, longer, ap length grown ∙ length-append old (c' n)) in
    let there : c (area_start area + k) ≡ c' n = sym (λ i. same i (at i)) in
    grown ∙ ap (λ l. l ++ c' n) was ∙ sym (sector_more c (area_start area) k (c' n) there wide)

-- where none is on a disk, they are those in memory
pub none_paged : (c : Content) (p : Pages) → saved_of p ≡ 0 → paged_characters c p ≡ rest_of p
none_paged c p none = ap (λ n. stored c (base_of p) n ++ rest_of p) none
    ∙ ap (λ l. l ++ rest_of p) (none_stored c (base_of p))

-- the characters of an area, and those behind them
pub all_read : (c : Content) (p : Pages) (area : ℕ) → base_of p ≡ area_start area
    → area_bytes c area (saved_sectors p) ++ rest_of p ≡ paged_characters c p
all_read c p area based =
    let whole : SECTOR_BYTES * saved_sectors p ≡ saved_of p = omega (arith, p.whole) in
    λ i. stored c (sym based i) (whole i) ++ rest_of p

-- so many there are
pub all_counted : (c : Content) (p q : Pages) (front : List ℕ) (n written : ℕ) → length (paged_characters c p) ≡ written
    → length front ≡ SECTOR_BYTES * n → n ≡ saved_sectors p → saved_of q ≡ 0 → rest_of q ≡ front ++ rest_of p
    → saved_of q + length (rest_of q) ≡ written
all_counted c p q front n written counted long many none is =
    let count : length (rest_of q) ≡ length front + length (rest_of p) =
    ap length is ∙ length-append front (rest_of p) in
    let paged : length (paged_characters c p) ≡ saved_of p + length (rest_of p) =
    length-paged c p.base p.saved p.rest.items in
    omega (arith, count, long, many, none, p.whole, counted, paged)

-- none of those in memory is given up where none stands on a disk, before and after
pub rest_kept : (p q : Pages) → saved_of p ≡ 0 → rest_of q ≡ drop (0 - saved_of p) (rest_of p) → rest_of q ≡ rest_of p
rest_kept p q none is = is ∙ ap (λ n. drop (0 - n) (rest_of p)) none

pub paged_same : (c : Content) (p q : Pages) → saved_of p ≡ 0 → saved_of q ≡ 0 → rest_of q ≡ rest_of p
    → paged_characters c q ≡ paged_characters c p
paged_same c p q none still same = none_paged c q still ∙ same ∙ sym (none_paged c p none)

-- the same characters, all in memory
pub paged_gathered : (c here : Content) (p q : Pages) (area n : ℕ) (front : List ℕ) → base_of p ≡ area_start area
    → n ≡ saved_sectors p → saved_of q ≡ 0 → rest_of q ≡ front ++ rest_of p → front ≡ area_bytes here area n
    → paged_characters c q ≡ paged_characters here p
paged_gathered c here p q area n front based many none is read =
    none_paged c q none ∙ is ∙ ap (λ l. l ++ rest_of p) (read ∙ ap (area_bytes here area) many)
    ∙ all_read here p area based
