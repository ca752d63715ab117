-- The characters in the area, sector after sector.
use Rattle.std.proofs.Common.{◌≡◌, ℕ, ◌+◌, ◌*◌, ◌<◌, ◌≤◌, List, ◌++◌, length, take, drop, sym, ◌∙◌, ap}
use Rattle.std.proofs.Common.{◌-◌, ◌/◌, subst, arith, length-append}
use Rattle.std.proofs.Math.Seq.{take-add, drop-append-add}
use Rattle.std.proofs.lemmas.List.{length-take-le, length-drop, take_all}
use Rattle.sector_disk.specs.Trail.{Content, Moment, written}
use Rattle.sector_disk.specs.Stored.{stored}
use Rattle.sector_disk.proofs.StoredLaws.{stored_same, sector_more, length-stored}
use Rattle.store_layout.proofs.Filled.{reads_here, reads_elsewhere}
use Rattle.sector_disk.specs.declared.disk.TheConstants.{SECTOR_BYTES}
use Rattle.store_layout.specs.Filling.{InRange}
use Rattle.char_pages.specs.declared.pages.Pages.{Pages}
use Rattle.char_pages.specs.Pages.{base_of, saved_of, saved_sectors, rest_of, paged_characters}
use Rattle.char_pages.proofs.Paging.{length-paged}
use Rattle.desktop_definitions.specs.Desktop.{KeptDesktop}
use Rattle.store_layout.specs.declared.layout.TheConstants.{AREA_SECTORS, IMAGE_SECTORS, SLOTS}
use Rattle.store_layout.specs.Layout.{area_start, area_at, image_at}
use Rattle.store_layout.specs.Meaning.{full_sectors, left_over}
use Rattle.store_layout.specs.Kept.{HasFront}
use Rattle.store_layout.proofs.StandingLaws.{has_front_stays}
use Rattle.store_slots.specs.Live.{IsOverPages}
use Rattle.store_slots.proofs.Counting.{no_content, few_written}
use Rattle.store_slots.proofs.Settled.{has_front}

-- the sector that was written, by another name
pub placed : (m m' : Moment) (place n : ℕ) (bytes : List ℕ) → place ≡ n → m' ≡ written m place bytes
    → m' ≡ written m n bytes
placed m m' place n bytes is wrote = subst (λ k. m' ≡ written m k bytes) is wrote

-- a sector of the characters is written after those that stand
front_more : (m m' : Moment) (area n : ℕ) (sector characters : List ℕ) → m' ≡ written m (area_at area n) sector
    → SECTOR_BYTES * (n + 1) ≤ length characters → sector ≡ take SECTOR_BYTES (drop (SECTOR_BYTES * n) characters)
    → HasFront m.reads area n characters → HasFront m'.reads area (n + 1) characters
front_more m m' area n sector characters is_written room is was =
    sector_more m'.reads (area_start area) n sector
    (ap (λ s. s.reads (area_at area n)) is_written ∙ reads_here m (area_at area n) sector) wide
    ∙ ap (λ l. l ++ sector) (stored_same m.reads m'.reads (area_start area) (SECTOR_BYTES * n)
    (λ k low. ap (λ s. s.reads (area_at area k)) is_written
    ∙ reads_elsewhere m (area_at area n) (area_at area k) sector (omega (arith, low))) ∙ was)
    ∙ ap (λ l. take (SECTOR_BYTES * n) characters ++ l) is ∙ sym (take-add (SECTOR_BYTES * n) SECTOR_BYTES characters)
    ∙ ap (λ i. take i characters) (omega arith)
  where
    wide : length sector ≡ SECTOR_BYTES
    wide = ap length is ∙ length-take-le SECTOR_BYTES (drop (SECTOR_BYTES * n) characters)
        (omega (arith, room, length-drop (SECTOR_BYTES * n) characters))

-- the same where the front was written before and sector i of the rest is written now
pub rest_more : (m m' : Moment) (area saved i : ℕ) (sector front rest : List ℕ)
    → m' ≡ written m (area_at area (saved + i)) sector → SECTOR_BYTES * (i + 1) ≤ length rest
    → sector ≡ take SECTOR_BYTES (drop (SECTOR_BYTES * i) rest) → length front ≡ SECTOR_BYTES * saved
    → HasFront m.reads area (saved + i) (front ++ rest) → HasFront m'.reads area (saved + i + 1) (front ++ rest)
rest_more m m' area saved i sector front rest is_written room is long was =
    front_more m m' area (saved + i) sector (front ++ rest) is_written
    (omega (arith, long, room, length-append front rest))
    (is ∙ ap (take SECTOR_BYTES) (sym (drop-append-add front rest (SECTOR_BYTES * i)))
    ∙ ap (λ n. take SECTOR_BYTES (drop n (front ++ rest))) (omega (arith, long))) was

-- how many of these fill whole sectors, and the others
abbrev full : List ℕ → ℕ
full rest = length rest / SECTOR_BYTES * SECTOR_BYTES

abbrev tail_of : List ℕ → List ℕ
tail_of rest = take (length rest - full rest) (drop (full rest) rest)

all_behind : (rest : List ℕ) → tail_of rest ≡ drop (full rest) rest
all_behind rest = take_all (length rest - full rest) (drop (full rest) rest)
    (omega (arith, length-drop (full rest) rest))

-- characters on the disk and in memory: what is written of them, and what is left over
module _ (c : Content) (p : Pages) (rest : List ℕ) (rest_is : rest ≡ rest_of p) where
  long : length (paged_characters c p) ≡ saved_of p + length rest
  long = length-paged c p.base p.saved p.rest.items ∙ ap (λ l. saved_of p + length l) (sym rest_is)

  -- the rest of the characters is written, and then the image of a slot
  pub filled : (mid c' : Content) (area saved slot : ℕ) → (0 < saved_of p → base_of p ≡ area_start area)
      → saved ≡ saved_sectors p → slot < SLOTS
      → ((front : List ℕ) → length front ≡ SECTOR_BYTES * saved → HasFront c area saved (front ++ rest)
      → HasFront mid area (saved + length rest / SECTOR_BYTES) (front ++ rest))
      → ((n : ℕ) → ¬ InRange (image_at slot) IMAGE_SECTORS n → c' n ≡ mid n)
      → HasFront c' area (full_sectors (length (paged_characters c p))) (paged_characters c p)
  filled mid c' area saved slot based saved_is low fills outside =
      has_front_stays mid c' area (full_sectors (length (paged_characters c p))) (paged_characters c p)
      (λ k few. outside (area_at area k) (λ within. omega (arith, within.1, low)))
      (subst (λ n. HasFront mid area n (paged_characters c p)) count
      (subst (λ l. HasFront mid area (saved + length rest / SECTOR_BYTES) (stored c p.base p.saved ++ l)) rest_is
      (fills (stored c p.base p.saved) (length-stored c p.base p.saved ∙ sym whole)
      (subst (λ l. HasFront c area saved (stored c p.base p.saved ++ l)) (sym rest_is)
      (has_front c p area saved based whole)))))
    where
      whole : SECTOR_BYTES * saved ≡ saved_of p
      whole = omega (arith, saved_is, p.whole)

      count : saved + length rest / SECTOR_BYTES ≡ full_sectors (length (paged_characters c p))
      count = omega (arith, long, whole)

  -- the others are in memory
  pub tail_same : tail_of rest
      ≡ drop (SECTOR_BYTES * full_sectors (length (paged_characters c p))) (paged_characters c p)
  tail_same = all_behind rest ∙ ap (drop (full rest)) rest_is
      ∙ sym (ap (λ n. drop n (paged_characters c p)) at
      ∙ drop-append-add (stored c p.base p.saved) p.rest.items (full rest))
    where
      at : SECTOR_BYTES * full_sectors (length (paged_characters c p))
          ≡ length (stored c p.base p.saved) + full rest
      at = omega (arith, long, length-stored c p.base p.saved, p.whole)

-- how many they are, and how many sectors they fill
module _ (p : Pages) (d : KeptDesktop) (rest : List ℕ) (rest_is : rest ≡ rest_of p) (over : IsOverPages p d) where
  written_is : d.written ≡ saved_of p + length rest
  written_is = sym (over no_content).counted ∙ long no_content p rest rest_is

  pub few_in_area : (saved : ℕ) → saved ≡ saved_sectors p
      → SECTOR_BYTES * saved + length rest ≤ SECTOR_BYTES * AREA_SECTORS
  few_in_area saved saved_is = omega (arith, saved_is, p.whole, written_is, few_written d (over no_content).whole)

  pub tail_long : length (tail_of rest) ≡ left_over d.written
  tail_long = ap length (all_behind rest) ∙ length-drop (full rest) rest ∙ omega (arith, written_is, p.whole)
