-- What a whole new slot is written by: first the area and the image, then its head and the first gate of its journal.
use Rattle.std.proofs.Common.{◌≡◌, ◌≢◌, ℕ, ◌+◌, ◌*◌, ◌<◌, ◌≤◌, List, ◌++◌, length, take, drop, refl, sym}
use Rattle.std.proofs.Common.{◌∙◌, ap, subst, arith, length-append, false}
use Rattle.std.proofs.Math.Seq.{take-append_seam, drop-append_seam}
use Rattle.std.proofs.lemmas.List.{take-append-drop, length-drop}
use Rattle.sector_disk.specs.declared.disk.TheConstants.{SECTOR_BYTES}
use Rattle.sector_disk.specs.Trail.{Moment, written, after_sync}
use Rattle.sector_disk.specs.Stored.{stored}
use Rattle.sector_disk.proofs.StoredLaws.{stored_same}
use Rattle.store_layout.specs.declared.head.PastEnd.{PastEnd}
use Rattle.store_layout.proofs.Filled.{reads_here, reads_elsewhere}
use Rattle.command_table.specs.Versions.{newest_version}
use Rattle.desktop_definitions.specs.Desktop.{Desktop, KeptDesktop}
use Rattle.desktop_definitions.specs.Limits.{most_written}
use Rattle.desktop_definitions.specs.Seen.{seen}
use Rattle.desktop_definitions.specs.Sound.{IsOver}
use Rattle.image_format.specs.declared.limits.TheConstants.{IMAGE_BYTES}
use Rattle.image_format.specs.Image.{image_of, image_bytes, IsSpellable}
use Rattle.store_layout.specs.declared.head.Head.{Head}
use Rattle.store_layout.specs.declared.layout.TheConstants.{AREAS, LAYOUT, SLOTS}
use Rattle.store_layout.specs.Layout.{is_open, slot_head, gate, image_at, area_start, area_at, head, head_of}
use Rattle.store_layout.specs.Layout.{IsGoodHead}
use Rattle.store_layout.specs.Meaning.{MakesDesktop, full_sectors, left_over}
use Rattle.store_layout.specs.Kept.{HasFront, IsNewSlot}
use Rattle.store_layout.proofs.StandingLaws.{has_front_stays}
use Rattle.store_slots.specs.Written.{IsFilled}
use Rattle.store_slots.proofs.Counting.{as_kept}

-- as many characters were written as there are
pub all_written : (characters : List ℕ) (d : KeptDesktop) → IsOver characters d
    → (seen characters d).written ≡ length characters
all_written characters d over = as_kept characters d ∙ sym over.counted

-- the area has room for them
few_characters : (characters : List ℕ) (d : KeptDesktop) → IsOver characters d → length characters ≤ most_written
few_characters characters d over = subst (λ n. n ≤ most_written) (all_written characters d over)
    (over.whole.sound characters).written_within

-- A new slot is filled where nothing is pending, and where its head names the whole sectors of these characters.
pub filled_as : (before last : Moment) {slot version area number : ℕ} {past : PastEnd} {characters : List ℕ}
    {desktop : Desktop}
    (h : Head) → last ≡ after_sync before → IsNewSlot last.reads slot version number past desktop → head last.reads slot ≡ h
    → h.area ≡ area → full_sectors h.written ≡ full_sectors (length characters)
    → HasFront last.reads area (full_sectors (length characters)) characters
    → IsFilled last slot version area number past characters desktop
filled_as before last h synced new here area_is named front = record {
  quiet = λ n. ap (λ m. m.pending n) synced;
  new = new;
  front = record {
    area_is = ap (λ h. h.area) here ∙ area_is;
    named = ap (λ h. full_sectors h.written) here ∙ named;
    same = front;
  };
}

module _ (first second third last : Moment) (slot number extent count at_area : ℕ) (past : PastEnd)
    (d : KeptDesktop)
    (characters : List ℕ)
    (head_bytes shut : List ℕ) (low : slot < SLOTS) (low_area : at_area < AREAS) (from_one : 1 ≤ number)
    (fits : extent ≤ IMAGE_BYTES)
    (over : IsOver characters d) (parts : IsSpellable newest_version d)
    (image : stored first.reads (image_at slot) extent
    ≡ drop (SECTOR_BYTES * full_sectors (length characters)) characters ++ image_bytes newest_version (image_of d))
    (area : HasFront first.reads at_area (full_sectors (length characters)) characters)
    (is_head : head_of head_bytes ≡ record {
      version = LAYOUT;
      epoch = number;
      written = count;
      extent = extent;
      area = at_area;
      past = past;
    }) (count_is : count ≡ (seen characters d).written) (is_shut : is_open shut ≡ false)
    (head_written : second ≡ written first (slot_head slot) head_bytes)
    (gate_written : third ≡ written second (gate slot 0) shut) (synced : last ≡ after_sync third) where
  all_counted : count ≡ length characters
  all_counted = count_is ∙ all_written characters d over

  abbrev new_head : Head
  new_head = record {
    version = LAYOUT;
    epoch = number;
    written = length characters;
    extent = extent;
    area = at_area;
    past = past;
  }

  abbrev tail : List ℕ
  tail = drop (SECTOR_BYTES * full_sectors (length characters)) characters

  abbrev bytes : List ℕ
  bytes = image_bytes newest_version (image_of d)

  behind : last ≡ after_sync (written second (gate slot 0) shut)
  behind = synced ∙ ap after_sync gate_written

  other : (n : ℕ) → n ≢ slot_head slot → n ≢ gate slot 0 → last.reads n ≡ first.reads n
  other n not_head not_gate = ap (λ m. m.reads n) behind ∙ reads_elsewhere second (gate slot 0) n shut not_gate
      ∙ ap (λ m. m.reads n) head_written ∙ reads_elsewhere first (slot_head slot) n head_bytes not_head

  here : head last.reads slot ≡ new_head
  here = ap head_of (ap (λ m. m.reads (slot_head slot)) behind
      ∙ reads_elsewhere second (gate slot 0) (slot_head slot) shut (omega (arith, low))
      ∙ ap (λ m. m.reads (slot_head slot)) head_written ∙ reads_here first (slot_head slot) head_bytes)
      ∙ is_head ∙ (λ i. record {
        version = LAYOUT;
        epoch = number;
        written = all_counted i;
        extent = extent;
        area = at_area;
        past = past;
      })

  area_now : HasFront last.reads at_area (full_sectors (length characters)) characters
  area_now = has_front_stays first.reads last.reads at_area (full_sectors (length characters)) characters
      (λ k few. other (area_at at_area k) (omega (arith, low)) (omega (arith, low))) area

  image_now : stored last.reads (image_at slot) extent ≡ tail ++ bytes
  image_now = stored_same first.reads last.reads (image_at slot) extent
      (λ k room. other (image_at slot + k) (omega (arith, low)) (omega (arith, low))) ∙ image

  tail_long : length tail ≡ left_over (length characters)
  tail_long = length-drop (SECTOR_BYTES * full_sectors (length characters)) characters ∙ omega arith

  made : MakesDesktop new_head (tail ++ bytes) (take (SECTOR_BYTES * full_sectors (length characters)) characters)
      (seen characters d)
  made = record {
    kept = d;
    tail = omega (arith, tail_long, length-append tail bytes);
    spells = record {
      count = sym over.counted;
      whole = over.whole;
      parts = parts;
      exact = ap (λ n. drop n (tail ++ bytes)) (sym tail_long) ∙ drop-append_seam tail bytes;
    };
    is = ap (λ l. seen (take (SECTOR_BYTES * full_sectors (length characters)) characters ++ l) d)
        (ap (λ n. take n (tail ++ bytes)) (sym tail_long) ∙ take-append_seam tail bytes)
        ∙ ap (λ l. seen l d) (take-append-drop (SECTOR_BYTES * full_sectors (length characters)) characters);
  }

  fresh : IsNewSlot last.reads slot LAYOUT number past (seen characters d)
  fresh = record {
    good = subst IsGoodHead (sym here) (record {
      first = omega arith;
      newest = omega arith;
      epoch = from_one;
      written = few_characters characters d over;
      extent = fits;
      area = low_area;
    });
    version_is = ap (λ h. h.version) here;
    epoch = ap (λ h. h.epoch) here;
    past_is = ap (λ h. h.past) here;
    image = subst (λ h. MakesDesktop h (stored last.reads (image_at slot) h.extent)
        (stored last.reads (area_start h.area) (SECTOR_BYTES * full_sectors h.written)) (seen characters d)) (sym here)
        (subst (λ l. MakesDesktop new_head l (stored last.reads (area_start at_area)
        (SECTOR_BYTES * full_sectors (length characters))) (seen characters d)) (sym image_now)
        (subst (λ l. MakesDesktop new_head (tail ++ bytes) l (seen characters d)) (sym area_now) made));
    journal = ap is_open (ap (λ m. m.reads (gate slot 0)) behind ∙ reads_here second (gate slot 0) shut) ∙ is_shut;
  }

  pub slot_filled : IsFilled last slot LAYOUT at_area number past characters (seen characters d)
  slot_filled = filled_as third last new_head synced fresh here refl refl area_now
