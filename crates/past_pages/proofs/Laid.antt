-- A store that is laid on another disk, part by part.
use Rattle.std.proofs.Common.{◌≡◌, ◌≢◌, ◌⊎◌, inl, inr, ◌+◌, ◌-◌, ◌*◌, ◌<◌, ◌≤◌, ℕ, zero, suc, length, sym, ◌∙◌, ap, arith, refl, subst, true}
use Rattle.std.specs.Prelude.{replicate}
use Rattle.std.proofs.lemmas.Bool.{cases_lt}
use Rattle.sector_disk.specs.Trail.{Content}
use Rattle.sector_disk.specs.declared.disk.TheConstants.{SECTOR_BYTES}
use Rattle.store_layout.specs.declared.head.Head.{Head}
use Rattle.store_layout.specs.declared.layout.TheConstants.{IMAGES, JOURNAL_EVENTS, LABEL, SLOTS, STORE_SECTORS}
use Rattle.store_layout.specs.Filling.{InRange}
use Rattle.store_layout.specs.Layout.{area_at, area_start, body, gate, head, head_of, image_at, is_open, slot_gate}
use Rattle.store_layout.specs.Layout.{slot_head, IsGoodHead}
use Rattle.store_layout.specs.Meaning.{Standing, Stands, full_sectors}
use Rattle.store_layout.proofs.StandingLaws.{journal_short, journal_stays, older_stays, standing_carried}
use Rattle.past_pages.specs.Laying.{HasLaid, HasLaidHead, HasLaidSlot, IsLaying, StaysLaid}

-- the same of a content that is equal
pub laid_in : {source source' old new : Content} {base from count : ℕ} → source' ≡ source
    → (IsLaying source' base old → HasLaid source' base from count old new)
    → IsLaying source base old → HasLaid source base from count old new
laid_in {old = old} {new = new} {base = base} {from = from} {count = count} is f =
    subst (λ s. IsLaying s base old → HasLaid s base from count old new) is f

pub slot_laid_in : {source source' old new : Content} {base slot : ℕ} → source' ≡ source
    → (IsLaying source' base old → HasLaidSlot source' base slot old new)
    → IsLaying source base old → HasLaidSlot source base slot old new
slot_laid_in {old = old} {new = new} {base = base} {slot = slot} is f =
    subst (λ s. IsLaying s base old → HasLaidSlot s base slot old new) is f

module _ (source : Content) (base : ℕ) where
  pub stays_none : {c : Content} → IsLaying source base c → StaysLaid source base c c
  stays_none laying = record { laying = laying; kept = λ n low is. is }

  pub stays_both : {old mid new : Content} → StaysLaid source base old mid → StaysLaid source base mid new
      → StaysLaid source base old new
  stays_both first second = record {
    laying = second.laying;
    kept = λ n low is. second.kept n low (first.kept n low is);
  }

  pub laid_none : {c : Content} (from : ℕ) → IsLaying source base c → HasLaid source base from (from - from) c c
  laid_none from laying = record {
    stays = stays_none laying;
    laid = λ n within. absurd (omega (arith, within.0, within.1));
  }

  -- a sector more
  pub laid_more : {old mid new : Content} (from n : ℕ) → from ≤ n → n < STORE_SECTORS
      → HasLaid source base from (n - from) old mid → new n ≡ source (base + n)
      → ((k : ℕ) → k ≢ n → new k ≡ mid k) → HasLaid source base from (n + 1 - from) old new
  laid_more {old = old} {mid = mid} {new = new} from n low high was here others =
      let at : (k : ℕ) → k ≡ n → new k ≡ source (base + k) =
      λ k is. subst (λ j. new j ≡ source (base + j)) (sym is) here in
      let apart : (k : ℕ) → (k < n) ⊎ (k ≡ n) ⊎ (n < k) = λ k. elim (cases_lt k n) [
        | inl less ↦ inl less
        | inr ge ↦ elim (cases_lt n k) [
          | inl more ↦ inr (inr more)
          | inr le ↦ inr (inl (omega (arith, ge, le)))
        ]
      ] in
      record {
        stays = record {
          laying = λ k room. elim (apart k) [
            | inl less ↦ subst (λ x. (x ≡ replicate SECTOR_BYTES 0) ⊎ (x ≡ source (base + k)))
                (sym (others k (λ e. omega (arith, less, e)))) (was.stays.laying k room)
            | inr (inl is) ↦ inr (at k is)
            | inr (inr more) ↦ subst (λ x. (x ≡ replicate SECTOR_BYTES 0) ⊎ (x ≡ source (base + k)))
                (sym (others k (λ e. omega (arith, more, e)))) (was.stays.laying k room)
          ];
          kept = λ k room is. elim (apart k) [
            | inl less ↦ others k (λ e. omega (arith, less, e)) ∙ was.stays.kept k room is
            | inr (inl same) ↦ at k same
            | inr (inr more) ↦ others k (λ e. omega (arith, more, e)) ∙ was.stays.kept k room is
          ];
        };
        laid = λ k within. elim (cases_lt k n) [
          | inl less ↦ others k (λ e. omega (arith, less, e)) ∙ was.laid k (within.0, omega (arith, less, within.0))
          | inr ge ↦ at k (omega (arith, ge, within.0, within.1, low))
        ];
      }

  -- the image and the characters that a head names, where so many sectors of both were laid
  pub head_laid : {old mid new : Content} {from from' image full : ℕ} (slot : ℕ) (h : Head) → slot < SLOTS
      → IsGoodHead h
      → HasLaid source base from image old mid → from ≡ image_at slot → h.extent ≤ SECTOR_BYTES * image
      → HasLaid source base from' full mid new → from' ≡ area_start h.area → full ≡ full_sectors h.written
      → HasLaidHead source base slot h new
  head_laid slot h two good first at long second at' many = record {
    image = λ k room. second.stays.kept (image_at slot + k) (omega (arith, two, room, good.extent))
        (first.laid (image_at slot + k) (omega (arith, at), omega (arith, room, long, at)));
    area = λ k low. second.laid (area_at h.area k) (omega (arith, at'), omega (arith, low, many, at'));
  }

  pub head_stays : {mid new : Content} (slot : ℕ) (h : Head) → slot < SLOTS → IsGoodHead h
      → StaysLaid source base mid new → HasLaidHead source base slot h mid → HasLaidHead source base slot h new
  head_stays slot h two good stays was = record {
    image = λ k room. stays.kept (image_at slot + k) (omega (arith, two, room, good.extent)) (was.image k room);
    area = λ k low. stays.kept (area_at h.area k) (omega (arith, low, good.written, good.area)) (was.area k low);
  }

-- ---- what was laid shows what was shown there

module _ (c c' : Content) (t : Standing) (at : Stands STORE_SECTORS c t)
    (low : (n : ℕ) → n < IMAGES → c' n ≡ c n)
    (image : (k : ℕ) → SECTOR_BYTES * k < (head c t.slot).extent → c' (image_at t.slot + k) ≡ c (image_at t.slot + k))
    (area : (k : ℕ) → k < full_sectors (head c t.slot).written
    → c' (area_at (head c t.slot).area k) ≡ c (area_at (head c t.slot).area k)) where
  pub laid_stands : Stands STORE_SECTORS c' t
  laid_stands =
      let few = journal_short t.events c t.slot 0 (omega arith) at.journal in
      standing_carried c c' t at
      (low LABEL (omega arith))
      (ap is_open (low (slot_gate t.slot) (omega (arith, at.two))) ∙ at.live)
      (low (slot_head t.slot) (omega (arith, at.two)))
      (λ idle two opened.
      let opened_before = sym (ap is_open (low (slot_gate idle) (omega (arith, two)))) ∙ opened in
      older_stays c c' t.epoch idle (low (slot_head idle) (omega (arith, two))) (at.other idle two opened_before))
      image area
      (journal_stays t.events c c' t.slot 0 (length t.events) (omega arith)
      (λ i first last room. low (gate t.slot i) (omega (arith, at.two, room)))
      (λ i first last. low (body t.slot i) (omega (arith, at.two, last, few)))
      at.journal)

-- the whole: what stands before the images, and both slots
module _ (source : Content) (base : ℕ) {blank first second new : Content}
    (front : HasLaid source base 0 IMAGES blank first) (one : HasLaidSlot source base 0 first second)
    (other : HasLaidSlot source base 1 second new) where
  low_laid : (n : ℕ) → n < IMAGES → new n ≡ source (base + n)
  low_laid n low = other.stays.kept n (omega (arith, low))
      (one.stays.kept n (omega (arith, low)) (front.laid n (omega arith, omega (arith, low))))

  slot_laid : (slot : ℕ) → slot < SLOTS → IsGoodHead (head (λ n. source (base + n)) slot)
      → HasLaidHead source base slot (head (λ n. source (base + n)) slot) new
  slot_laid zero two good = head_stays source base 0 (head (λ n. source (base + n)) 0) two good other.stays
      (one.named good)
  slot_laid (suc zero) two good = other.named good
  slot_laid (suc (suc n)) two good = absurd (omega (arith, two))

  pub store_laid : (t : Standing) → Stands STORE_SECTORS (λ n. source (base + n)) t → Stands STORE_SECTORS new t
  store_laid t at =
      let named = slot_laid t.slot at.two at.good in
      laid_stands (λ n. source (base + n)) new t at low_laid named.image named.area
