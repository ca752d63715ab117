-- Reads of a store, one after another, and what they give. `d` is what is known of a disk.
use Rattle.std.proofs.Common.{◌≡◌, ◌≤◌, ℕ, ◌++◌, length, drop, refl, sym, ◌∙◌, ap}
use Rattle.std.proofs.Common.{subst, arith, true, false, Bool, Ok, Err, inl, inr}
use Rattle.std.specs.Prelude.{Result}
use Rattle.std.proofs.lemmas.List.{take-append-drop}
use Rattle.sector_disk.specs.declared.disk.Disk.{Ghosts}
use Rattle.sector_disk.specs.Stored.{HoldsBytes, stored}
use Rattle.sector_disk.specs.Trail.{Content, Trail, now, IsCrashImage, LeavesOnly}
use Rattle.sector_disk.proofs.StoredLaws.{stored_held, take-stored}
use Rattle.sector_disk.proofs.Touching.{at_last, chained, read_is_an_image, weakened}
use Rattle.store_slots.specs.Device.{IsOnlyRead}
use Rattle.store_slots.specs.declared.error.Error.{Error}
use Rattle.store_slots.specs.declared.error.Error.TheVariants.{MustReopen}
use Rattle.store_layout.proofs.Bits.{true_or_false}
use Rattle.desk_journal.specs.Looking.{OnlyLooks}
use Rattle.store_layout.specs.declared.layout.TheConstants.{STORE_SECTORS}
use Rattle.store_layout.specs.Meaning.{Standing, Stands}
use Rattle.desk_journal.specs.Undoing.{IsLeft, ShowsStanding}
use Rattle.desk_journal.specs.View.{StoreView}
use Rattle.past_pages.specs.Page.{Page, page_bytes}
use Rattle.past_pages.specs.Reading.{IsOnlyReadFrom, IsQuiet}

pub nothing_written : (t : Trail) → LeavesOnly t t (IsCrashImage (now t))
nothing_written t = record {
  later = omega arith;
  kept = λ n le. refl;
  each = λ n above below c image.
      let same : n ≡ t.clock = omega (arith, above, below) in subst (λ k. IsCrashImage (t.at k) c) same image;
}

module _ {D : Type 0} (d : Ghosts D) where
  pub read_twice : {old mid new : D} → IsOnlyRead d old mid → IsOnlyRead d mid new → IsOnlyRead d old new
  read_twice first second = record {
    device = record {
      as_large = second.device.as_large ∙ first.device.as_large;
      still = λ honest. second.device.still (first.device.still honest);
      already = λ honest. first.device.already (second.device.already honest);
    };
    unwritten = λ honest. let before = first.unwritten honest in
        chained before (weakened (second.unwritten (first.device.still honest)) (at_last before));
  }

  pub still_none : (store : StoreView D) → store.must_reopen ≡ false → IsOnlyReadFrom d store store
  still_none store usable = record {
    left = record {
      desktop = λ honest. refl;
      kept = refl;
      layout = refl;
      epoch = refl;
      events = refl;
      disk = record {
        device = record { as_large = refl; still = λ h. h; already = λ h. h };
        unwritten = λ honest. nothing_written (d.trail store.disk);
      };
    };
    usable = usable;
  }

  pub still_looked : {T : Type 0} {old mid new : StoreView D} (result : Result T Error) → IsOnlyReadFrom d old mid
      → OnlyLooks d result mid new → IsOnlyReadFrom d old new
  still_looked result so_far look = record {
    left = record {
      desktop = λ honest. look.desktop (so_far.left.disk.device.still honest) ∙ so_far.left.desktop honest;
      kept = look.kept ∙ so_far.left.kept;
      layout = look.layout ∙ so_far.left.layout;
      epoch = look.epoch ∙ so_far.left.epoch;
      events = look.events ∙ so_far.left.events;
      disk = read_twice so_far.left.disk look.disk;
    };
    usable = look.usable ∙ so_far.usable;
  }

  pub still_both : {old mid new : StoreView D} → IsOnlyReadFrom d old mid → IsOnlyReadFrom d mid new
      → IsOnlyReadFrom d old new
  still_both first second = record {
    left = record {
      desktop = λ honest. second.left.desktop (first.left.disk.device.still honest) ∙ first.left.desktop honest;
      kept = second.left.kept ∙ first.left.kept;
      layout = second.left.layout ∙ first.left.layout;
      epoch = second.left.epoch ∙ first.left.epoch;
      events = second.left.events ∙ first.left.events;
      disk = read_twice first.left.disk second.left.disk;
    };
    usable = second.usable;
  }

  pub still_left : {old mid new : StoreView D} → IsOnlyReadFrom d old mid → IsLeft d mid new
      → new.must_reopen ≡ mid.must_reopen → IsOnlyReadFrom d old new
  still_left first left same = still_both first (record { left = left; usable = same ∙ first.usable })

  -- a look at a store that is in use, and reads behind it
  pub read_behind : {T : Type 0} {old mid new : StoreView D} (result : Result T Error) → OnlyLooks d result old mid
      → IsOnlyReadFrom d mid new → old.must_reopen ≡ false → IsOnlyReadFrom d old new
  read_behind {old = old} result look still usable =
      still_both (still_looked result (still_none old usable) look) still

  -- what is read stays
  pub still_reads : {old new : StoreView D} → IsOnlyReadFrom d old new → IsQuiet d old → d.honest old.disk
      → (now (d.trail new.disk)).reads ≡ (now (d.trail old.disk)).reads
  still_reads {old = old} {new = new} still quiet honest = λ i n.
      at_last (still.left.disk.unwritten honest) (now (d.trail new.disk)).reads
      (read_is_an_image (now (d.trail new.disk))) n (quiet n) i

-- a content shows the same on a disk of another size
pub resized : {size : ℕ} (size' : ℕ) (c : Content) (s : Standing) → STORE_SECTORS ≤ size' → Stands size c s
    → Stands size' c s
resized size' c s large was = record {
  large = large;
  label = was.label;
  two = was.two;
  live = was.live;
  good = was.good;
  version = was.version;
  epoch = was.epoch;
  past = was.past;
  other = was.other;
  image = was.image;
  journal = was.journal;
}

pub still_shows : {D : Type 0} (d : Ghosts D) {old new : StoreView D} → IsOnlyReadFrom d old new → IsQuiet d old
    → d.honest old.disk → (s : Standing) → ShowsStanding d old s → ShowsStanding d new s
still_shows d {old = old} {new = new} still quiet honest s at =
    subst (λ (x : ℕ × Content). Stands x.0 x.1 s)
    (λ i. (sym still.left.disk.device.as_large i, sym (still_reads d still quiet honest) i)) at

-- a page that stands there begins what is stored
pub page_there : (c : Content) (at n : ℕ) (p : Page) → HoldsBytes c at (page_bytes p) → length (page_bytes p) ≤ n
    → stored c at n ≡ page_bytes p ++ drop (length (page_bytes p)) (stored c at n)
page_there c at n p held le =
    sym (take-append-drop (length (page_bytes p)) (stored c at n))
    ∙ ap (λ x. x ++ drop (length (page_bytes p)) (stored c at n))
    (take-stored c at n (length (page_bytes p)) le ∙ stored_held c at (page_bytes p) held)

-- a call that says MustReopen of a store that must be opened again, and returned Ok
pub usable_of : {X : Type 0} (must : Bool) {answer : Result X Error} {x : X}
    → (must ≡ true → answer ≡ Err MustReopen) → answer ≡ Ok x → must ≡ false
usable_of must {answer = answer} {x = x} closed ok = elim (true_or_false must) [
  | inl is ↦ absurd (let wrong : ⊥ = cc (closed is, ok) in wrong)
  | inr is ↦ is
]
