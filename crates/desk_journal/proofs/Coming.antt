-- Documents that come into a store, when something was written behind it. `d` is what is known of a disk.
use Rattle.std.proofs.Common.{◌≡◌, inl, inr, ◌+◌, ◌-◌, ◌<◌, ◌≤◌, ℕ, List, sym, ◌∙◌, ap, subst, arith, false}
use Rattle.std.specs.Prelude.{get_or}
use Rattle.sector_disk.specs.declared.disk.Disk.{Ghosts}
use Rattle.sector_disk.specs.Confined.{IsConfined}
use Rattle.sector_disk.specs.Stored.{HoldsBytes}
use Rattle.sector_disk.specs.Trail.{Content, Nowhere, Trail, now, LeavesOnly}
use Rattle.sector_disk.proofs.Touching as touching
use Rattle.sector_disk.proofs.Touching.{chained, spared, still_reads, weakened}
use Rattle.desktop_definitions.specs.Desktop.{Desktop}
use Rattle.document_filing.specs.Bringing.{Documents, brought_in}
use Rattle.store_layout.specs.declared.layout.TheConstants.{LAYOUT, STORE_SECTORS}
use Rattle.store_layout.specs.Filling.{InRange}
use Rattle.store_layout.specs.Finding.{StandingLaw}
use Rattle.store_layout.specs.Kept.{ShowsSettled, SparesArea}
use Rattle.store_layout.specs.Layout.{head_of, slot_head}
use Rattle.store_layout.specs.Meaning.{MeansEither, Standing, Stands, desktop_of}
use Rattle.store_slots.specs.Device.{StaysWithin}
use Rattle.store_slots.specs.declared.live.LiveDesktop.{LiveDesktop}
use Rattle.store_slots.specs.declared.place.SlotPlace.{SlotPlace}
use Rattle.store_slots.specs.Live.{seen_live, IsLive, IsLiveAnew}
use Rattle.store_slots.specs.Written.{IsAnew, IsBeside, KeepsEither, KeepsShown, anew_from}
use Rattle.store_slots.proofs.Staying.{live_stays, shown_stays}
use Rattle.desk_journal.specs.Behind.{KeepsWith, StandsWith, brought_from}
use Rattle.desk_journal.proofs.Aside.{aside_behind, next_with, shown_is, stands_behind}
use Rattle.desk_journal.proofs.Storing.{Knows}

-- two facts of each image
both_leave : {P Q : Content → Type 0} {old new : Trail} → LeavesOnly old new P → LeavesOnly old new Q
    → LeavesOnly old new (λ c. P c × Q c)
both_leave first second = record {
  later = first.later;
  kept = first.kept;
  each = λ t above below c image. (first.each t above below c image, second.each t above below c image);
}

-- `mid` is the disk when the bytes are written behind the store.
module _ {D : Type 0} (d : Ghosts D) {old mid : D} {from : ℕ} (limit : ℕ) (far : STORE_SECTORS ≤ from)
    (run : IsConfined d.size d.honest d.trail (InRange from limit) old mid) where
  below : d.honest old → (n : ℕ) → n < STORE_SECTORS → (now (d.trail mid)).reads n ≡ (now (d.trail old)).reads n
  below honest n low = still_reads (d.trail old) (d.trail mid) (run.moments honest) n
      (λ within. omega (arith, within.0, low, far))

  module _ (honest : d.honest old) (place : SlotPlace) {live version number count : ℕ} {before : Desktop}
      (was : IsBeside place (d.size old) (d.trail old) live version number count before) where
    -- until then each image shows what the disk showed
    stands_still : LeavesOnly (d.trail old) (d.trail mid) (λ c. Stands (d.size old) c was.kept.standing)
    stands_still = spared (λ c. Stands (d.size old) c was.kept.standing) was.kept.settled.quiet (run.moments honest)
        (λ c same. stands_behind (now (d.trail old)).reads c was.kept.standing was.kept.settled.stands
        (λ n low. same n (λ within. omega (arith, within.0, low, far))))

    pub shown_still : (after : Desktop)
        → LeavesOnly (d.trail old) (d.trail mid) (MeansEither (d.size old) before after)
    shown_still after = weakened stands_still (λ c stands. inl (was.kept.standing, stands, was.kept.is))

    pub with_still : (t : Standing) (bytes : List ℕ)
        → LeavesOnly (d.trail old) (d.trail mid) (StandsWith (d.size old) was.kept.standing t from bytes)
    with_still t bytes = weakened stands_still (λ c stands. inr stands)

    -- and what is beside the place stands there
    abbrev beside_on : ((n : ℕ) → (now (d.trail mid)).pending n ≡ false)
        → IsBeside place (d.size mid) (d.trail mid) live version number count before
    beside_on quiet = record {
      two = was.two;
      next = was.next;
      kept = record {
        standing = was.kept.standing;
        settled = record {
          quiet = quiet;
          stands = subst (λ n. Stands n (now (d.trail mid)).reads was.kept.standing) (sym run.as_large)
              (stands_behind (now (d.trail old)).reads (now (d.trail mid)).reads was.kept.standing
              was.kept.settled.stands (below honest));
        };
        slot = was.kept.slot;
        version_is = was.kept.version_is;
        epoch = was.kept.epoch;
        events = was.kept.events;
        is = was.kept.is;
      };
      spares = subst (λ b. SparesArea (head_of b) place.area place.saved)
          (sym (below honest (slot_head live) (omega (arith, was.two)))) was.spares;
    }

  seen_same : (desktop : LiveDesktop) → IsLive desktop → d.honest old
      → seen_live (now (d.trail mid)).reads desktop ≡ seen_live (now (d.trail old)).reads desktop
  seen_same desktop is honest = shown_stays (d.trail old) (d.trail mid) desktop (run.moments honest)
      (aside_behind desktop from limit is far)

  -- then the desktop comes to its place
  module _ (desktop : LiveDesktop) (is : IsLive desktop) (place : SlotPlace)
      (quiet : d.honest old → (n : ℕ) → (now (d.trail mid)).pending n ≡ false) {new : D} where
    pub shown_then : KeepsShown d place desktop mid new → KeepsShown d place desktop old new
    shown_then moments honest live version number count before was =
        chained (shown_still honest place was (seen_live (now (d.trail old)).reads desktop))
        (subst (λ (x : ℕ × Desktop). LeavesOnly (d.trail mid) (d.trail new) (MeansEither x.0 before x.1))
        (λ i. (run.as_large i, seen_same desktop is honest i))
        (moments (run.still honest) live version number count before
        (beside_on honest place was (quiet honest))))

    -- the bytes stay
    module _ (bytes : List ℕ) (held : d.honest old → HoldsBytes (now (d.trail mid)).reads from bytes)
        (within : StaysWithin d mid new) where
      stay_held : d.honest old → LeavesOnly (d.trail mid) (d.trail new) (λ c. HoldsBytes c from bytes)
      stay_held honest = spared (λ c. HoldsBytes c from bytes) (quiet honest) (within.moments (run.still honest))
          (λ c same k j low small. ap (λ b. get_or b j 0)
          (same (from + k) (λ store. omega (arith, far, store))) ∙ held honest k j low small)

      pub held_then : d.honest old → HoldsBytes (now (d.trail new)).reads from bytes
      held_then honest = touching.at_last (stay_held honest) (now (d.trail new)).reads
          (touching.read_is_an_image (now (d.trail new)))

      pub with_then : KeepsEither d place desktop mid new → KeepsWith d place from bytes desktop old new
      with_then keeps honest live version number count before was =
          chained (with_still honest place was _ bytes)
          (subst (λ (x : ℕ × Desktop). LeavesOnly (d.trail mid) (d.trail new)
          (StandsWith x.0 was.kept.standing (anew_from was.kept.standing place.slot place.past x.1) from bytes))
          (λ i. (run.as_large i, seen_same desktop is honest i))
          (weakened (both_leave (keeps.standings (run.still honest) live version number count before
          (beside_on honest place was (quiet honest))) (stay_held honest))
          (λ c x. elim x.0 [
            | inl anew ↦ inl (anew, x.1)
            | inr still ↦ inr still
          ])))

    pub anew_then : {seen : Desktop} → IsAnew d place desktop mid new seen → IsAnew d place desktop old new seen
    anew_then {seen = seen} done = record {
      shown = λ honest live version number count before was.
          subst (λ n. ShowsSettled n (d.trail new) place.slot LAYOUT place.epoch 0 seen) run.as_large
          (done.shown (run.still honest) live version number count before
          (beside_on honest place was (quiet honest)));
      stands = λ honest live version number count before was.
          subst (λ (x : ℕ × Desktop). Stands x.0 (now (d.trail new)).reads
          (anew_from was.kept.standing place.slot place.past x.1)) (λ i. (run.as_large i, seen_same desktop is honest i))
          (done.stands (run.still honest) live version number count before
          (beside_on honest place was (quiet honest)));
      beside = λ honest live version number count before was.
          done.beside (run.still honest) live version number count before
          (beside_on honest place was (quiet honest));
    }

    pub live_then : {slot : ℕ} {desktop' : LiveDesktop} → IsLiveAnew d slot mid new desktop desktop'
        → IsLiveAnew d slot old new desktop desktop'
    live_then left = record {
      live = left.live;
      told = λ told. left.told (live_stays d desktop run (aside_behind desktop from limit is far) told);
      named = λ honest. left.named (run.still honest);
      shown = λ honest. left.shown (run.still honest) ∙ seen_same desktop is honest;
    }

-- ---- documents: `mid` is the disk, to which nothing was written, when the desktop with them is in memory

module _ {D : Type 0} (d : Ghosts D) {slot version epoch events : ℕ} {old mid : D} {live : LiveDesktop}
    (law : StandingLaw) (was : Knows d old slot version epoch events live) (honest : d.honest old) (s : Standing)
    (at : Stands (d.size old) (now (d.trail old)).reads s)
    (run : IsConfined d.size d.honest d.trail Nowhere old mid) (from : ℕ) (bytes : List ℕ) where
  -- nothing was written
  pub looked_with : (t : Standing) → LeavesOnly (d.trail old) (d.trail mid) (StandsWith (d.size old) s t from bytes)
  looked_with t = spared (StandsWith (d.size old) s t from bytes) (was.5 honest).0.settled.quiet (run.moments honest)
      (λ c same. inr (subst (λ x. Stands (d.size old) x s) (sym (λ i n. same n (λ none. none) i)) at))

  module _ (live' : LiveDesktop) (documents : Documents)
      (done : seen_live (now (d.trail mid)).reads live'
      ≡ (brought_in (seen_live (now (d.trail old)).reads live) documents).desktop)
      (place : SlotPlace)
      (b : IsBeside place (d.size mid) (d.trail mid) slot version epoch events
      (seen_live (now (d.trail old)).reads live))
      (other : place.slot ≡ 1 - slot) where
    at_mid : Stands (d.size mid) (now (d.trail mid)).reads s
    at_mid = subst (λ n. Stands n (now (d.trail mid)).reads s) (sym run.as_large)
        (subst (λ c. Stands (d.size old) c s)
        (sym (touching.still_all (d.trail old) (d.trail mid) (run.moments honest))) at)

    done_there : seen_live (now (d.trail mid)).reads live' ≡ (brought_in (desktop_of s) documents).desktop
    done_there = done ∙ ap (λ x. (brought_in x documents).desktop) (shown_is d law was honest s at)

    pub brought_with : {new : D} → KeepsWith d place from bytes live' mid new
        → LeavesOnly (d.trail old) (d.trail new)
        (StandsWith (d.size old) s (brought_from place.past documents s) from bytes)
    brought_with {new = new} keeps = chained (looked_with (brought_from place.past documents s))
        (subst (λ n. LeavesOnly (d.trail mid) (d.trail new)
        (StandsWith n s (brought_from place.past documents s) from bytes)) run.as_large
        (subst (λ (x : Desktop). LeavesOnly (d.trail mid) (d.trail new)
        (StandsWith (d.size mid) s (anew_from s (1 - s.slot) place.past x) from bytes)) done_there
        (next_with d live' law (run.still honest) s at_mid place b other from bytes new keeps)))

-- nothing was done
pub still_with : {D : Type 0} (d : Ghosts D) {slot version epoch events : ℕ} {old : D} {live : LiveDesktop}
    → Knows d old slot version epoch events live → (honest : d.honest old) (s : Standing)
    → Stands (d.size old) (now (d.trail old)).reads s → (from : ℕ) (bytes : List ℕ) (t : Standing)
    → LeavesOnly (d.trail old) (d.trail old) (StandsWith (d.size old) s t from bytes)
still_with d {old = old} was honest s at from bytes t =
    spared (StandsWith (d.size old) s t from bytes) (was.5 honest).0.settled.quiet
    (touching.stays_put Nowhere (d.trail old))
    (λ c same. inr (subst (λ x. Stands (d.size old) x s) (sym (λ i n. same n (λ none. none) i)) at))
