-- A store that comes to show another desktop, whose characters go to the area that isn't in use. `d` is what is known
-- of a disk.
use Rattle.std.proofs.Common.{◌≡◌, ◌+◌, ◌-◌, ℕ, List, Bool, Result, Ok, Err, IfErr, IsErrOf, inl, inr, refl, sym, ◌∙◌, ap}
use Rattle.std.proofs.Common.{subst, arith, true, false}
use Rattle.sector_disk.specs.declared.disk.Disk.{Ghosts}
use Rattle.sector_disk.specs.Confined.{IsConfined}
use Rattle.sector_disk.specs.Faults.{FailsAs}
use Rattle.sector_disk.specs.Trail.{Content, Nowhere, now, LeavesOnly}
use Rattle.sector_disk.proofs.Touching.{stays_put}
use Rattle.char_pages.specs.Pages.{rest_of}
use Rattle.desktop_definitions.specs.Desktop.{Desktop}
use Rattle.desktop_definitions.specs.Seen.{seen}
use Rattle.store_layout.specs.declared.layout.TheConstants.{LAYOUT}
use Rattle.store_layout.specs.Finding.{StandingLaw}
use Rattle.store_layout.specs.Kept.{ShowsSettled, chosen_area}
use Rattle.store_layout.specs.Meaning.{MeansEither, Standing, Stands}
use Rattle.store_slots.specs.Beside.{StandsBeside}
use Rattle.store_slots.specs.Device.{IsOnlyRead, IsSameDevice}
use Rattle.store_slots.specs.declared.error.Error.{Error}
use Rattle.store_slots.specs.declared.error.Error.TheVariants.{Fault, MustReopen, Worn}
use Rattle.store_slots.specs.Errors.{OfCheckpoint, OfDesktop, OfLook}
use Rattle.store_slots.specs.Gathering.{IsInMemory}
use Rattle.store_slots.specs.Live.{seen_live, HasTrueCache, StaysLive}
use Rattle.store_slots.specs.Written.{ContinuesArea, IsBeside, KeepsShown, LeavesBeside, ShowsAnew, StandsAnew}
use Rattle.store_slots.specs.declared.live.LiveDesktop.{LiveDesktop}
use Rattle.store_slots.specs.declared.place.SlotPlace.{SlotPlace}
use Rattle.store_slots.proofs.Gathered.{none_paged}
use Rattle.desk_journal.specs.Behind.{BehavesBehind, KeepsWith, StandsWith, turned_from}
use Rattle.desk_journal.specs.Gathering.{LetsGo}
use Rattle.desk_journal.specs.Looking.{OnlyLooks}
use Rattle.desk_journal.specs.View.{StoreView}
use Rattle.desk_journal.proofs.Aside.{next_former, next_shows, next_with}
use Rattle.desk_journal.proofs.Storing.{Knows}
use Rattle.desk_journal.proofs.Undoing.{as_look}

-- ---- nothing was done, or nothing was written

untouched : {D : Type 0} (d : Ghosts D) (area : ℕ → Type 0) (disk : D)
    → IsConfined d.size d.honest d.trail area disk disk
untouched d area disk = record {
  as_large = refl;
  still = λ h. h;
  already = λ h. h;
  moments = λ honest. stays_put area (d.trail disk);
}

pub only_read : {D : Type 0} (d : Ghosts D) {old new : D} → IsConfined d.size d.honest d.trail Nowhere old new
    → IsOnlyRead d old new
only_read d run = record {
  device = record { as_large = run.as_large; still = run.still; already = run.already };
  unwritten = λ honest.
      let touches = run.moments honest in
      record {
        later = touches.later;
        kept = touches.kept;
        each = λ t above below c image n quiet. image n (touches.settled t above below n (λ none. none) quiet)
            ∙ touches.reads t above below n (λ none. none);
      };
}

-- a store that is to be opened again turns to nothing, and is let go for nothing
pub closed_still : {D T : Type 0} (d : Ghosts D) (from limit : ℕ) (store : StoreView D) → store.must_reopen ≡ true
    → BehavesBehind d {T = T} OfCheckpoint from limit (Err MustReopen) store store
closed_still d from limit store closed = record {
  reopen = record { only = λ is. closed; always = λ is. refl; unchanged = λ is. refl };
  faults = record { rose = λ is. absurd (cc is); calm = λ is. refl; errors = inr (inl refl) };
  device = record { as_large = refl; still = λ h. h; already = λ h. h };
  within = untouched d _ store.disk;
}

pub closed_let_go : {D T : Type 0} (d : Ghosts D) (store : StoreView D) → LetsGo {T = T} d (Err MustReopen) store
closed_let_go d store = record {
  disk = store.disk;
  read = only_read d (untouched d Nowhere store.disk);
  faults = record { rose = λ is. absurd (cc is); calm = λ is. refl; errors = inr (inr refl) };
}

-- nor is it looked at
pub closed_look : {D T : Type 0} (d : Ghosts D) (store : StoreView D) → store.must_reopen ≡ true
    → OnlyLooks {T = T} d (Err MustReopen) store store
closed_look d store closed = record {
  desktop = λ honest. refl;
  kept = refl;
  layout = refl;
  epoch = refl;
  events = refl;
  usable = refl;
  disk = only_read d (untouched d Nowhere store.disk);
  reopen = (λ is. closed, λ is. refl);
  faults = record { rose = λ is. absurd (cc is); calm = λ is. refl; errors = inr (inr refl) };
}

-- what a desktop in memory answers doesn't say that its store is to be opened again
never_closed : {T : Type 0} (result : Result T Error) → IfErr result OfDesktop → IsErrOf result MustReopen → ⊥
never_closed (Ok value) stops is = absurd (cc is)
never_closed (Err e) (inl memory) is = absurd (cc (memory, is))
never_closed (Err e) (inr fault) is = absurd (cc (fault, is))

-- a store of such a desktop, as it is seen
abbrev pub view_of : {D : Type 0} → Ghosts D → ℕ → ℕ → ℕ → Bool → D → LiveDesktop → StoreView D
view_of d layout epoch events closed disk live = record {
  disk = disk;
  desktop = seen_live (now (d.trail disk)).reads live;
  kept = live.desktop;
  layout = layout;
  epoch = epoch;
  events = events;
  must_reopen = closed;
}

-- where its desktop was looked at, so was the store
pub looked_only : {D T : Type 0} (d : Ghosts D) (layout epoch events : ℕ) (closed : Bool) (result : Result T Error)
    (disk disk' : D) (live live' : LiveDesktop) → closed ≡ false
    → IsConfined d.size d.honest d.trail Nowhere disk disk' → StaysLive d disk disk' live live'
    → FailsAs Fault OfDesktop result (d.failures disk) (d.failures disk')
    → OnlyLooks d result (view_of d layout epoch events closed disk live)
    (view_of d layout epoch events closed disk' live')
looked_only d layout epoch events closed result disk disk' live live' usable run stays faults = record {
  desktop = stays.shown_same;
  kept = stays.kept_same;
  layout = refl;
  epoch = refl;
  events = refl;
  usable = refl;
  disk = only_read d run;
  reopen = (
    λ is. absurd (never_closed result faults.errors is),
    λ shut. absurd (cc (sym usable ∙ shut)),
  );
  faults = record { rose = faults.rose; calm = faults.calm; errors = as_look result faults.errors };
}

-- nor does one whose epoch is the last one
pub worn_still : {D T : Type 0} (d : Ghosts D) (from limit : ℕ) (store : StoreView D) → store.must_reopen ≡ false
    → BehavesBehind d {T = T} OfCheckpoint from limit (Err Worn) store store
worn_still d from limit store usable = record {
  reopen = record {
    only = λ is. absurd (cc is);
    always = λ closed. absurd (cc (sym usable ∙ closed));
    unchanged = λ is. refl;
  };
  faults = record { rose = λ is. absurd (cc is); calm = λ is. refl; errors = inr (inr refl) };
  device = record { as_large = refl; still = λ h. h; already = λ h. h };
  within = untouched d _ store.disk;
}

-- ---- a desktop that rests on no disk

-- a gathered desktop shows its characters in memory, whatever a disk reads
pub shown_gathered : (c : Content) (live : LiveDesktop) → IsInMemory live
    → seen_live c live ≡ seen (rest_of live.pages) live.desktop
shown_gathered c live is = ap (λ l. seen l live.desktop) (none_paged c live.pages is.none_saved)

-- and has nothing in memory of any disk
pub cache_gathered : {D : Type 0} (d : Ghosts D) {disk : D} (live : LiveDesktop) → IsInMemory live
    → HasTrueCache d disk live
cache_gathered d live is = record { pages = λ honest. is.empty.told _; lines = λ honest. is.empty.lines _ }

-- its characters begin an area
pub begins_area : {place : SlotPlace} {live : LiveDesktop} → IsInMemory live → live.area ≡ place.area → place.saved ≡ 0
    → ContinuesArea place live
begins_area {place = place} {live = live} is area none = record {
  area_is = sym area ∙ ap (λ b. chosen_area b live.area) (sym is.here);
  saved_is = omega (arith, none, is.none_saved);
}

-- `live` is what the store shows, and `to` the desktop that comes to the place.
module _ {D : Type 0} (d : Ghosts D) {slot version epoch events : ℕ} {old : D} {live : LiveDesktop}
    (was : Knows d old slot version epoch events live) (to : LiveDesktop) {shows : Desktop}
    (same : (c : Content) → seen_live c to ≡ shows) (place : SlotPlace) (other : place.slot ≡ 1 - slot)
    (next : epoch + 1 ≡ place.epoch) (area : place.area ≡ 1 - live.area) where
  abbrev shown : Desktop
  shown = seen_live (now (d.trail old)).reads live

  -- the head of the slot in use names the other area
  beside_turned : d.honest old → IsBeside place (d.size old) (d.trail old) slot version epoch events shown
  beside_turned honest = record {
    two = omega (arith, other, was.0);
    next = next;
    kept = (was.5 honest).0;
    spares = λ here. absurd (omega (arith, here, area, (was.5 honest).1.area_is, was.3.low));
  }

  -- at each moment of the turn
  pub turned_moments : {new : D} → KeepsShown d place to old new → d.honest old
      → LeavesOnly (d.trail old) (d.trail new) (MeansEither (d.size old) shown shows)
  turned_moments {new = new} moments honest =
      subst (λ (x : Desktop). LeavesOnly (d.trail old) (d.trail new) (MeansEither (d.size old) shown x))
      (same (now (d.trail old)).reads)
      (moments honest slot version epoch events shown (beside_turned honest))

  -- when it is done
  pub turned_kept : {new : D} {seen_now : Desktop} → IsSameDevice d old new → ShowsAnew d place old new seen_now
      → d.honest new → ShowsSettled (d.size new) (d.trail new) place.slot LAYOUT place.epoch 0 seen_now
  turned_kept {new = new} {seen_now = seen_now} device anew honest =
      let before = device.already honest in
      subst (λ n. ShowsSettled n (d.trail new) place.slot LAYOUT place.epoch 0 seen_now) (sym device.as_large)
      (anew before slot version epoch events shown (beside_turned before))

  -- by what stands on the disk
  module _ (law : StandingLaw) (honest : d.honest old) (s : Standing)
      (at : Stands (d.size old) (now (d.trail old)).reads s) where
    pub turned_with : (from : ℕ) (bytes : List ℕ) {new : D} → KeepsWith d place from bytes to old new
        → LeavesOnly (d.trail old) (d.trail new)
        (StandsWith (d.size old) s (turned_from place.past shows s) from bytes)
    turned_with from bytes {new = new} keeps =
        subst (λ (x : Desktop). LeavesOnly (d.trail old) (d.trail new)
        (StandsWith (d.size old) s (turned_from place.past x s) from bytes)) (same (now (d.trail old)).reads)
        (next_with d to law honest s at place (beside_turned honest) other from bytes new keeps)

    pub turned_shows : {new : D} → IsSameDevice d old new → StandsAnew d place to old new
        → Stands (d.size new) (now (d.trail new)).reads (turned_from place.past shows s)
    turned_shows {new = new} device stands =
        subst (λ (x : ℕ × Desktop). Stands x.0 (now (d.trail new)).reads (turned_from place.past x.1 s))
        (λ i. (sym device.as_large i, same (now (d.trail old)).reads i))
        (next_shows d to law honest s at place (beside_turned honest) other new stands)

    pub turned_former : {new : D} → LeavesBeside d place old new
        → StandsBeside (now (d.trail new)).reads (1 - s.slot) s
    turned_former {new = new} leaves =
        next_former d to law honest s at place (beside_turned honest) other new leaves
