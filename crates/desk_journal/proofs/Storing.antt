-- What a store knows of its disk between two calls, and how it is after them. `d` is what is known of a disk.
use Rattle.std.proofs.Common.{◌≡◌, ◌+◌, ◌/◌, ◌<◌, ◌≤◌, ℕ, inl, inr, refl, sym, ◌∙◌, ap, subst, arith, true, false}
use Rattle.command_table.specs.declared.version.Version.{Version}
use Rattle.command_table.specs.declared.version.Version.TheVariants.{V1, V2, V3}
use Rattle.command_table.specs.Versions.{version_number}
use Rattle.sector_disk.specs.declared.disk.Disk.{Ghosts}
use Rattle.sector_disk.specs.Confined.{IsConfined}
use Rattle.sector_disk.specs.Trail.{Content, Trail, now, LeavesOnly, Nowhere}
use Rattle.sector_disk.proofs.Touching.{weakened, chained, still_all}
use Rattle.event_bytes.specs.declared.event.Event.{Event}
use Rattle.desktop_definitions.specs.Desktop.{Desktop}
use Rattle.desktop_definitions.specs.Step.{step}
use Rattle.sector_disk.specs.declared.disk.TheConstants.{SECTOR_BYTES}
use Rattle.store_layout.specs.declared.layout.TheConstants.{FIRST_LAYOUT, JOURNAL_EVENTS, LAYOUT, SLOTS}
use Rattle.store_layout.specs.declared.layout.TheConstants.{STORE_SECTORS}
use Rattle.store_layout.specs.Kept.{ShowsSettled, SparesArea, chosen_area}
use Rattle.char_pages.specs.Pages.{renewed_of, saved_sectors}
use Rattle.store_layout.specs.Layout.{head}
use Rattle.store_layout.specs.Meaning.{Means, MeansEither, full_sectors}
use Rattle.store_slots.specs.declared.live.LiveDesktop.{LiveDesktop}
use Rattle.store_slots.specs.declared.place.SlotPlace.{SlotPlace}
use Rattle.store_slots.specs.Written.{ContinuesArea, IsBeside, KeepsShown, ShowsAnew}
use Rattle.desk_journal.specs.Checkpointing.{LeavesDesktop, IsRenewed}
use Rattle.store_slots.specs.Device.{IsSameDevice}
use Rattle.store_slots.specs.Live.{seen_live, IsLive, IsNamed, HasTrueCache, StaysLive}
use Rattle.desk_journal.specs.Posting.{LeavesEither, IsStarved, RecordsDone}
use Rattle.desk_journal.specs.View.{StoreView}
use Rattle.store_slots.proofs.Settling.{kept_on}

-- a version is one that there is
pub known : (version : Version) → (FIRST_LAYOUT ≤ version_number version) × (version_number version ≤ LAYOUT)
known V1 = (omega arith, omega arith)
known V2 = (omega arith, omega arith)
known V3 = (omega arith, omega arith)

-- what a store knows of its disk: room, and where it is honest what stands there
abbrev pub Knows : {D : Type 0} → Ghosts D → D → ℕ → ℕ → ℕ → ℕ → LiveDesktop → Type 0
Knows d disk slot version epoch events live = (slot < SLOTS) × (events ≤ JOURNAL_EVENTS) × (STORE_SECTORS ≤ d.size disk)
    × IsLive live × HasTrueCache d disk live
    × (d.honest disk → ShowsSettled (d.size disk) (d.trail disk) slot version epoch events
    (seen_live (now (d.trail disk)).reads live)
    × IsNamed (now (d.trail disk)).reads slot live)

-- a look
pub looked_at : {D : Type 0} (d : Ghosts D) (slot version epoch events : ℕ) (old new : D) (live live' : LiveDesktop)
    → IsConfined d.size d.honest d.trail Nowhere old new → StaysLive d old new live live'
    → Knows d old slot version epoch events live → Knows d new slot version epoch events live'
looked_at d slot version epoch events old new live live' run stays was = (
  was.0,
  was.1,
  omega (arith, was.2, run.as_large),
  stays.live,
  stays.told,
  λ honest.
      let before = run.already honest in
      let touches = run.moments before in
      let desktop = seen_live (now (d.trail old)).reads live in (
        subst (λ desktop. ShowsSettled (d.size new) (d.trail new) slot version epoch events desktop)
            (sym (stays.shown_same before))
            (subst (λ n. ShowsSettled n (d.trail new) slot version epoch events desktop) (sym run.as_large)
            (kept_on (d.size old) (d.trail old) (d.trail new) slot version epoch events desktop (was.5 before).0
            touches)),
        record {
          area_is = ap (λ (c : Content). (head c slot).area) (still_all (d.trail old) (d.trail new) touches)
              ∙ (was.5 before).1.area_is ∙ sym stays.area_same;
          named = λ not. ap (λ (c : Content). full_sectors (head c slot).written)
              (still_all (d.trail old) (d.trail new) touches)
              ∙ (was.5 before).1.named (stays.renewed_before not)
              ∙ sym (ap (λ n. n / SECTOR_BYTES) (stays.place_same not));
        },
      ),
)

-- what a checkpoint writes isn't named by the head of the slot in use
spared : (c : Content) (slot : ℕ) (live : LiveDesktop) (place : SlotPlace) → IsLive live → IsNamed c slot live
    → ContinuesArea place live → SparesArea (head c slot) place.area place.saved
spared c slot live place is named goes here = (elim (renewed_of live.pages) as
    (λ b. renewed_of live.pages ≡ b → chosen_area b live.area ≡ live.area → full_sectors (head c slot).written
    ≤ place.saved) [
      | true ↦ λ anew other. absurd (omega (arith, other, is.low))
      | false ↦ λ not same. omega (arith, named.named not, goes.saved_is)
    ]) refl (sym goes.area_is ∙ sym here ∙ named.area_is)

-- where a checkpoint of it goes
pub goes_by : {place : SlotPlace} {live : LiveDesktop} → place.area ≡ chosen_area (renewed_of live.pages) live.area
    → place.saved ≡ saved_sectors live.pages → ContinuesArea place live
goes_by area saved = record { area_is = area; saved_is = saved }

-- What the disk shows stands beside the place where the checkpoint of a desktop goes, whatever that desktop is: its
-- characters go on where those end that the head names.
pub beside : {size : ℕ} {disk : Trail} {slot version epoch events : ℕ} {shown : Desktop} (place : SlotPlace)
    (live : LiveDesktop) → ShowsSettled size disk slot version epoch events shown → IsLive live
    → IsNamed (now disk).reads slot live → slot + place.slot ≡ 1 → epoch + 1 ≡ place.epoch → ContinuesArea place live
    → IsBeside place size disk slot version epoch events shown
beside {disk = disk} {slot = slot} place live kept is named two next goes = record {
  two = two;
  next = next;
  kept = kept;
  spares = spared (now disk).reads slot live place is named goes;
}

-- a checkpoint that is done: the disk shows the desktop by the other slot
pub renewed_kept : {D : Type 0} (d : Ghosts D) (slot version epoch events : ℕ) (old new : D) (live live' : LiveDesktop)
    (place : SlotPlace) → Knows d old slot version epoch events live → IsSameDevice d old new → slot + place.slot ≡ 1
    → epoch + 1 ≡ place.epoch → ContinuesArea place live
    → ShowsAnew d place old new (seen_live (now (d.trail new)).reads live')
    → d.honest new
    → ShowsSettled (d.size new) (d.trail new) place.slot LAYOUT place.epoch 0 (seen_live (now (d.trail new)).reads live')
renewed_kept d slot version epoch events old new live live' place was device two next goes renewed honest =
    let before = device.already honest in
    let stood = was.5 before in
    subst (λ n. ShowsSettled n (d.trail new) place.slot LAYOUT place.epoch 0 (seen_live (now (d.trail new)).reads live'))
    (sym device.as_large)
    (renewed before slot version epoch events _ (beside place live stood.0 was.3 stood.1 two next goes))

-- where both are the same, either is that
pub same_either : {size : ℕ} {desktop : Desktop} {old new : Trail} → LeavesOnly old new (MeansEither size desktop desktop)
    → LeavesOnly old new (Means size desktop)
same_either run = weakened run (λ c either. elim either [
  | inl means ↦ means
  | inr means ↦ means
])

-- at each moment of a checkpoint, done or not
pub renewed_moments : {D : Type 0} (d : Ghosts D) (slot version epoch events : ℕ) (old new : D) (live : LiveDesktop)
    (place : SlotPlace) → Knows d old slot version epoch events live → slot + place.slot ≡ 1
    → epoch + 1 ≡ place.epoch → ContinuesArea place live → KeepsShown d place live old new → d.honest old
    → LeavesOnly (d.trail old) (d.trail new) (Means (d.size old) (seen_live (now (d.trail old)).reads live))
renewed_moments d slot version epoch events old new live place was two next goes moments honest =
    let stood = was.5 honest in
    same_either (moments honest slot version epoch events _ (beside place live stood.0 was.3 stood.1 two next goes))

-- a checkpoint, and then the rest of a post
module _ {D : Type 0} (d : Ghosts D) (event : Event) (old mid new : StoreView D) (first : LeavesDesktop d old mid)
    (renewed : IsRenewed d old mid) (device : IsSameDevice d old.disk mid.disk) where
  pub renewed_then : LeavesEither d event mid new → LeavesEither d event old new
  renewed_then second = λ usable honest.
      chained (weakened (first usable honest) (λ c means. inl means))
      (subst (λ n. LeavesOnly (d.trail mid.disk) (d.trail new.disk)
      (MeansEither n old.desktop (step old.desktop event).desktop)) device.as_large
      (subst (λ desktop. LeavesOnly (d.trail mid.disk) (d.trail new.disk)
      (MeansEither (d.size mid.disk) desktop (step desktop event).desktop)) (renewed.desktop honest)
      (second renewed.usable (device.still honest))))

  pub renewed_starved : IsStarved d mid new → IsStarved d old new
  renewed_starved starved = record {
    unrecorded = λ usable honest.
        chained (first usable honest)
        (subst (λ n. LeavesOnly (d.trail mid.disk) (d.trail new.disk) (Means n old.desktop)) device.as_large
        (subst (λ desktop. LeavesOnly (d.trail mid.disk) (d.trail new.disk) (Means (d.size mid.disk) desktop))
        (renewed.desktop honest) (starved.unrecorded renewed.usable (device.still honest))));
    closed = starved.closed;
  }

  pub renewed_recorded : RecordsDone d event mid new → RecordsDone d event old new
  renewed_recorded second = λ usable honest. elim (second renewed.usable (device.still honest)) [
    | inl unrecorded ↦ inl (chained (first usable honest)
        (subst (λ n. LeavesOnly (d.trail mid.disk) (d.trail new.disk) (Means n old.desktop)) device.as_large
        (subst (λ desktop. LeavesOnly (d.trail mid.disk) (d.trail new.disk) (Means (d.size mid.disk) desktop))
        (renewed.desktop honest) unrecorded)))
    | inr done ↦ inr (done ∙ ap (λ desktop. (step desktop event).desktop) (renewed.desktop honest))
  ]
