-- Documents that come into a store: first the desktop in memory is another one, and then its checkpoint is written.
use Rattle.std.proofs.Common.{◌≡◌, ◌+◌, ℕ, inl, sym, ap, subst, arith}
use Rattle.sector_disk.specs.declared.disk.Disk.{Ghosts}
use Rattle.sector_disk.specs.Confined.{IsConfined}
use Rattle.sector_disk.specs.Trail.{now, LeavesOnly, Nowhere}
use Rattle.sector_disk.proofs.Touching.{weakened, chained}
use Rattle.desktop_definitions.specs.declared.reply.Reply.{Reply}
use Rattle.desktop_definitions.specs.declared.reply.Reply.TheVariants.{No}
use Rattle.desktop_definitions.specs.Desktop.{Desktop}
use Rattle.desktop_definitions.specs.Step.{Outcome, outcome_of}
use Rattle.document_filing.specs.Bringing.{Documents, brought_in}
use Rattle.document_filing.proofs.BringingLaws.{refused_same}
use Rattle.store_layout.specs.declared.layout.TheConstants.{LAYOUT}
use Rattle.store_layout.specs.Kept.{ShowsSettled}
use Rattle.store_layout.specs.Meaning.{Means, MeansEither}
use Rattle.store_slots.specs.declared.live.LiveDesktop.{LiveDesktop}
use Rattle.store_slots.specs.declared.place.SlotPlace.{SlotPlace}
use Rattle.store_slots.specs.Device.{IsSameDevice}
use Rattle.store_slots.specs.Live.{seen_live, IsLive, IsNamed, HasTrueCache}
use Rattle.store_slots.specs.Written.{ContinuesArea, IsBeside, KeepsShown, ShowsAnew}
use Rattle.store_slots.proofs.Settling.{at_start, kept_on, kept_shows, means_on, shows_means}
use Rattle.desk_journal.proofs.Storing.{Knows, beside}

-- `old` is the disk, `live` the desktop that it shows; `mid` the disk, to which nothing was written, when `live'` is in
-- memory.
module _ {D : Type 0} (d : Ghosts D) (slot version epoch events : ℕ) (old mid : D) (live live' : LiveDesktop)
    (was : Knows d old slot version epoch events live) (run : IsConfined d.size d.honest d.trail Nowhere old mid)
    (named : (n : ℕ) → d.honest old → IsNamed (now (d.trail old)).reads n live
    → IsNamed (now (d.trail mid)).reads n live') where
  abbrev shown : Desktop
  shown = seen_live (now (d.trail old)).reads live

  -- the disk shows what it showed
  still_kept : d.honest old → ShowsSettled (d.size old) (d.trail mid) slot version epoch events shown
  still_kept honest = kept_on (d.size old) (d.trail old) (d.trail mid) slot version epoch events shown
      (was.5 honest).0 (run.moments honest)

  -- until now each image means that
  means_still : d.honest old → LeavesOnly (d.trail old) (d.trail mid) (Means (d.size old) shown)
  means_still honest = means_on (d.size old) (d.trail old) (d.trail mid) slot version epoch events shown
      (was.5 honest).0 (run.moments honest)

  pub none_yet : (after : Desktop) → d.honest old
      → LeavesOnly (d.trail old) (d.trail mid) (MeansEither (d.size old) shown after)
  none_yet after honest = weakened (means_still honest) (λ c means. inl means)

  -- No: in memory is what the disk shows
  pub refused_knows : IsLive live' → HasTrueCache d mid live'
      → (d.honest old → seen_live (now (d.trail mid)).reads live' ≡ shown)
      → Knows d mid slot version epoch events live'
  refused_knows is told same = (
    was.0,
    was.1,
    omega (arith, was.2, run.as_large),
    is,
    told,
    λ honest. let before = run.already honest in (
      subst (λ (x : Desktop). ShowsSettled (d.size mid) (d.trail mid) slot version epoch events x) (sym (same before))
          (subst (λ n. ShowsSettled n (d.trail mid) slot version epoch events shown) (sym run.as_large)
          (still_kept before)),
      named slot before (was.5 before).1,
    ),
  )

  -- Done: its checkpoint goes beside what the disk shows
  module _ (place : SlotPlace) (is : IsLive live') (two : slot + place.slot ≡ 1) (next : epoch + 1 ≡ place.epoch)
      (goes : ContinuesArea place live') where
    pub stands_beside : d.honest old → IsBeside place (d.size mid) (d.trail mid) slot version epoch events shown
    stands_beside honest =
        subst (λ n. IsBeside place n (d.trail mid) slot version epoch events shown) (sym run.as_large)
        (beside place live' (still_kept honest) is (named slot honest (was.5 honest).1) two next goes)

    pub all_or_none : (new : D) (after : Desktop) → KeepsShown d place live' mid new
        → d.honest old → seen_live (now (d.trail mid)).reads live' ≡ after
        → LeavesOnly (d.trail old) (d.trail new) (MeansEither (d.size old) shown after)
    all_or_none new after moments honest same =
        chained (none_yet after honest)
        (subst (λ n. LeavesOnly (d.trail mid) (d.trail new) (MeansEither n shown after)) run.as_large
        (subst (λ (x : Desktop). LeavesOnly (d.trail mid) (d.trail new) (MeansEither (d.size mid) shown x)) same
        (moments (run.still honest) slot version epoch events shown (stands_beside honest))))

    pub brought_kept : (new : D) (shown_now : Desktop) → IsSameDevice d mid new → ShowsAnew d place mid new shown_now
        → d.honest new → ShowsSettled (d.size new) (d.trail new) place.slot LAYOUT place.epoch 0 shown_now
    brought_kept new shown_now device renewed honest =
        let middle = device.already honest in
        let before = run.already middle in
        subst (λ n. ShowsSettled n (d.trail new) place.slot LAYOUT place.epoch 0 shown_now) (sym device.as_large)
        (renewed middle slot version epoch events shown (stands_beside before))

-- what the desktop in memory is, by its reply
pub brought_desktop : {now : Desktop} (old : Desktop) (documents : Documents) {reply : Reply}
    → outcome_of now reply ≡ brought_in old documents → now ≡ (brought_in old documents).desktop
brought_desktop old documents is = ap (λ (o : Outcome). o.desktop) is

-- a refusal leaves it
pub refused_shown : {now old : Desktop} (documents : Documents) {reply : Reply} {code : ℕ} → reply ≡ No code
    → outcome_of now reply ≡ brought_in old documents → now ≡ old
refused_shown {now} {old} documents {reply} {code} refused is = refused_same old now documents code
    (subst (λ (r : Reply). outcome_of now r ≡ brought_in old documents) refused is)

-- before anything is done each image means what the disk shows
pub stays_shown : {D : Type 0} (d : Ghosts D) (slot version epoch events : ℕ) (disk : D) (live : LiveDesktop)
    → Knows d disk slot version epoch events live → (after : Desktop) → d.honest disk
    → LeavesOnly (d.trail disk) (d.trail disk)
    (MeansEither (d.size disk) (seen_live (now (d.trail disk)).reads live) after)
stays_shown d slot version epoch events disk live was after honest =
    let shown = seen_live (now (d.trail disk)).reads live in
    at_start (d.trail disk) (MeansEither (d.size disk) shown after) (λ c image. inl
    (shows_means {version = version} (d.size disk) epoch events shown c
    (kept_shows (d.size disk) (d.trail disk) slot version epoch events shown (was.5 honest).0 c image)))
