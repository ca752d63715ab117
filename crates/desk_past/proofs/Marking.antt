-- A mark that is written behind the page of an epoch. `d` is what is known of a disk.
use Rattle.std.proofs.Common.{◌≡◌, inl, inr, ◌≤◌, ℕ, sym, ◌∙◌, ap, subst, arith, false}
use Rattle.sector_disk.specs.declared.disk.Disk.{Ghosts}
use Rattle.sector_disk.specs.Trail.{Leaves, Moment, now}
use Rattle.sector_disk.proofs.Touching.{at_last, read_is_an_image}
use Rattle.desktop_definitions.specs.Desktop.{Desktop}
use Rattle.store_layout.specs.Finding.{StandingLaw}
use Rattle.store_layout.specs.Meaning.{Shows, Standing, Stands, desktop_of}
use Rattle.store_slots.specs.Device.{IsSameDevice}
use Rattle.desk_journal.specs.Checkpointing.{LeavesDesktop}
use Rattle.desk_journal.specs.Undoing.{ShowsStanding}
use Rattle.desk_journal.specs.View.{StoreView}
use Rattle.desk_past.specs.Writing.{LiesUpTo, WritesOnly}
use Rattle.desk_past.proofs.Sparing.{but_then, but_wider}

-- what a store shows is the desktop to which the deeds of its past led
pub shown_desktop : {size version number count : ℕ} {was : Desktop} (m : Moment) (s : Standing) → StandingLaw
    → Leaves m (Shows size version number count was) → Stands size m.reads s → was ≡ desktop_of s
shown_desktop {size = size} m s law leaves at =
    let shows = leaves m.reads (read_is_an_image m) in
    sym shows.is ∙ ap desktop_of (law size m.reads shows.standing s shows.stands at)

module _ {D : Type 0} (d : Ghosts D) where
  -- a call that writes up to an end, and one that writes from a sector on behind the one that the head tells, up to it
  pub only_then_from : {old mid : StoreView D} (new : StoreView D) (end from : ℕ) → IsSameDevice d old.disk mid.disk
      → (old.must_reopen ≡ false → mid.must_reopen ≡ false) → LeavesDesktop d old mid
      → (d.honest old.disk → (s : Standing) → ShowsStanding d old s → s.past.next ≤ from)
      → WritesOnly d (LiesUpTo end) old mid → WritesOnly d (λ _. LiesUpTo end from) mid new
      → WritesOnly d (LiesUpTo end) old new
  only_then_from {old = old} {mid = mid} new end from device in_use moments later first second = record {
    spared = λ s at. record {
      moments = λ usable honest.
          let means = at_last (moments usable honest) (now (d.trail mid.disk)).reads
          (read_is_an_image (now (d.trail mid.disk))) in
          let shows : ShowsStanding d mid means.0 =
          subst (λ n. Stands n (now (d.trail mid.disk)).reads means.0) (sym device.as_large) means.1 in
          (but_then d _ {old = old} {mid = mid} new device (in_use usable) (first.spared s at)
          (but_wider d _ (λ _ n either. elim either [
            | inl low ↦ inl low
            | inr there ↦ inr (omega (arith, there.0, later honest s at), there.1)
          ]) (second.spared means.0 shows))).moments usable honest;
    };
  }
