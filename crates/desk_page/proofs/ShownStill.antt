-- A page whose past is forgotten, or stays, shows what it showed.
use Rattle.std.proofs.Common.{◌≡◌, ◌∙◌, ap, arith, refl, subst, sym, false, length}
use Rattle.sector_disk.specs.declared.disk.Disk.{Ghosts}
use Rattle.sector_disk.specs.Trail.{LeavesOnly, now}
use Rattle.store_layout.specs.Finding.{ShowingLaw}
use Rattle.store_layout.specs.Meaning.{Means, Shows}
use Rattle.desk_journal.specs.Checkpointing.{LeavesDesktop}
use Rattle.desk_journal.specs.View.{StoreView, IsDurable}
use Rattle.desk_past.specs.Beginning.{AreUncounted}
use Rattle.desk_past.specs.Forgetting.{HasForgotten}
use Rattle.past_pages.specs.Parts.{HasParts}
use Rattle.page_disks.specs.Recording.{Recording}
use Rattle.page_disks.specs.contracts.disk.RecordedDiskDisk.TheImpl.{ghosts}
use Rattle.desk_page.specs.Forgetting.{Forgets, KeepsItsPast}
use Rattle.desk_page.specs.Looks.{seated_anew}
use Rattle.desk_page.specs.Turns.{HostPage, IsHanded}
use Rattle.desk_page.specs.declared.scene.Scene.{Scene}

-- What a crash leaves at the last moment is what both show.
pub shows_still : {D : Type 0} (d : Ghosts D) (law : ShowingLaw) (old new : StoreView D)
    → d.size new.disk ≡ d.size old.disk → d.honest new.disk
    → LeavesOnly (d.trail old.disk) (d.trail new.disk) (Means (d.size old.disk) old.desktop)
    → IsDurable d new → new.desktop ≡ old.desktop
shows_still d law old new size honest leaves durable =
    let means : Means (d.size old.disk) old.desktop (now (d.trail new.disk)).reads =
    leaves.each (d.trail new.disk).clock leaves.later (omega arith) (now (d.trail new.disk)).reads (λ n calm. refl) in
    (law (d.size old.disk) (now (d.trail new.disk)).reads means.0.version means.0.epoch (length means.0.events) new.layout
    new.epoch new.events old.desktop new.desktop
    (record {
      standing = means.0;
      stands = means.1;
      version_is = refl;
      epoch = refl;
      events = refl;
      is = means.2;
    })
    (subst (λ n. Shows n new.layout new.epoch new.events new.desktop (now (d.trail new.disk)).reads) size
    (durable honest (now (d.trail new.disk)).reads (λ n calm. refl)))).0

module _ (law : ShowingLaw) (old : HostPage) (store : StoreView Recording) (usable : old.store.must_reopen ≡ false)
    (size : store.disk.size ≡ old.store.disk.size) (moments : LeavesDesktop ghosts old.store store)
    (durable : IsDurable ghosts store) where
  same_desktop : store.desktop ≡ old.store.desktop
  same_desktop = shows_still ghosts law old.store store size tt (moments usable tt) durable

  pub forgets : (again after : HostPage) (scene : Scene) → HasForgotten ghosts old.store store → again.store ≡ store
      → again.sitting ≡ seated_anew old.sitting → again.parser ≡ old.parser → IsHanded ghosts again after scene
      → Forgets ghosts old after scene
  forgets again after scene forgotten is sitting parser handed = record {
    page = again;
    any_moment = subst (LeavesDesktop ghosts old.store) (sym is) moments;
    forgotten = subst (HasForgotten ghosts old.store) (sym is) forgotten;
    desktop = ap (λ (s : StoreView Recording). s.desktop) is ∙ same_desktop;
    sitting = sitting;
    parser = parser;
    handed_over = handed;
  }

  pub keeps_past : (after : HostPage) → (HasParts old.store.disk.size → AreUncounted ghosts old.store)
      → store.must_reopen ≡ false → after.store ≡ store → after.sitting ≡ old.sitting → after.parser ≡ old.parser
      → KeepsItsPast ghosts old after
  keeps_past after refused in_use is sitting parser = record {
    any_moment = subst (LeavesDesktop ghosts old.store) (sym is) moments;
    refused = refused;
    desktop = ap (λ (s : StoreView Recording). s.desktop) is ∙ same_desktop;
    usable = ap (λ (s : StoreView Recording). s.must_reopen) is ∙ in_use;
    sitting = sitting;
    parser = parser;
  }
