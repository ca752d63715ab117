-- What is opened from a disk that means a desktop.
use Rattle.std.proofs.Common.{◌≡◌, inl, inr, Result, Ok, Err, IfErr}
use Rattle.sector_disk.specs.declared.disk.Disk.{Ghosts}
use Rattle.sector_disk.specs.Trail.{now}
use Rattle.desktop_definitions.specs.Desktop.{Desktop}
use Rattle.store_slots.specs.declared.error.Error.{Error}
use Rattle.store_slots.specs.Device.{result_of}
use Rattle.store_slots.specs.Errors.{OfOpen}
use Rattle.store_layout.specs.Finding.{FindsOneThing}
use Rattle.store_layout.specs.Meaning.{Means}
use Rattle.desk_journal.specs.Files.{StopsOpening}
use Rattle.desk_journal.specs.Opening.{IsNoStore, IsOpened}
use Rattle.desk_journal.specs.View.{StoreView}
use Rattle.desk_journal.proofs.Passing.{shows_means}

module _ {D : Type 0} (d : Ghosts D) (disk : D) (one : FindsOneThing (d.size disk) (now (d.trail disk)).reads) where
  -- the disk means a desktop
  abbrev IsMeant : Desktop → Type 0
  IsMeant desktop = Means (d.size disk) desktop (now (d.trail disk)).reads

  pub opened_as_meant : (store : StoreView D) → IsOpened d disk store → d.honest disk → (desktop : Desktop)
      → IsMeant desktop → store.desktop ≡ desktop
  opened_as_meant store opened honest desktop means = one.one_desktop store.desktop desktop
      (shows_means (d.size disk) store.epoch store.events store.desktop (now (d.trail disk)).reads (opened.found honest))
      means

  error_stops : (e : Error) → OfOpen e → IsNoStore d disk e → d.honest disk → (desktop : Desktop) → IsMeant desktop
      → StopsOpening e
  error_stops e (inl (inl none)) wrong honest desktop means = inl none
  error_stops e (inl (inr (inl failed))) wrong honest desktop means = inr failed
  error_stops e (inl (inr (inr foreign))) wrong honest desktop means =
      absurd (one.not_foreign desktop means (wrong.foreign foreign honest))
  error_stops e (inr (n, damaged)) wrong honest desktop means =
      absurd (one.not_damaged desktop n means (wrong.damaged n damaged honest))

  pub stops_as_meant : {A : Type 0} (r : Result A (Error × D)) → IfErr r (λ e. IsNoStore d disk e.0)
      → IfErr (result_of r) OfOpen → IfErr r (λ e. d.honest disk → (desktop : Desktop) → IsMeant desktop
      → StopsOpening e.0)
  stops_as_meant (Ok opened) wrong named = tt
  stops_as_meant (Err e) wrong named = error_stops e.0 named wrong
