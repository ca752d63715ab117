-- Calls of a store on two disks, said of the legs.
use Rattle.std.specs.Prelude.{◌++◌, ◌≡◌, ℕ, List, [], false}
use Rattle.sector_disk.specs.declared.disk.Disk.{Ghosts}
use Rattle.sector_disk.specs.Trail.{now, Leaves, LeavesOnly}
use Rattle.event_bytes.specs.declared.event.Event.{Event}
use Rattle.desktop_definitions.specs.Desktop.{Desktop}
use Rattle.desktop_definitions.specs.Step.{step}
use Rattle.store_layout.specs.Meaning.{Means, MeansEither}
use Rattle.desk_journal.specs.Prefixes.{MeansPrefix}
use Rattle.desk_journal.specs.Session.{session_of}
use Rattle.desk_journal.specs.View.{StoreView}
use Rattle.oberon_main.specs.Play.{PlayState}
use Rattle.oberon_main.specs.Surviving.{ScriptSurvives, accepted_of_lines}
use Rattle.twin_disk.specs.declared.twin.TwinDisk.{TwinDisk}
use Rattle.twin_disk.specs.Choosing.{GoesOn}
use Rattle.twin_disk.specs.Survival.{twin_size, twin_moments, HasHonestLegs}
use Rattle.twin_store.specs.Legs.{LegsLeave, LegsLeaveOnly, LegsLeaveSince}

module _ {A B : Type 0} {a : Ghosts A} {b : Ghosts B} where
  -- ---- a post

  -- the desktop before the event, or the one after it
  abbrev pub LegsMeanEither : Event → StoreView (TwinDisk A B a b) → StoreView (TwinDisk A B a b)
      → Type 0
  LegsMeanEither event old new = GoesOn old.disk new.disk → old.must_reopen ≡ false
      → HasHonestLegs old.disk
      → LegsLeaveOnly old.disk new.disk
      (MeansEither (twin_size old.disk) old.desktop (step old.desktop event).desktop)

  abbrev pub NotedLegsMeanEither : Event → StoreView (TwinDisk A B a b)
      → StoreView (TwinDisk A B a b) → Type 0
  NotedLegsMeanEither event old new = old.must_reopen ≡ false → HasHonestLegs old.disk
      → LegsLeaveSince (twin_moments old.disk).clock new.disk
      (MeansEither (twin_size old.disk) old.desktop (step old.desktop event).desktop)

  -- from now on the one after it
  abbrev pub LegsMeanAfter : Event → StoreView (TwinDisk A B a b) → StoreView (TwinDisk A B a b)
      → Type 0
  LegsMeanAfter event old new = HasHonestLegs old.disk
      → LegsLeave new.disk (Means (twin_size old.disk) (step old.desktop event).desktop)

  -- ---- an opening

  -- what a crash would have left before is left
  abbrev pub LegsKeepMeaning : TwinDisk A B a b → TwinDisk A B a b → Type 0
  LegsKeepMeaning old new = GoesOn old new → HasHonestLegs old → (desktop : Desktop)
      → Leaves (now (twin_moments old)) (Means (twin_size old) desktop)
      → LegsLeaveOnly old new (Means (twin_size old) desktop)

  -- the legs mean what the store shows
  abbrev pub LegsShow : StoreView (TwinDisk A B a b) → Type 0
  LegsShow store = HasHonestLegs store.disk
      → LegsLeave store.disk (Means (twin_size store.disk) store.desktop)

  -- ---- whatever leaves a prefix of events

  -- Between two states of a store a crash leaves legs that mean the desktop after a prefix of these events, and at the second
  -- of them one that holds every event that was acknowledged.
  pub record TwinKeeps (desktop : Desktop) (acknowledged events : List Event)
      (old new : StoreView (TwinDisk A B a b)) : Type 0 where
    pub any_moment : GoesOn old.disk new.disk → LegsLeaveOnly old.disk new.disk
        (MeansPrefix (twin_size old.disk) desktop [] events)
    pub at_last : twin_size new.disk ≡ twin_size old.disk
        → LegsLeave new.disk (MeansPrefix (twin_size old.disk) desktop acknowledged events)

abbrev pub TwinsKeep : {A B : Type 0} → Ghosts A → Ghosts B → Type 0
TwinsKeep {A = A} {B = B} a b = (desktop : Desktop) (acknowledged events : List Event)
    (old new : StoreView (TwinDisk A B a b)) → HasHonestLegs old.disk → HasHonestLegs new.disk
    → LeavesOnly (twin_moments old.disk) (twin_moments new.disk)
    (MeansPrefix (twin_size old.disk) desktop [] events)
    → Leaves (now (twin_moments new.disk))
    (MeansPrefix (twin_size old.disk) desktop acknowledged events)
    → TwinKeeps desktop acknowledged events old new

-- the events of the lines of a script, and at the end those of the lines that were answered; `d` is what is known of a twin
abbrev pub TwinScriptsSurvive : {A B : Type 0} {a : Ghosts A} {b : Ghosts B}
    → Ghosts (TwinDisk A B a b) → Type 0
TwinScriptsSurvive {A = A} {B = B} {a = a} {b = b} d = (script : List ℕ)
    (old new : PlayState (TwinDisk A B a b)) → HasHonestLegs old.store.disk
    → HasHonestLegs new.store.disk
    → (left : ScriptSurvives d script old new)
    → TwinKeeps old.store.desktop (accepted_of_lines (session_of old.store) left.answered)
    (accepted_of_lines (session_of old.store) (left.answered ++ left.begins.0))
    old.store new.store
