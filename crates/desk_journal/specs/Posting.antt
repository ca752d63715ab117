-- What a post promises, outcome by outcome. `d` is what is known of a disk.
use Rattle.std.specs.Prelude.{◌≡◌, ◌⊎◌, ◌<◌, ◌≤◌, ◌+◌, true, false, Result, IfOk, IsErrOf}
use Rattle.sector_disk.specs.declared.disk.Disk.{Ghosts}
use Rattle.sector_disk.specs.Trail.{LeavesOnly}
use Rattle.sector_disk.specs.Faults.{FailsAs}
use Rattle.event_bytes.specs.declared.event.Event.{Event}
use Rattle.desktop_definitions.specs.declared.reply.Reply.{Reply}
use Rattle.desktop_definitions.specs.Step.{step}
use Rattle.desktop_definitions.specs.Stepped.{IsStep}
use Rattle.store_slots.specs.declared.error.Error.{Error}
use Rattle.store_slots.specs.declared.error.Error.TheVariants.{NoMemory, Fault, MustReopen, Worn}
use Rattle.store_layout.specs.declared.layout.TheConstants.{JOURNAL_EVENTS, LAST_EPOCH, LAYOUT}
use Rattle.store_slots.specs.Device.{IsSameDevice, StaysWithin}
use Rattle.store_slots.specs.Errors.{OfPost}
use Rattle.store_layout.specs.Meaning.{Means, MeansEither}
use Rattle.desk_journal.specs.View.{StoreView, IsDurable}

-- an error that comes exactly in one state of the store, and changes nothing of store and disk
pub record TurnsAway {D : Type 0} (refused when : Type 0) (old new : StoreView D) : Type 0 where
  pub only : refused → when
  pub always : when → refused
  pub unchanged : refused → new ≡ old

-- Fault: the event may be in an image, and the store must be opened again
abbrev pub IsBroken : {D : Type 0} → StoreView D → Type 0
IsBroken new = new.must_reopen ≡ true

-- no epoch comes after that of the slot in use
abbrev pub IsLast : {D : Type 0} → StoreView D → Type 0
IsLast store = (store.must_reopen ≡ false) × (store.epoch ≡ LAST_EPOCH)

-- a checkpoint is due before the next event: the journal has room for no more, or the slot in use has another version
-- than the newest
abbrev pub IsDueBefore : {D : Type 0} → StoreView D → Type 0
IsDueBefore store = (JOURNAL_EVENTS ≤ store.events) ⊎ ¬ (store.layout ≡ LAYOUT)

-- the journal has room, and the slot in use has the newest version
abbrev pub HasJournalRoom : {D : Type 0} → StoreView D → Type 0
HasJournalRoom store = (store.events < JOURNAL_EVENTS) × (store.layout ≡ LAYOUT)

-- Worn: a checkpoint is due, and the epoch is the last one
abbrev pub AnswersWorn : {D : Type 0} → Result Reply Error → StoreView D → StoreView D → Type 0
AnswersWorn answer old new = TurnsAway (IsErrOf answer Worn) (IsLast old × IsDueBefore old) old new

-- MustReopen: after NoMemory or Fault of an earlier post, or Fault of an earlier checkpoint
abbrev pub AnswersMustReopen : {D T : Type 0} → Result T Error → StoreView D → StoreView D → Type 0
AnswersMustReopen answer old new =
    TurnsAway (IsErrOf answer MustReopen) (old.must_reopen ≡ true) old new

module _ {D : Type 0} (d : Ghosts D) where
  -- A call that may write, whatever it returns: MustReopen changes nothing, Fault comes exactly where a failure was
  -- counted, each error is one of the call's, and the device stays what it was past the sectors of a store.
  pub record Behaves {T : Type 0} (OfCall : Error → Type 0) (answer : Result T Error)
      (old new : StoreView D)
      : Type 0 where
    pub reopen : AnswersMustReopen answer old new
    pub faults : FailsAs Fault OfCall answer (d.failures old.disk) (d.failures new.disk)
    pub device : IsSameDevice d old.disk new.disk
    pub within : StaysWithin d old.disk new.disk

  -- at every moment of the call a crash leaves the desktop from before it or the one after the event
  abbrev pub LeavesEither : Event → StoreView D → StoreView D → Type 0
  LeavesEither event old new = old.must_reopen ≡ false → d.honest old.disk
      → LeavesOnly (d.trail old.disk) (d.trail new.disk)
      (MeansEither (d.size old.disk) old.desktop (step old.desktop event).desktop)

  -- Ok: the event is acknowledged, whatever the reply
  pub record IsAcknowledged (event : Event) (reply : Reply) (old new : StoreView D) : Type 0 where
    -- it was stepped by the newest version
    pub stepped : IsStep (d.honest old.disk) LAYOUT event old.kept new.kept old.desktop new.desktop
        reply
    -- from now on a crash leaves that desktop
    pub durable : IsDurable d new
    -- the journal has one event more, or, where a checkpoint was due, is a new one with this event
    pub more : HasJournalRoom old → (new.epoch ≡ old.epoch) × (new.events ≡ old.events + 1)
    pub anew : IsDueBefore old → (new.epoch ≡ old.epoch + 1) × (new.events ≡ 1)
    -- and is one of the newest version
    pub layout : new.layout ≡ LAYOUT
    pub usable : new.must_reopen ≡ false

  -- NoMemory: the event is in no image, and the store must be opened again
  pub record IsStarved (old new : StoreView D) : Type 0 where
    pub unrecorded : old.must_reopen ≡ false → d.honest old.disk
        → LeavesOnly (d.trail old.disk) (d.trail new.disk) (Means (d.size old.disk) old.desktop)
    pub closed : new.must_reopen ≡ true

  -- the event is in no image, or the store has done it: none is recorded that failed while it was done
  abbrev pub RecordsDone : Event → StoreView D → StoreView D → Type 0
  RecordsDone event old new = old.must_reopen ≡ false → d.honest old.disk
      → LeavesOnly (d.trail old.disk) (d.trail new.disk) (Means (d.size old.disk) old.desktop)
      ⊎ (new.desktop ≡ (step old.desktop event).desktop)

  -- All that a post of the event promises where it returns this.
  pub record IsPosted (event : Event) (answer : Result Reply Error) (old new : StoreView D)
      : Type 0 where
    pub any_moment : LeavesEither event old new
    pub ok : IfOk answer (λ reply. IsAcknowledged event reply old new)
    pub memory : IsErrOf answer NoMemory → IsStarved old new
    pub fault : IsErrOf answer Fault → IsBroken new
    pub worn : AnswersWorn answer old new
    pub behaves : Behaves OfPost answer old new
