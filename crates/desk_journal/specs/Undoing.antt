-- What taking the last events back promises, outcome by outcome. `d` is what is known of a disk.
use Rattle.std.specs.Prelude.{◌≡◌, ◌⊎◌, ◌+◌, ◌<◌, ◌≤◌, ℕ, List, [], length, false}
use Rattle.sector_disk.specs.declared.disk.Disk.{Ghosts}
use Rattle.sector_disk.specs.Confined.{IsConfined}
use Rattle.sector_disk.specs.Trail.{now, LeavesOnly}
use Rattle.event_bytes.specs.declared.event.Event.{Event}
use Rattle.desktop_definitions.specs.Step.{steps}
use Rattle.store_layout.specs.declared.layout.TheConstants.{LAYOUT}
use Rattle.store_layout.specs.Meaning.{Standing, Stands, desktop_of, and_all, and_then}
use Rattle.store_slots.specs.declared.error.Error.{Error}
use Rattle.store_slots.specs.Beside.{InUndo, IsRest, NothingBefore, StandsOneOf}
use Rattle.store_slots.specs.Device.{IsOnlyRead}
use Rattle.store_slots.specs.Errors.{OfLook, OfOpen}
use Rattle.desk_journal.specs.Posting.{HasJournalRoom}
use Rattle.desk_journal.specs.View.{StoreView, IsDurable}

-- Over a disk that isn't honest the errors of an opening come too, since the desktop is worked out anew.
abbrev pub OfUndo : Error → Type 0
OfUndo e = OfLook e ⊎ OfOpen e

module _ {D : Type 0} (d : Ghosts D) where
  -- the disk of the store shows this standing
  abbrev pub ShowsStanding : StoreView D → Standing → Type 0
  ShowsStanding store s = Stands (d.size store.disk) (now (d.trail store.disk)).reads s

  -- Ok of a post: where the event stands on the disk
  pub record IsAdded (event : Event) (old new : StoreView D) : Type 0 where
    -- behind events that lead to the desktop from before it
    pub behind : d.honest old.disk → (s : Standing) × ShowsStanding new (and_then s event)
        × (desktop_of s ≡ old.desktop)
    -- and, where no checkpoint was due, behind all that the disk showed
    pub more : d.honest old.disk → HasJournalRoom old → (s : Standing) → ShowsStanding old s
        → ShowsStanding new (and_then s event)

  -- From the one state of the disk to the other a crash leaves what the disk showed, or the rest of it, where these events are taken
  -- back. No sector is touched but the gate of the first of them, and, where that stands in the slot beside the one in use,
  -- the gate of the slot in use.
  pub record LeavesRest (events : List Event) (s rest : Standing) (old new : D) : Type 0 where
    pub is_rest : IsRest (now (d.trail old)).reads events s rest
    pub any_moment : LeavesOnly (d.trail old) (d.trail new) (StandsOneOf (d.size old) s rest)
    pub gates : IsConfined d.size d.honest d.trail (InUndo s.slot rest.slot
        (length rest.events)) old new

  -- At every moment of the call a crash leaves what the disk showed before it, or the rest of it without its last events, at
  -- most so many. Nothing else on the disk changes but two gates at most.
  abbrev pub LeavesUndone : ℕ → StoreView D → StoreView D → Type 0
  LeavesUndone count old new = old.must_reopen ≡ false → d.honest old.disk → (s : Standing)
      → ShowsStanding old s
      → (events : List Event) × (rest : Standing) × (length events ≤ count)
      × LeavesRest events s rest old.disk new.disk

  -- The disk showed this, and these events were the last that led there. Now the disk shows the rest of it, and the store
  -- the desktop of that.
  pub record IsWithout (events : List Event) (s rest : Standing) (old new : StoreView D)
      : Type 0 where
    pub leaves : LeavesRest events s rest old.disk new.disk
    pub left : ShowsStanding new rest
    pub desktop : new.desktop ≡ desktop_of rest

  -- Nothing was written: the store is in use, and shows what it showed.
  pub record IsLeft (old new : StoreView D) : Type 0 where
    pub desktop : d.honest old.disk → new.desktop ≡ old.desktop
    pub kept : new.kept ≡ old.kept
    pub layout : new.layout ≡ old.layout
    pub epoch : new.epoch ≡ old.epoch
    pub events : new.events ≡ old.events
    pub disk : IsOnlyRead d old.disk new.disk

  -- Ok: these events were the last, and are taken back
  pub record IsTakenBack (count : ℕ) (events : List Event) (old new : StoreView D) : Type 0 where
    pub back : d.honest old.disk → (s : Standing) → ShowsStanding old s → (rest : Standing)
        × IsWithout events s rest old new
    -- from now on a crash leaves the rest
    pub durable : IsDurable d new
    -- as many as were asked for, or fewer, where no more are left in the journal in use
    pub few : length events ≤ count
    pub as_many : (length events ≡ count) ⊎ (new.events ≡ 0)
    -- those of the journal in use, and then those of the one before
    pub own : count ≤ old.events → (new.epoch ≡ old.epoch)
        × (new.events + length events ≡ old.events)
    pub other : old.events < count → (new.epoch ≡ old.epoch) × (new.events ≡ 0)
        × (length events ≡ old.events)
        ⊎ (new.epoch + 1 ≡ old.epoch) × (old.events < length events)
    -- where it has fewer, it stays in use only if nothing came before it
    pub crosses : d.honest old.disk → (s : Standing) → ShowsStanding old s → old.events < count
        → new.epoch ≡ old.epoch → NothingBefore (now (d.trail old.disk)).reads s
    pub layout : new.layout ≡ old.layout
    pub usable : new.must_reopen ≡ false
    -- where there was none nothing is written
    pub none : events ≡ [] → IsLeft old new

-- ---- posts, and then undos

-- From the one store to the other these events came, and stand behind what the disk showed.
pub record IsBehind {D : Type 0} (d : Ghosts D) (events : List Event) (old new : StoreView D)
    : Type 0 where
  pub still : d.honest old.disk → d.honest new.disk
  pub layout : new.layout ≡ LAYOUT
  pub count : new.events ≡ old.events + length events
  pub versions : d.honest old.disk → (s : Standing) → ShowsStanding d old s → s.version ≡ LAYOUT
  pub at : d.honest old.disk → (s : Standing) → ShowsStanding d old s
      → ShowsStanding d new (and_all s events)
  pub desktop : d.honest old.disk → (s : Standing) → ShowsStanding d old s
      → new.desktop ≡ desktop_of (and_all s events)

-- from the one store to the other these events were posted
pub record IsLedOn {D : Type 0} (d : Ghosts D) (events : List Event) (old new : StoreView D)
    : Type 0 where
  pub still : d.honest old.disk → d.honest new.disk
  pub desktop : d.honest old.disk → new.desktop ≡ steps old.desktop events
