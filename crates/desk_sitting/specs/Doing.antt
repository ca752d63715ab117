-- Presses that are done over a store, one after another. `d` is what is known of a disk.
use Rattle.std.specs.Prelude.{◌≡◌, ◌≤◌, false, List, [], ◌∷◌, ◌++◌, length, Bool, Result, OnOk, IfOk, IfErr}
use Rattle.sector_disk.specs.declared.disk.Disk.{Ghosts}
use Rattle.sector_disk.specs.Faults.{FailsAs, OneOf}
use Rattle.sector_disk.specs.Trail.{now, Leaves, LeavesOnly}
use Rattle.event_bytes.specs.declared.event.Event.{Event}
use Rattle.desktop_definitions.specs.Desktop.{Desktop}
use Rattle.desktop_definitions.specs.Step.{steps}
use Rattle.store_layout.specs.Meaning.{Means, MeansEither}
use Rattle.desk_journal.specs.Device.{IsSameDevice}
use Rattle.desk_journal.specs.Errors.{Error, NoMemory, Fault}
use Rattle.desk_journal.specs.Prefixes.{MeansPrefix}
use Rattle.desk_journal.specs.View.{StoreView, IsDurable}
use Rattle.past_pages.specs.Reading.{IsOnlyReadFrom}
use Rattle.terminal_presses.specs.declared.action.Action.{Action}
use Rattle.terminal_presses.specs.declared.press.Press.{Press}
use Rattle.desk_sitting.specs.declared.sitting.Sitting.{Sitting}
use Rattle.desk_journal.specs.Session.{session_of}
use Rattle.desk_sitting.specs.Desk.{Desk, Seat}
use Rattle.desk_sitting.specs.Pasts.{PostsOn, PostsUpTo}
use Rattle.desk_sitting.specs.Sittings.{accepted_as, done_by, does}

abbrev pub seat_of : {D : Type 0} → Sitting → StoreView D → Seat
seat_of s store = record { sitting = s; session = session_of store }

-- why presses are not done
abbrev pub OfPresses : Error → Type 0
OfPresses = OneOf (NoMemory ∷ Fault ∷ [])

module _ {D : Type 0} (d : Ghosts D) where
  -- ---- an event

  -- It has come to this seat. At every moment between a crash leaves the desktop before it or the one after it, and
  -- from then on the one after it.
  pub record IsDone (next : Seat) (s' : Sitting) (old new : StoreView D) : Type 0 where
    pub seat : seat_of s' new ≡ next
    pub any_moment : LeavesOnly (d.trail old.disk) (d.trail new.disk)
        (MeansEither (d.size old.disk) old.desktop new.desktop)
    pub durable : IsDurable d new
    pub device : IsSameDevice d old.disk new.disk

  -- It was to lead to this desktop, and fails. After a fault the event may be in an image, and for want of memory it is in
  -- none.
  pub record IsUndone (error : Error) (next : Desktop) (old new : StoreView D) : Type 0 where
    pub any_moment : LeavesOnly (d.trail old.disk) (d.trail new.disk)
        (MeansEither (d.size old.disk) old.desktop next)
    pub starved : error ≡ NoMemory
        → LeavesOnly (d.trail old.disk) (d.trail new.disk) (Means (d.size old.disk) old.desktop)
    pub device : IsSameDevice d old.disk new.disk

  -- All that a call promises that is to come to this seat.
  pub record ComesToSeat {T : Type 0} (next : Seat) (result : Result T Error) (s' : Sitting)
      (old new : StoreView D)
      : Type 0 where
    pub done : OnOk result (d.honest old.disk → IsDurable d old → IsDone next s' old new)
    pub undone : IfErr result (λ error. d.honest old.disk → IsDurable d old
        → IsUndone error next.session.desktop old new)
    pub usable : OnOk result (new.must_reopen ≡ false)
    pub faults : FailsAs Fault OfPresses result (d.failures old.disk) (d.failures new.disk)
    pub device : IsSameDevice d old.disk new.disk

  -- whether an event was done
  abbrev pub TellsDone : Event → Result Bool Error → StoreView D → Type 0
  TellsDone event result old =
      IfOk result (λ done. d.honest old.disk → done ≡ does (session_of old) event)

  -- ---- a look

  -- The store was looked at: nothing is posted, and the disk is only read.
  pub record IsLookedAt (old new : StoreView D) : Type 0 where
    pub session : session_of new ≡ session_of old
    pub read : IsOnlyReadFrom d old new
    pub durable : IsDurable d new

  -- ---- the events of a press

  -- Between two moments of a store a crash leaves the desktop of the first, after a prefix of the events that were
  -- acknowledged since and of one that was begun; at the second of them, after one that holds all acknowledged events.
  pub record SittingSurvives (acknowledged begun : List Event) (old new : StoreView D)
      : Type 0 where
    pub any_moment : LeavesOnly (d.trail old.disk) (d.trail new.disk)
        (MeansPrefix (d.size old.disk) old.desktop [] (acknowledged ++ begun))
    pub at_last : Leaves (now (d.trail new.disk))
        (MeansPrefix (d.size old.disk) old.desktop acknowledged (acknowledged ++ begun))

  -- A store goes on by these events: it shows the desktop after them, and from now on a crash leaves that. Of a past
  -- nothing is forgotten.
  pub record GoesBy (events : List Event) (old new : StoreView D) : Type 0 where
    pub survives : SittingSurvives events [] old new
    pub past : PostsOn d events old new
    pub shows : new.desktop ≡ steps old.desktop events
    pub durable : IsDurable d new
    pub device : IsSameDevice d old.disk new.disk

  -- These events are accepted, one after another, and it has come to this seat.
  pub record IsPressDone (events : List Event) (next : Seat) (s' : Sitting) (old new : StoreView D)
      : Type 0 where
    pub seat : seat_of s' new ≡ next
    pub goes : GoesBy events old new

  -- It fails, where these events were to be accepted. The first of them were acknowledged, and the next one, if any, was
  -- begun. For want of memory that is in no image.
  pub record IsPressUndone (error : Error) (events : List Event) (old new : StoreView D)
      : Type 0 where
    pub acknowledged : List Event
    pub begun : List Event
    pub rest : List Event
    pub parts : events ≡ acknowledged ++ begun ++ rest
    pub one : length begun ≤ 1
    pub survives : SittingSurvives acknowledged begun old new
    pub starved : error ≡ NoMemory → SittingSurvives acknowledged [] old new
    pub past : PostsUpTo d acknowledged begun old new
    pub device : IsSameDevice d old.disk new.disk

  -- All that a call promises that is to come to this seat by these events.
  pub record DoesPress {T : Type 0} (events : List Event) (next : Seat) (result : Result T Error)
      (s' : Sitting) (old new : StoreView D) : Type 0 where
    pub done : OnOk result (d.honest old.disk → IsDurable d old
        → IsPressDone events next s' old new)
    pub undone : IfErr result (λ error. d.honest old.disk → IsDurable d old
        → IsPressUndone error events old new)
    pub usable : OnOk result (new.must_reopen ≡ false)
    pub faults : FailsAs Fault OfPresses result (d.failures old.disk) (d.failures new.disk)
    pub device : IsSameDevice d old.disk new.disk

  -- and of one that only looks, and finds what is said of the desktop
  pub record Finds {T : Type 0} (result : Result T Error) (said : Desktop → T) (s : Sitting)
      (old new : StoreView D) : Type 0 where
    pub told : IfOk result (λ found. d.honest old.disk → IsDurable d old
        → found ≡ said old.desktop)
    pub looks : DoesPress [] (seat_of s old) result s old new

  -- and of one that is to do what a press comes to
  abbrev pub DoesAction : {T : Type 0} → Action → Result T Error → Sitting → Sitting
      → StoreView D → StoreView D → Type 0
  DoesAction a result s s' old new = DoesPress (accepted_as a (seat_of s old))
      (done_by a (seat_of s old)) result s' old new

-- ---- presses

module _ (desk : Desk) {D : Type 0} (d : Ghosts D) where
  -- presses are done, one after another
  pub data DoesPresses : List Press → Sitting → Sitting → StoreView D → StoreView D → Type 0 where
    none : {s : Sitting} {store : StoreView D} → DoesPresses [] s s store store
    one_more : {presses : List Press} {s s' s'' : Sitting} {old mid new : StoreView D}
        (press : Press)
        → DoesPresses presses s s' old mid
        → IsPressDone d (desk.accepts press (seat_of s' mid)) (desk.does press (seat_of s' mid))
        s'' mid new
        → DoesPresses (presses ++ press ∷ []) s s'' old new

  -- Presses are done up to one that fails. Nothing that was pressed after it is done.
  pub record Breaks (error : Error) (presses : List Press) (s : Sitting) (old new : StoreView D)
      : Type 0 where
    pub done : List Press
    pub press : Press
    pub rest : List Press
    pub parts : presses ≡ done ++ press ∷ rest
    pub sitting : Sitting
    pub mid : StoreView D
    pub does : DoesPresses done s sitting old mid
    pub undone : IsPressUndone d error (desk.accepts press (seat_of sitting mid)) mid new

  -- All that a call promises that is to do these presses.
  pub record DoesAllPresses {T : Type 0} (presses : List Press) (result : Result T Error)
      (s s' : Sitting)
      (old new : StoreView D) : Type 0 where
    pub done : OnOk result (d.honest old.disk → IsDurable d old → DoesPresses presses s s' old new)
    pub broke : IfErr result (λ error. d.honest old.disk → IsDurable d old
        → Breaks error presses s old new)
    pub usable : OnOk result (new.must_reopen ≡ false)
    pub faults : FailsAs Fault OfPresses result (d.failures old.disk) (d.failures new.disk)
    pub device : IsSameDevice d old.disk new.disk
