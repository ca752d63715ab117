-- A sitting from its first turn to its end. `d` is what is known of a disk.
use Rattle.std.specs.Prelude.{◌≡◌, ◌⊎◌, ◌+◌, ℕ, Bool, List, ◌++◌, Result, is_none, true, false}
use Rattle.sector_disk.specs.declared.disk.Disk.{Ghosts}
use Rattle.event_bytes.specs.declared.event.Event.{Event}
use Rattle.desk_journal.specs.View.{StoreView, IsDurable}
use Rattle.terminal_sittings.specs.declared.ending.SittingEnd.{SittingEnd}
use Rattle.terminal_sittings.specs.Serving.{Exchange, TakesTurn, TurnState, IsTurnRun, Ends, exchange_at}
use Rattle.desk_sitting.specs.Desk.{Desk}
use Rattle.desk_sitting.specs.Doing.{GoesBy}
use Rattle.terminal_sittings.specs.Surviving.{SurvivesEnd}
use Rattle.terminal_sittings.specs.Travelling.{IsBetween, IsBrokenOff, TakesBetween}

module _ (desk : Desk) {D : Type 0} (d : Ghosts D) where
  -- All that a turn promises, by what the sitting waits for: where something is to be taken back or done again that is
  -- done, and else the desktop is shown and something is heard.
  pub record TakesEitherTurn {T : Type 0} (result : Result T SittingEnd) (old new : TurnState D)
      : Type 0 where
    pub shows : is_none old.sitting.travels ≡ true → TakesTurn desk d result old new
    pub goes : is_none old.sitting.travels ≡ false → TakesBetween desk d result old new

  -- A stretch of turns in which nothing is taken back and done again: from its first place so many turns led to this
  -- one, and the store went on by the events that were accepted in them.
  pub record IsStretchOfTurns (first : TurnState D) (count : ℕ) (place : TurnState D) : Type 0 where
    pub durable : IsDurable d first.store
    pub events : List Event
    pub run : IsTurnRun desk d first count events place
    pub goes : GoesBy d events first.store place.store

  -- So many turns have led to the beginning of a stretch, by stretches and by what was taken back or done again between
  -- them, where that was asked for.
  pub data Comes (first : TurnState D) : ℕ → TurnState D → Type 0 where
    here : Comes first 0 first
    again : {before count : ℕ} {start place next : TurnState D} → Comes first before start
        → IsStretchOfTurns start count place → is_none place.sitting.travels ≡ false
        → IsBetween desk d place next
        → Comes first (before + count + 1) next

  -- From the first place of its last stretch, before which there were so many turns, a sitting came to this end, where
  -- this is the store, and this was heard and asked for, and sent. Before its last turn a text was held, or none.
  pub record IsSat (end : SittingEnd) (holds : Bool) (before : ℕ) (first : TurnState D)
      (store : StoreView D) (out : Exchange) : Type 0 where
    pub durable : IsDurable d first.store
    -- the turns after which it went on, and the events that were accepted in them
    pub count : ℕ
    pub turned : List Event
    pub place : TurnState D
    pub run : IsTurnRun desk d first count turned place
    pub held : place.sitting.holds ≡ holds
    -- the last turn, the events that were accepted in it, and the one that was begun
    pub more : List Event
    pub begun : List Event
    pub last : TurnState D
    pub ends : Ends desk d end (before + count) more begun place last
    pub stands : last.store ≡ store
    pub exchanged : exchange_at last ≡ out
    -- what a crash leaves of it all
    pub events : List Event
    pub are : events ≡ turned ++ more
    pub survives : SurvivesEnd d end events begun first.store store

  -- It ended where an event was to be taken back, or done again.
  pub record IsLost (end : SittingEnd) (holds : Bool) (first : TurnState D) (store : StoreView D)
      (out : Exchange) : Type 0 where
    pub count : ℕ
    pub place : TurnState D
    pub stretch : IsStretchOfTurns first count place
    pub held : place.sitting.holds ≡ holds
    pub last : TurnState D
    pub broken : IsBrokenOff desk d end place last
    pub stands : last.store ≡ store
    pub exchanged : exchange_at last ≡ out

  -- From its first place a sitting came to this end: by stretches, of each of which a crash leaves the desktop that was
  -- shown at any of its scenes, after the first of the events accepted since then.
  pub record Sits (end : SittingEnd) (holds : Bool) (first : TurnState D) (store : StoreView D)
      (out : Exchange) : Type 0 where
    pub before : ℕ
    pub start : TurnState D
    pub comes : Comes first before start
    pub ends : IsSat end holds before start store out ⊎ IsLost end holds start store out
