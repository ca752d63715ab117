-- A past that goes on while a person sits at the desk. `d` is what is known of a disk.
use Rattle.std.specs.Prelude.{List, [], ◌∷◌, ◌++◌, Result, OnOk, IfErr}
use Rattle.sector_disk.specs.declared.disk.Disk.{Ghosts}
use Rattle.event_bytes.specs.declared.event.Event.{Event}
use Rattle.desk_journal.specs.Device.{IsOnlyRead, IsSameDevice}
use Rattle.desk_journal.specs.Errors.{Error}
use Rattle.desk_journal.specs.View.{StoreView}
use Rattle.desk_past.specs.Keeping.{HasKeptPost, KeepsPost}
use Rattle.past_pages.specs.Reading.{IsOnlyReadFrom}

module _ {D : Type 0} (d : Ghosts D) where
  -- An event was posted: of a past nothing is forgotten, and it goes on by the event, in its part or over to the next one.
  pub record KeepsPosted (event : Event) (old new : StoreView D) : Type 0 where
    pub any_moment : KeepsPost d event old new
    pub kept : HasKeptPost d event old new
    pub device : IsSameDevice d old.disk new.disk

  -- These events were posted so, one after another, and between them the store was only read.
  pub data PostsOn : List Event → StoreView D → StoreView D → Type 0 where
    none : {store : StoreView D} → PostsOn [] store store
    one_more : {events : List Event} {old mid new : StoreView D} (event : Event)
        → PostsOn events old mid → KeepsPosted event mid new
        → PostsOn (events ++ event ∷ []) old new
    then_read : {events : List Event} {old mid new : StoreView D} → PostsOn events old mid
        → IsOnlyReadFrom d mid new → PostsOn events old new

  -- an event was begun, whatever came of it; or none was
  abbrev pub KeepsBegun : List Event → StoreView D → StoreView D → Type 0
  KeepsBegun [] old new = IsOnlyRead d old.disk new.disk
  KeepsBegun (event ∷ events) old new =
      KeepsPost d event old new × IsSameDevice d old.disk new.disk

  -- such events, and then this one
  pub record PostsUpTo (events begun : List Event) (old new : StoreView D) : Type 0 where
    pub mid : StoreView D
    pub goes : PostsOn events old mid
    pub begins : KeepsBegun begun mid new

  -- all that a call promises of a past that is to post these events, one at most
  pub record KeepsPast {T : Type 0} (events : List Event) (result : Result T Error)
      (old new : StoreView D) : Type 0 where
    pub posted : OnOk result (PostsOn events old new)
    pub begun : IfErr result (λ error. PostsUpTo [] events old new)
