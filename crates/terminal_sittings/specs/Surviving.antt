-- What a crash leaves of a sitting: the desktop that was shown, after the first of the events accepted since then. `d`
-- is what is known of a disk.
use Rattle.std.specs.Prelude.{◌≡◌, ◌≢◌, ◌≤◌, ℕ, List, [], ◌++◌, length}
use Rattle.sector_disk.specs.declared.disk.Disk.{Ghosts}
use Rattle.sector_disk.specs.Trail.{LeavesOnly}
use Rattle.event_bytes.specs.declared.event.Event.{Event}
use Rattle.store_layout.specs.Meaning.{Means}
use Rattle.desk_journal.specs.View.{StoreView, IsDurable}
use Rattle.terminal_presses.specs.declared.press.Heard.{Heard}
use Rattle.terminal_sittings.specs.declared.ending.SittingEnd.{SittingEnd}
use Rattle.terminal_sittings.specs.declared.ending.SittingEnd.TheVariants.{Fault, Memory}
use Rattle.desk_sitting.specs.Desk.{Desk}
use Rattle.desk_sitting.specs.Doing.{GoesBy, SittingSurvives}
use Rattle.desk_sitting.specs.Pasts.{PostsUpTo}
use Rattle.terminal_sittings.specs.Serving.{TurnState, HearsAfterScene, IsTurnRun, Ends}

module _ {D : Type 0} (d : Ghosts D) where
  -- What a crash leaves of a sitting that comes to this end. At most one event was begun, and none unless the disk
  -- failed. Where neither the disk nor the memory failed, the store went on by the events that were acknowledged.
  pub record SurvivesEnd (end : SittingEnd) (acknowledged begun : List Event)
      (old new : StoreView D) : Type 0 where
    pub survives : SittingSurvives d acknowledged begun old new
    pub one : length begun ≤ 1
    pub none_begun : end ≢ Fault → begun ≡ []
    pub goes_by : end ≢ Fault → end ≢ Memory → GoesBy d acknowledged old new
    -- of a past nothing is forgotten, also where an event was tried for which memory was wanting
    pub past : (tried : List Event) × PostsUpTo d acknowledged tried old new

-- ---- what holds of all sittings, from any of their places on, at any desk

module _ (desk : Desk) {D : Type 0} (d : Ghosts D) where
  -- Turns: the store goes on by the events that are accepted in them, and so each further place is such a place.
  abbrev pub TurnsSurvive : Type 0
  TurnsSurvive = (count : ℕ) (events : List Event) (old new : TurnState D)
      → IsTurnRun desk d old count events new
      → d.honest old.store.disk → IsDurable d old.store → GoesBy d events old.store new.store

  -- A scene: until the first press after it is done a crash leaves the desktop that is shown.
  abbrev pub ScenesSurvive : Type 0
  ScenesSurvive = (hearing : List Heard) (old new : TurnState D) (mid : StoreView D)
      → HearsAfterScene desk d hearing old mid new
      → d.honest old.store.disk → IsDurable d old.store
      → LeavesOnly (d.trail old.store.disk) (d.trail mid.disk)
      (Means (d.size old.store.disk) old.store.desktop)

  -- The rest of the sitting: a crash leaves the desktop that is shown at the place, after a prefix of the events that
  -- are accepted from then on.
  abbrev pub EndsSurvive : Type 0
  EndsSurvive = (end : SittingEnd) (count turns : ℕ) (events more begun : List Event)
      (old mid new : TurnState D)
      → IsTurnRun desk d old count events mid → Ends desk d end turns more begun mid new
      → d.honest old.store.disk → IsDurable d old.store
      → SurvivesEnd d end (events ++ more) begun old.store new.store
