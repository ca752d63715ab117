-- A step back through a past: what it promises over any store, however hostile its past is. `d` is what is known of a disk.
use Rattle.std.specs.Prelude.{◌≡◌, ◌≢◌, ◌≤◌, ◌∷◌, [], ℕ, List, length, false}
use Rattle.sector_disk.specs.declared.disk.Disk.{Ghosts}
use Rattle.sector_disk.specs.Trail.{LeavesOnly}
use Rattle.event_bytes.specs.declared.event.Event.{Event}
use Rattle.desktop_definitions.specs.Desktop.{Desktop}
use Rattle.desktop_definitions.specs.declared.reply.Reply.TheVariants.{Done}
use Rattle.document_filing.specs.Bringing.{Documents}
use Rattle.store_layout.specs.Meaning.{MeansEither}
use Rattle.desk_journal.specs.Bringing.{IsInNextSlot, LeavesAllOrNone}
use Rattle.desk_journal.specs.Device.{IsOnlyRead}
use Rattle.desk_journal.specs.Errors.{Error, Fault, MustReopen, OfLook}
use Rattle.desk_journal.specs.Undoing.{IsLeft, IsTakenBack, LeavesUndone}
use Rattle.desk_journal.specs.View.{StoreView, IsDurable}
use Rattle.past_pages.specs.Reading.{IsOnlyReadFrom}
use Rattle.desk_past.specs.Bringing.{BringsOn, IsBroughtIn}
use Rattle.desk_past.specs.Deeds.{PastDeed, after_deeds, all_posted, brought}
use Rattle.desk_past.specs.Going.{LiesInPart}
use Rattle.desk_past.specs.Turning.{HasTurnedBack, PastOf, TurnsBack, WasAt}
use Rattle.past_steps.specs.declared.steps.Step.{Step}
use Rattle.past_steps.specs.declared.steps.Step.TheVariants.{Events, Import}

-- what a step takes back: events, or an import
abbrev pub step_deeds : Step → List PastDeed
step_deeds (Events events) = all_posted events.items
step_deeds (Import documents) = brought documents.items ∷ []

module _ {D : Type 0} (d : Ghosts D) where
  -- a past of the store that lies in a part begins in this sector
  abbrev pub IsPartInUse : ℕ → StoreView D → Type 0
  IsPartInUse base store = (past : PastOf d store) → LiesInPart d past.keeps
      → past.start.base ≡ base

  -- such a past has moment k, and the desktop was this one then
  abbrev pub IsMomentOf : ℕ → ℕ → Desktop → StoreView D → Type 0
  IsMomentOf base k to store = (past : PastOf d store) → past.start.base ≡ base
      → WasAt d k to past

  -- From this desktop these deeds lead to what the store shows, at most so many.
  pub record LeadsHere (count : ℕ) (deeds : List PastDeed) (to : Desktop) (store : StoreView D)
      : Type 0 where
    pub few : length deeds ≤ count
    pub leads : d.honest store.disk → after_deeds to deeds ≡ store.desktop

  -- At every moment of a turn a crash leaves the desktop from before it, or this one, from which these deeds lead there;
  -- and of a past nothing is forgotten.
  pub record LeavesTurnedBack (count : ℕ) (deeds : List PastDeed) (to : Desktop) (k : ℕ)
      (old new : StoreView D)
      : Type 0 where
    pub back : LeadsHere count deeds to old
    pub any_moment : d.honest old.disk → LeavesOnly (d.trail old.disk) (d.trail new.disk)
        (MeansEither (d.size old.disk) old.desktop to)
    pub past : TurnsBack d k old new

  -- Ok of a turn: the store shows the desktop from which these deeds led to what it showed.
  pub record IsTurnedBack (count : ℕ) (deeds : List PastDeed) (old new : StoreView D) : Type 0 where
    pub k : ℕ
    pub some : length deeds ≢ 0
    pub leaves : LeavesTurnedBack count deeds new.desktop k old new
    -- from now on a crash leaves that desktop
    pub durable : IsDurable d new
    -- the journal is a new one
    pub next : IsInNextSlot old new
    pub usable : new.must_reopen ≡ false
    -- and a past goes on over the turn to its moment k
    pub past : HasTurnedBack d k old new

  -- ---- a step back, by a turn or as `Store::undo` takes events back

  pub data TakesBack (count : ℕ) (deeds : List PastDeed) (old new : StoreView D) : Type 0 where
    turned : IsTurnedBack count deeds old new → TakesBack count deeds old new
    undone : (events : List Event) → deeds ≡ all_posted events → IsTakenBack d count events old new
        → TakesBack count deeds old new

  -- Ok: the store was only read at first, and then these deeds were taken back.
  pub record IsSteppedBack (count : ℕ) (deeds : List PastDeed) (old new : StoreView D)
      : Type 0 where
    pub between : StoreView D
    pub read : IsOnlyReadFrom d old between
    pub takes : TakesBack count deeds between new

  pub data LeavesBack (count : ℕ) (old new : StoreView D) : Type 0 where
    turns : (deeds : List PastDeed) (to : Desktop) (k : ℕ)
        → LeavesTurnedBack count deeds to k old new → LeavesBack count old new
    undoes : LeavesUndone d count old new → LeavesBack count old new

  -- Whatever it returns: it was only read, or at first, and then a crash leaves the desktop from before it, or that.
  pub data LeavesSteppedBack (count : ℕ) (old new : StoreView D) : Type 0 where
    only_read : IsOnlyRead d old.disk new.disk → LeavesSteppedBack count old new
    goes_back : (between : StoreView D) → IsOnlyReadFrom d old between
        → LeavesBack count between new → LeavesSteppedBack count old new

  -- what an error leaves of a turn that was tried
  pub record BreaksOff (count : ℕ) (error : Error) (old new : StoreView D) : Type 0 where
    pub any_moment : LeavesSteppedBack count old new
    pub left : new.must_reopen ≡ false → IsLeft d old new
    pub in_use : error ≢ Fault → new.must_reopen ≡ false
    pub named : OfLook error
    pub other : error ≢ MustReopen

  -- ---- an import that is done again

  -- The store was only read at first, and then these documents came, by an import of its own in the past.
  pub record IsBroughtAgain (documents : Documents) (old new : StoreView D) : Type 0 where
    pub between : StoreView D
    pub read : IsOnlyReadFrom d old between
    pub brought : IsBroughtIn d documents Done between new
    pub any_moment : LeavesAllOrNone d documents between new
    pub nothing_forgotten : BringsOn d documents between new

  -- It fails: it was only read, or at first, and then a crash leaves all documents or none.
  pub data LeavesBroughtAgain (old new : StoreView D) : Type 0 where
    unbegun : IsOnlyRead d old.disk new.disk → LeavesBroughtAgain old new
    brings : (documents : Documents) (between : StoreView D) → IsOnlyReadFrom d old between
        → LeavesAllOrNone d documents between new → BringsOn d documents between new
        → LeavesBroughtAgain old new
