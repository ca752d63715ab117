-- Calls that change a store, one after another: each with what it returned, and what it promises of the states before and
-- after it. `d` is what is known of a disk.
use Rattle.std.specs.Prelude.{◌≡◌, ◌∷◌, ◌++◌, ℕ, List, [], map, Result, IfOk, IsErr, IsErrOf, false}
use Rattle.sector_disk.specs.declared.disk.Disk.{Ghosts}
use Rattle.event_bytes.specs.declared.event.Event.{Event}
use Rattle.desktop_definitions.specs.declared.reply.Reply.{Reply}
use Rattle.desktop_definitions.specs.declared.reply.Reply.TheVariants.{Done}
use Rattle.document_filing.specs.Bringing.{Documents}
use Rattle.desk_journal.specs.Bringing.{AreBrought, IsUnwritten, LeavesAllOrNone}
use Rattle.desk_journal.specs.Checkpointing.{IsCheckpointed}
use Rattle.desk_journal.specs.Device.{StaysWithin}
use Rattle.desk_journal.specs.Errors.{Error, Fault, NoMemory, OfPost, Worn}
use Rattle.desk_journal.specs.Posting.{AnswersMustReopen, Behaves, IsBroken, IsLast, IsPosted, TurnsAway}
use Rattle.desk_journal.specs.Undoing.{IsLeft, IsTakenBack, LeavesUndone}
use Rattle.desk_journal.specs.View.{StoreView}
use Rattle.store_runs.specs.declared.call.StoreCall.{StoreCall}
use Rattle.store_runs.specs.declared.call.StoreCall.TheVariants.{Post as Posting, Checkpoint}

abbrev pub StoreAnswer : Type 0
StoreAnswer = Result Reply Error

-- what was asked of a store, and what it answered: a call was to be made, so many events were to be taken back, or
-- documents were to come
pub data Deed : Type 0 where
  called : StoreCall → StoreAnswer → Deed
  undone : ℕ → Result (List Event) Error → Deed
  brought : Documents → StoreAnswer → Deed

-- calls, each with its answer
abbrev pub deeds_of : List (StoreCall × StoreAnswer) → List Deed
deeds_of calls = map (λ (made : StoreCall × StoreAnswer). called made.0 made.1) calls

-- All that taking so many events back promises where it returns this.
pub record PromisesUndo {D : Type 0} (d : Ghosts D) (count : ℕ) (answer : Result (List Event) Error)
    (old new : StoreView D) : Type 0 where
  pub any_moment : LeavesUndone d count old new
  pub ok : IfOk answer (λ events. IsTakenBack d count events old new)
  pub left : IsErr answer → old.must_reopen ≡ false → new.must_reopen ≡ false → IsLeft d old new
  pub reopen : AnswersMustReopen answer old new
  pub within : StaysWithin d old.disk new.disk

-- All that bringing documents promises where it returns this.
pub record PromisesBringing {D : Type 0} (d : Ghosts D) (documents : Documents)
    (answer : StoreAnswer) (old new : StoreView D) : Type 0 where
  pub any_moment : LeavesAllOrNone d documents old new
  pub ok : IfOk answer (λ reply. AreBrought d documents reply old new)
  pub memory : IsErrOf answer NoMemory → IsUnwritten d old new
  pub fault : IsErrOf answer Fault → IsBroken new
  pub worn : TurnsAway (IsErrOf answer Worn) (IsLast old) old new
  pub behaves : Behaves d OfPost answer old new

-- What a deed promises of the states before and after it. A checkpoint that succeeds is answered Done.
abbrev pub DoesDeed : {D : Type 0} → Ghosts D → Deed → StoreView D → StoreView D → Type 0
DoesDeed d (called (Posting event) answer) old new = IsPosted d event answer old new
DoesDeed d (called Checkpoint answer) old new = IsCheckpointed d answer old new
    × IfOk answer (λ reply. reply ≡ Done)
DoesDeed d (undone count answer) old new = PromisesUndo d count answer old new
DoesDeed d (brought documents answer) old new = PromisesBringing d documents answer old new

-- These deeds led from the one state of a store to the other: each does what it promises, from where those before it led.
abbrev pub IsRun : {D : Type 0} → Ghosts D → List Deed → StoreView D → StoreView D → Type 0
IsRun d [] old new = new ≡ old
IsRun {D = D} d (deed ∷ more) old new = (mid : StoreView D) × DoesDeed d deed old mid
    × IsRun d more mid new

-- one run after another is a run
abbrev pub ComposingLaw : {D : Type 0} → Ghosts D → Type 0
ComposingLaw {D = D} d = (deeds more : List Deed) (first mid last : StoreView D)
    → IsRun d deeds first mid → IsRun d more mid last → IsRun d (deeds ++ more) first last
