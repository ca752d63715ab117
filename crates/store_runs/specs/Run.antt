-- What a crash leaves of a run of calls, wherever it cuts it off. `d` is what is known of a disk.
use Rattle.std.specs.Prelude.{◌≡◌, ◌⊎◌, ℕ, false, List, [], ◌∷◌, ◌++◌, flat_map, Ok, Err, IfOk, IsErr}
use Rattle.std.specs.List.{AllByRecursion}
use Rattle.sector_disk.specs.declared.disk.Disk.{Ghosts}
use Rattle.sector_disk.specs.Trail.{Trail, now, Leaves, LeavesOnly}
use Rattle.event_bytes.specs.declared.event.Event.{Event}
use Rattle.desktop_definitions.specs.Desktop.{Desktop}
use Rattle.desktop_definitions.specs.Step.{Outcome, outcome_of, step, steps_in}
use Rattle.document_filing.specs.Bringing.{brought_in}
use Rattle.store_layout.specs.Meaning.{Means, MeansEither}
use Rattle.desk_journal.specs.Errors.{Fault}
use Rattle.desk_journal.specs.Prefixes.{MeansPrefix}
use Rattle.desk_journal.specs.View.{StoreView, IsDurable}
use Rattle.store_runs.specs.declared.call.StoreCall.{StoreCall}
use Rattle.store_runs.specs.declared.call.StoreCall.TheVariants.{Post as Posting, Checkpoint}
use Rattle.store_runs.specs.Deeds.{Deed, IsRun, StoreAnswer, called, undone, brought, deeds_of}

-- ---- deeds of every kind

-- Where what is to come to this outcome leads from a desktop: there, where it was answered so, or by a Fault; and nowhere,
-- where it failed otherwise.
abbrev pub LeadsAs : Outcome → Desktop → StoreAnswer → Desktop → Type 0
LeadsAs outcome from (Ok reply) to = outcome_of to reply ≡ outcome
LeadsAs outcome from (Err Fault) to = to ≡ outcome.desktop
LeadsAs outcome from (Err e) to = to ≡ from

-- Where a deed leads from a desktop. The events that an undo hands back lead from what is left to where one was.
abbrev pub LeadsTo : Desktop → Deed → Desktop → Type 0
LeadsTo from (called (Posting event) answer) to = LeadsAs (step from event) from answer to
LeadsTo from (called Checkpoint answer) to = to ≡ from
LeadsTo from (undone count answer) to = (version : ℕ) × (events : List Event)
    × (steps_in version to events ≡ from) × IfOk answer (λ back. back ≡ events)
LeadsTo from (brought documents answer) to = LeadsAs (brought_in from documents) from answer to

abbrev pub HasFailed : Deed → Type 0
HasFailed (called call answer) = IsErr answer
HasFailed (undone count answer) = IsErr answer
HasFailed (brought documents answer) = IsErr answer

-- Deeds that come one after another between two states of a disk, from this desktop on. At each moment of a deed a crash
-- leaves the desktop from before it or the one to which it leads, and when it was answered the latter, from which the next
-- one goes on. Where it isn't known whether it was done it failed, and so does each deed after it.
abbrev pub RunSurvives : ℕ → Desktop → Trail → Trail → List Deed → Type 0
RunSurvives size from old new [] = new ≡ old
RunSurvives size from old new (deed ∷ more) = (next : Desktop) × (mid : Trail)
    × LeadsTo from deed next × LeavesOnly old mid (MeansEither size from next)
    × (Leaves (now mid) (Means size next) × RunSurvives size next mid new more
    ⊎ (new ≡ mid) × AllByRecursion HasFailed (deed ∷ more))

-- what a crash leaves of a run, wherever it cuts it off
abbrev pub SurvivesRun : {D : Type 0} → Ghosts D → List Deed → StoreView D → StoreView D → Type 0
SurvivesRun d deeds old new = d.honest old.disk
    → RunSurvives (d.size old.disk) old.desktop (d.trail old.disk) (d.trail new.disk) deeds

-- a run from a usable store survives
abbrev pub SurvivalLaw : {D : Type 0} → Ghosts D → Type 0
SurvivalLaw {D = D} d = (deeds : List Deed) (old new : StoreView D) → IsRun d deeds old new
    → old.must_reopen ≡ false → IsDurable d old → SurvivesRun d deeds old new

-- ---- posts and checkpoints

-- the event of a deed, where it was accepted, and where it was acknowledged
abbrev pub accepted : Deed → List Event
accepted (called (Posting event) (Ok reply)) = event ∷ []
accepted (called (Posting event) (Err Fault)) = event ∷ []
accepted deed = []

abbrev pub acknowledged : Deed → List Event
acknowledged (called (Posting event) (Ok reply)) = event ∷ []
acknowledged deed = []

-- Some calls of a usable store, and more behind them, whatever they answered. The events acknowledged of the former are
-- the first of those accepted of all. At every moment behind the former a crash leaves the desktop after a prefix of the
-- accepted events that holds every acknowledged one.
abbrev pub PrefixLaw : {D : Type 0} → Ghosts D → Type 0
PrefixLaw {D = D} d = (some more : List (StoreCall × StoreAnswer)) (old mid new : StoreView D)
    → IsRun d (deeds_of some) old mid → IsRun d (deeds_of more) mid new
    → old.must_reopen ≡ false → IsDurable d old → d.honest old.disk → (rest : List Event)
    × (flat_map accepted (deeds_of (some ++ more)) ≡ flat_map acknowledged (deeds_of some) ++ rest)
    × LeavesOnly (d.trail mid.disk) (d.trail new.disk) (MeansPrefix (d.size old.disk) old.desktop
    (flat_map acknowledged (deeds_of some)) (flat_map accepted (deeds_of (some ++ more))))
