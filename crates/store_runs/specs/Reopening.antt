-- A store that is closed and opened again, also behind calls that were all answered Ok. `d` is what is known of a disk.
use Rattle.std.specs.Prelude.{◌≡◌, ◌+◌, ℕ, false, List, [], ◌∷◌, fold, take, nat_lt, ◌&&◌, ◌==◌, if◌then◌else◌}
use Rattle.sector_disk.specs.declared.disk.Disk.{Ghosts}
use Rattle.sector_disk.specs.Faults.{OneOf}
use Rattle.sector_disk.specs.Trail.{now}
use Rattle.event_bytes.specs.declared.event.Event.{Event}
use Rattle.desktop_definitions.specs.Step.{steps}
use Rattle.store_layout.specs.declared.layout.TheConstants.{JOURNAL_EVENTS, LAST_EPOCH, LAYOUT}
use Rattle.desk_journal.specs.Errors.{Error}
use Rattle.desk_journal.specs.Errors.{NoMemory, Fault, Worn}
use Rattle.desk_journal.specs.Opening.{IsOpened}
use Rattle.desk_journal.specs.View.{StoreView, IsDurable}
use Rattle.store_runs.specs.declared.call.StoreCall.{StoreCall}
use Rattle.store_runs.specs.declared.call.StoreCall.TheVariants.{Post as Posting, Checkpoint}

-- the version of a store's layout, its epoch, and how many events are in its journal
pub record StoreCounts : Type 0 where
  pub layout : ℕ
  pub epoch : ℕ
  pub events : ℕ

abbrev pub counts_of : {D : Type 0} → StoreView D → StoreCounts
counts_of store = record { layout = store.layout; epoch = store.epoch; events = store.events }

-- Opening finds what was closed.
abbrev pub ReopeningLaw : {D : Type 0} → Ghosts D → Type 0
ReopeningLaw {D = D} d = (closed opened : StoreView D) → d.honest closed.disk → IsDurable d closed
    → IsOpened d closed.disk opened
    → (opened.desktop ≡ closed.desktop) × (counts_of opened ≡ counts_of closed)

-- ---- calls that were all answered Ok

-- the events that are posted
abbrev pub events_in : List StoreCall → List Event
events_in [] = []
events_in (Posting event ∷ calls) = event ∷ events_in calls
events_in (Checkpoint ∷ calls) = events_in calls

-- these numbers after a call
abbrev pub counts_after : StoreCall → StoreCounts → StoreCounts
counts_after (Posting event) n =
    if nat_lt n.events JOURNAL_EVENTS && n.layout == LAYOUT then record n { events = n.events + 1 }
    else record { layout = LAYOUT; epoch = n.epoch + 1; events = 1 }
counts_after Checkpoint n = record { layout = LAYOUT; epoch = n.epoch + 1; events = 0 }

abbrev pub all_counted : List StoreCall → StoreCounts → StoreCounts
all_counted calls n = fold (λ (now : StoreCounts) call. counts_after call now) n calls

-- why calls and an opening stop over an honest disk: what they leave is a store, and opening finds it
abbrev pub StopsAReopening : Error → Type 0
StopsAReopening = OneOf (NoMemory ∷ Fault ∷ Worn ∷ [])

-- some of the calls, the first of them, lead to the last epoch
abbrev pub LeadsToLastEpoch : {D : Type 0} → List StoreCall → StoreView D → Type 0
LeadsToLastEpoch calls closed = (count : ℕ)
    × ((all_counted (take count calls) (counts_of closed)).epoch ≡ LAST_EPOCH)

-- the store that was opened after all the calls: nothing is lost
pub record IsReopened {D : Type 0} (d : Ghosts D) (calls : List StoreCall)
    (closed reopened : StoreView D) : Type 0 where
  pub desktop : d.honest closed.disk → reopened.desktop ≡ steps closed.desktop (events_in calls)
  pub counts : d.honest closed.disk → counts_of reopened ≡ all_counted calls (counts_of closed)
  pub durable : IsDurable d reopened
  -- nothing is pending: what it shows is on the medium
  pub settled : d.honest closed.disk → (n : ℕ) → (now (d.trail reopened.disk)).pending n ≡ false
  pub usable : reopened.must_reopen ≡ false
