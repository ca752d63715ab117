-- Runs of calls on a store with a past, in which nothing is forgotten. `d` is what is known of a disk.
use Rattle.std.specs.Prelude.{◌≡◌, ◌∷◌, ◌++◌, [], ℕ, List}
use Rattle.sector_disk.specs.declared.disk.Disk.{Ghosts}
use Rattle.sector_disk.specs.Trail.{Leaves, LeavesOnly, now}
use Rattle.desk_journal.specs.View.{StoreView}
use Rattle.past_pages.specs.Reading.{IsQuiet}
use Rattle.desk_past.specs.Going.{LiesInPart}
use Rattle.desk_past.specs.Writing.{LiesAhead, WritesOnly}
use Rattle.past_runs.specs.Calls.{DoesCall, FindsRoom, HasPastBefore, RemembersPast, HasThen, KeepsDeeds, LeadsPast, LeavesPast, Past, PastCall}
use Rattle.past_runs.specs.Calls.{TriesCall, begins, posts_over, takes_back, was_then}

-- where calls lead a past, one after another
abbrev pub LeadsAll : List PastCall → Past → Past → Type 0
LeadsAll [] past after = after ≡ past
LeadsAll (call ∷ calls) past after = (mid : Past) × LeadsPast call past mid
    × LeadsAll calls mid after

module _ {D : Type 0} (d : Ghosts D) where
  -- A run: calls, one after another, each of which was done from where those before it led.
  abbrev pub IsPastRun : List PastCall → StoreView D → StoreView D → Type 0
  IsPastRun [] old new = new ≡ old
  IsPastRun (call ∷ calls) old new = (mid : StoreView D) × DoesCall d call old mid
      × IsPastRun calls mid new

  -- Each call of it finds the room that its promise asks for, in the past to which those before it led.
  abbrev pub FindRoom : (calls : List PastCall) → Past → (old new : StoreView D)
      → IsPastRun calls old new → Type 0
  FindRoom [] past old new run = Unit {0}
  FindRoom (call ∷ calls) past old new run = FindsRoom d call past old
      × ((after : Past) → LeadsPast call past after → FindRoom calls after run.0 new run.2)

  -- Behind calls the store keeps the past to which they led, with each deed that was acknowledged.
  pub record KeepsLed (calls : List PastCall) (past : Past) (store : StoreView D) : Type 0 where
    pub all : Past
    pub led : LeadsAll calls past all
    pub keeps : KeepsDeeds d all store
    -- and so does what a crash leaves, where nothing is pending
    pub settled : IsQuiet d store
        → Leaves (now (d.trail store.disk)) (RemembersPast (d.size store.disk) all)

  -- Before each call of a run the store keeps the past to which those before it led. Amid the call a crash leaves that
  -- past, or one to which the call may lead.
  abbrev pub LeaveEach : (calls : List PastCall) → Past → (old new : StoreView D)
      → IsPastRun calls old new → Type 0
  LeaveEach [] past old new run = Unit {0}
  LeaveEach (call ∷ calls) past old new run = KeepsDeeds d past old
      × LeavesPast d call past old run.0
      × (after : Past) × LeadsPast call past after × LeaveEach calls after run.0 new run.2

  -- Nothing is forgotten over a run: behind it, amid each of its calls, and amid one more, whatever that answers.
  pub record ForgetsNothing (calls : List PastCall) (past : Past) (old new : StoreView D)
      (run : IsPastRun calls old new) : Type 0 where
    pub behind : KeepsLed calls past new
    pub amid : LeaveEach calls past old new run
    pub one_more : (call : PastCall) (last : StoreView D) → FindsRoom d call behind.all new
        → TriesCall d call new last → LeavesPast d call behind.all new last

  -- over an honest disk, from a store that keeps a past
  abbrev pub PastRunsLaw : Type 0
  PastRunsLaw = (calls : List PastCall) (past : Past) (old new : StoreView D) → d.honest old.disk
      → KeepsDeeds d past old → (run : IsPastRun calls old new) → FindRoom calls past old new run
      → ForgetsNothing calls past old new run

  -- one run after another is a run, and a run is cut into two between any two of its calls
  abbrev pub PastRunsCompose : Type 0
  PastRunsCompose = (calls more : List PastCall) (old mid new : StoreView D)
      → IsPastRun calls old mid → IsPastRun more mid new → IsPastRun (calls ++ more) old new

  abbrev pub PastRunsCut : Type 0
  PastRunsCut = (calls more : List PastCall) (old new : StoreView D)
      → IsPastRun (calls ++ more) old new
      → (mid : StoreView D) × IsPastRun calls old mid × IsPastRun more mid new

-- ---- moments

-- A moment that a past has before a call and behind it is the same one.
abbrev pub MomentStaysLaw : Type 0
MomentStaysLaw = (call : PastCall) (past after : Past) (k : ℕ) → LeadsPast call past after
    → HasThen past k → HasThen after k → was_then after k ≡ was_then past k

-- a call that takes nothing back, and begins no past
abbrev pub AddsOnly : PastCall → Type 0
AddsOnly (takes_back count back) = ⊥
AddsOnly (begins base) = ⊥
AddsOnly (posts_over event) = ⊥
AddsOnly call = Unit {0}

abbrev pub AddOnly : List PastCall → Type 0
AddOnly [] = Unit {0}
AddOnly (call ∷ calls) = AddsOnly call × AddOnly calls

-- Behind such calls each moment is there that was there before them.
abbrev pub MomentsStayLaw : Type 0
MomentsStayLaw = (calls : List PastCall) (past after : Past) (k : ℕ) → LeadsAll calls past after
    → AddOnly calls → HasThen past k → HasThen after k × (was_then after k ≡ was_then past k)

-- ---- the former past

-- a call by which no past begins
abbrev pub BeginsNone : PastCall → Type 0
BeginsNone (begins base) = ⊥
BeginsNone (posts_over event) = ⊥
BeginsNone call = Unit {0}

abbrev pub BeginNone : List PastCall → Type 0
BeginNone [] = Unit {0}
BeginNone (call ∷ calls) = BeginsNone call × BeginNone calls

module _ {D : Type 0} (d : Ghosts D) where
  -- A call on a store whose past lies in its part, and which writes ahead alone behind the store.
  pub record StaysInPart (past : Past) (old new : StoreView D) : Type 0 where
    pub lies : (keeps : KeepsDeeds d past old) → LiesInPart d keeps
    pub writes : WritesOnly d (LiesAhead (d.size old.disk)) old new

  -- each call of a run is one, from the past to which those before it led
  abbrev pub StayInPart : (calls : List PastCall) → Past → (old new : StoreView D)
      → IsPastRun d calls old new → Type 0
  StayInPart [] past old new run = Unit {0}
  StayInPart (call ∷ calls) past old new run = StaysInPart past old run.0
      × ((after : Past) → LeadsPast call past after → StayInPart calls after run.0 new run.2)

  -- At every moment of a run by which no past begins a crash leaves the former past, which was in another part before it.
  abbrev pub FormerStaysOverRuns : Type 0
  FormerStaysOverRuns = (calls : List PastCall) (past former : Past) (old new : StoreView D)
      → d.honest old.disk → KeepsDeeds d past old → (run : IsPastRun d calls old new)
      → FindRoom d calls past old new run → BeginNone calls → StayInPart calls past old new run
      → Leaves (now (d.trail old.disk)) (HasPastBefore (d.size old.disk) past.start.base former)
      → LeavesOnly (d.trail old.disk) (d.trail new.disk)
      (HasPastBefore (d.size old.disk) past.start.base former)
