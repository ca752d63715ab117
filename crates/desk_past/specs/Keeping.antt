-- A post that keeps a past where there is one. `d` is what is known of a disk.
use Rattle.std.specs.Prelude.{◌≡◌, ◌⊎◌, ◌+◌, ◌-◌, ◌<◌, ◌≤◌, ◌^◌, ◌++◌, ◌∷◌, [], ℕ, List, Result, length, false}
use Rattle.sector_disk.specs.declared.disk.Disk.{Ghosts}
use Rattle.sector_disk.specs.Faults.{FailsAs}
use Rattle.sector_disk.specs.Trail.{LeavesOnly, now}
use Rattle.event_bytes.specs.declared.event.Event.{Event}
use Rattle.desktop_definitions.specs.Desktop.{Desktop}
use Rattle.desktop_definitions.specs.Step.{step}
use Rattle.store_layout.specs.declared.layout.TheConstants.{LAST_EPOCH, LAYOUT}
use Rattle.store_slots.specs.declared.error.Error.{Error}
use Rattle.store_slots.specs.declared.error.Error.TheVariants.{Fault}
use Rattle.desk_journal.specs.Device.{IsSameDevice}
use Rattle.desk_journal.specs.Posting.{HasJournalRoom, IsDueBefore}
use Rattle.desk_journal.specs.View.{StoreView}
use Rattle.past_pages.specs.Parts.{HasParts, IsPastPart}
use Rattle.past_pages.specs.Page.{page_sectors, journal_of}
use Rattle.past_pages.specs.declared.parts.TheConstants.{LEAST_ROOM}
use Rattle.desk_past.specs.Beginning.{GoesOnBy, GoesOnFrom, RemembersFormer, begun_at}
use Rattle.desk_past.specs.Deeds.{PastDeed, posted}
use Rattle.desk_past.specs.Going.{LiesInPart}
use Rattle.desk_past.specs.Past.{KeepsAll, LeavesAll, Remembers, Start}

-- a store in use, whose epoch isn't the last one
abbrev pub CanTurn : {D : Type 0} → StoreView D → Type 0
CanTurn store = (store.must_reopen ≡ false) × ¬ (store.epoch ≡ LAST_EPOCH)

-- a checkpoint is due before the next event, and can be made
pub record IsTurnDue {D : Type 0} (store : StoreView D) : Type 0 where
  pub able : CanTurn store
  pub due : IsDueBefore store

-- the journal in use is the same one
pub record IsUnturned {D : Type 0} (old new : StoreView D) : Type 0 where
  pub layout : new.layout ≡ old.layout
  pub epoch : new.epoch ≡ old.epoch
  pub events : new.events ≡ old.events

-- a checkpoint was due and was made
pub record IsTurned {D : Type 0} (old new : StoreView D) : Type 0 where
  pub due : IsDueBefore old
  pub layout : new.layout ≡ LAYOUT
  pub epoch : new.epoch ≡ old.epoch + 1
  pub events : new.events ≡ 0

module _ {D : Type 0} (d : Ghosts D) where
  -- A call on a store, whatever it returns: the device is the same one, Fault comes exactly where a failure of it was
  -- counted, and each error is one of the call's.
  pub record UsesDevice {T : Type 0} (OfCall : Error → Type 0) (answer : Result T Error)
      (old new : StoreView D)
      : Type 0 where
    pub same : IsSameDevice d old.disk new.disk
    pub faults : FailsAs Fault OfCall answer (d.failures old.disk) (d.failures new.disk)

  -- Before an event: what the store shows stays. Either nothing was done, or a checkpoint was made that was due, or
  -- there was no room for the page before it, and the journal is the same one.
  pub record IsWayMade (old new : StoreView D) : Type 0 where
    pub usable : new.must_reopen ≡ old.must_reopen
    pub desktop : d.honest old.disk → new.desktop ≡ old.desktop
    pub kept : new.kept ≡ old.kept
    pub way : (new ≡ old) ⊎ CanTurn old
    pub turn : IsUnturned old new ⊎ IsTurned old new

  -- up to this sector there is room for the page of the journal in use, and its events can be counted
  pub record HasPageRoom (end : ℕ) {start : Start} {deeds : List PastDeed} {desktop : Desktop}
      {store : StoreView D} (keeps : KeepsAll d start deeds desktop store)
      : Type 0 where
    pub page : keeps.remembers.standing.past.next
        + page_sectors (journal_of keeps.remembers.standing) ≤ end
    pub inside : end ≤ d.size store.disk
    pub few : keeps.remembers.standing.past.before + length keeps.remembers.standing.events < 2 ^ 64

  -- The past lies in a part that isn't full: there is such room before its last sectors. An epoch comes behind the one
  -- in use.
  pub record CanKeep {start : Start} {deeds : List PastDeed} {desktop : Desktop}
      {store : StoreView D} (keeps : KeepsAll d start deeds desktop store)
      : Type 0 where
    pub end : ℕ
    pub part : IsPastPart (d.size store.disk) start.base end
    pub room : HasPageRoom (end - LEAST_ROOM) keeps
    pub later : ¬ (store.epoch ≡ LAST_EPOCH)

  -- Nothing is forgotten where the past goes on in its part, if a checkpoint is due: at every moment of the call a
  -- crash leaves all deeds from before it, and the desktop to which they led, or these and the event that is posted,
  -- and the desktop after that.
  abbrev pub KeepsOn : Event → StoreView D → StoreView D → Type 0
  KeepsOn event old new = d.honest old.disk → (start : Start) (deeds : List PastDeed)
      (desktop : Desktop) → (keeps : KeepsAll d start deeds desktop old)
      → (IsDueBefore old → CanKeep keeps)
      → LeavesOnly (d.trail old.disk) (d.trail new.disk)
      (λ c. Remembers (d.size old.disk) start deeds desktop c
      ⊎ Remembers (d.size old.disk) start (deeds ++ posted event ∷ [])
      (step desktop event).desktop c)

  -- Ok: the latter
  abbrev pub HasKept : Event → StoreView D → StoreView D → Type 0
  HasKept event old new = d.honest old.disk → (start : Start) (deeds : List PastDeed)
      (desktop : Desktop) → (keeps : KeepsAll d start deeds desktop old)
      → (IsDueBefore old → CanKeep keeps)
      → KeepsAll d start (deeds ++ posted event ∷ []) (step desktop event).desktop new

  -- ---- from one part to the next

  -- The past lies in a part, full or not, and there is another one. Its deeds can be counted, and an epoch comes behind
  -- the one in use.
  pub record CanGoOver {start : Start} {deeds : List PastDeed} {desktop : Desktop}
      {store : StoreView D} (keeps : KeepsAll d start deeds desktop store)
      : Type 0 where
    pub lies : LiesInPart d keeps
    pub parts : HasParts (d.size store.disk)
    pub few : keeps.remembers.standing.past.before + length keeps.remembers.standing.events < 2 ^ 64
    pub later : ¬ (store.epoch ≡ LAST_EPOCH)

  -- A past has begun behind this one, which stands in another part. These deeds were done since, and lead to that
  -- desktop.
  pub record HasBegunBehind (start : Start) (deeds : List PastDeed) (desktop : Desktop)
      (more : List PastDeed) (after : Desktop) (store : StoreView D)
      : Type 0 where
    pub base : ℕ
    pub keeps : KeepsAll d (begun_at desktop (start.before + length deeds) base) more after store
    pub former : RemembersFormer (d.size store.disk) base start deeds desktop
        (now (d.trail store.disk)).reads

  -- The past goes on in its part, or another one has begun behind it, with no deed so far.
  abbrev pub GoesOnOver : Start → List PastDeed → Desktop → StoreView D → Type 0
  GoesOnOver start deeds desktop store = KeepsAll d start deeds desktop store
      ⊎ HasBegunBehind start deeds desktop [] desktop store

  -- Nothing is forgotten, in whichever part the past goes on, if a checkpoint is due: at every moment of the call a
  -- crash leaves all deeds from before it, and the event or not, in the part in use, or over that one and the next.
  abbrev pub KeepsOver : Event → StoreView D → StoreView D → Type 0
  KeepsOver event old new = d.honest old.disk → (start : Start) (deeds : List PastDeed)
      (desktop : Desktop) → (keeps : KeepsAll d start deeds desktop old)
      → (IsDueBefore old → CanGoOver keeps)
      → LeavesOnly (d.trail old.disk) (d.trail new.disk)
      (λ c. Remembers (d.size old.disk) start deeds desktop c
      ⊎ Remembers (d.size old.disk) start (deeds ++ posted event ∷ [])
      (step desktop event).desktop c
      ⊎ ((base : ℕ) × (GoesOnFrom (d.size old.disk) base start deeds desktop c
      ⊎ GoesOnBy (d.size old.disk) base start deeds desktop event c)))

  -- Ok: all of them, in the part in use or over both
  abbrev pub HasKeptOver : Event → StoreView D → StoreView D → Type 0
  HasKeptOver event old new = d.honest old.disk → (start : Start) (deeds : List PastDeed)
      (desktop : Desktop) → (keeps : KeepsAll d start deeds desktop old)
      → (IsDueBefore old → CanGoOver keeps)
      → KeepsAll d start (deeds ++ posted event ∷ []) (step desktop event).desktop new
      ⊎ HasBegunBehind start deeds desktop (posted event ∷ []) (step desktop event).desktop new

  -- both, of a past that goes on in its part, and of any one
  pub record KeepsPost (event : Event) (old new : StoreView D) : Type 0 where
    pub within : KeepsOn event old new
    pub over : KeepsOver event old new

  pub record HasKeptPost (event : Event) (old new : StoreView D) : Type 0 where
    pub within : HasKept event old new
    pub over : HasKeptOver event old new

  -- ---- before the event

  -- where a checkpoint is due
  abbrev pub LeavesAllWithin : StoreView D → StoreView D → Type 0
  LeavesAllWithin old new = d.honest old.disk → (start : Start) (deeds : List PastDeed)
      (desktop : Desktop) → (keeps : KeepsAll d start deeds desktop old) → CanKeep keeps
      → LeavesAll d start deeds desktop old new

  abbrev pub KeepsAllWithin : StoreView D → StoreView D → Type 0
  KeepsAllWithin old new = d.honest old.disk → (start : Start) (deeds : List PastDeed)
      (desktop : Desktop) → (keeps : KeepsAll d start deeds desktop old) → CanKeep keeps
      → KeepsAll d start deeds desktop new × HasJournalRoom new

  abbrev pub HasGoneOver : StoreView D → StoreView D → Type 0
  HasGoneOver old new = d.honest old.disk → (start : Start) (deeds : List PastDeed)
      (desktop : Desktop) → (keeps : KeepsAll d start deeds desktop old) → CanGoOver keeps
      → GoesOnOver start deeds desktop new × HasJournalRoom new

  -- and whether it is due or not
  abbrev pub LeavesAllBefore : StoreView D → StoreView D → Type 0
  LeavesAllBefore old new = d.honest old.disk → (start : Start) (deeds : List PastDeed)
      (desktop : Desktop) → (keeps : KeepsAll d start deeds desktop old)
      → (IsDueBefore old → CanKeep keeps) → LeavesAll d start deeds desktop old new

  abbrev pub KeepsAllBefore : StoreView D → StoreView D → Type 0
  KeepsAllBefore old new = d.honest old.disk → (start : Start) (deeds : List PastDeed)
      (desktop : Desktop) → (keeps : KeepsAll d start deeds desktop old)
      → (IsDueBefore old → CanKeep keeps)
      → KeepsAll d start deeds desktop new × HasJournalRoom new

  abbrev pub ForgetsNoneDue : StoreView D → StoreView D → Type 0
  ForgetsNoneDue old new = d.honest old.disk → (start : Start) (deeds : List PastDeed)
      (desktop : Desktop) → (keeps : KeepsAll d start deeds desktop old)
      → (IsDueBefore old → LiesInPart d keeps)
      → LeavesOnly (d.trail old.disk) (d.trail new.disk)
      (λ c. Remembers (d.size old.disk) start deeds desktop c
      ⊎ ((base : ℕ) × GoesOnFrom (d.size old.disk) base start deeds desktop c))

  abbrev pub HasGoneBefore : StoreView D → StoreView D → Type 0
  HasGoneBefore old new = d.honest old.disk → (start : Start) (deeds : List PastDeed)
      (desktop : Desktop) → (keeps : KeepsAll d start deeds desktop old)
      → (IsDueBefore old → CanGoOver keeps)
      → GoesOnOver start deeds desktop new × HasJournalRoom new

  -- ---- a past that begins in the oldest part beside this sector, which the head tells

  abbrev pub ForgetsNoneFrom : ℕ → StoreView D → StoreView D → Type 0
  ForgetsNoneFrom next old new = d.honest old.disk → (start : Start) (deeds : List PastDeed)
      (desktop : Desktop) → (keeps : KeepsAll d start deeds desktop old)
      → keeps.remembers.standing.past.next ≡ next → LiesInPart d keeps
      → LeavesOnly (d.trail old.disk) (d.trail new.disk)
      (λ c. Remembers (d.size old.disk) start deeds desktop c
      ⊎ ((base : ℕ) × GoesOnFrom (d.size old.disk) base start deeds desktop c))

  abbrev pub BeginsNext : ℕ → StoreView D → StoreView D → Type 0
  BeginsNext next old new = d.honest old.disk → (start : Start) (deeds : List PastDeed)
      (desktop : Desktop) → (keeps : KeepsAll d start deeds desktop old)
      → keeps.remembers.standing.past.next ≡ next → CanGoOver keeps
      → HasBegunBehind start deeds desktop [] desktop new × HasJournalRoom new
