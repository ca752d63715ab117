-- A past that begins, behind another one or none. `d` is what is known of a disk.
use Rattle.std.specs.Prelude.{◌≡◌, ◌⊎◌, ◌+◌, ◌<◌, ◌≤◌, ◌^◌, ◌∷◌, ℕ, [], List, Bool, false, true, length, nat_lt, if◌then◌else◌}
use Rattle.std.specs.Prelude.{Result, IsErrOf}
use Rattle.sector_disk.specs.declared.disk.Disk.{Ghosts}
use Rattle.sector_disk.specs.Faults.{FailsAs}
use Rattle.sector_disk.specs.Trail.{Content, now, LeavesOnly}
use Rattle.event_bytes.specs.declared.event.Event.{Event}
use Rattle.desktop_definitions.specs.Desktop.{Desktop}
use Rattle.desktop_definitions.specs.Step.{step}
use Rattle.store_layout.specs.declared.layout.TheConstants.{LAST_EPOCH, STORE_SECTORS}
use Rattle.store_layout.specs.Filling.{InRange}
use Rattle.store_layout.specs.Meaning.{Standing}
use Rattle.store_slots.specs.declared.error.Error.{Error}
use Rattle.store_slots.specs.declared.error.Error.TheVariants.{Fault, MustReopen, Worn}
use Rattle.store_slots.specs.Errors.{OfPost}
use Rattle.desk_journal.specs.Checkpointing.{IsRenewed}
use Rattle.desk_journal.specs.Device.{IsSameDevice}
use Rattle.desk_journal.specs.Undoing.{ShowsStanding}
use Rattle.desk_journal.specs.View.{StoreView}
use Rattle.past_pages.specs.Sectors.{HasCopies}
use Rattle.desk_past.specs.Deeds.{PastDeed, posted}
use Rattle.desk_past.specs.Past.{KeepsAll, Remembers, Start}

-- the start of a past that begins with this desktop, behind so many events
abbrev pub begun_at : Desktop → ℕ → ℕ → Start
begun_at desktop before base = record { desktop = desktop; before = before; base = base }

-- a disk of so many sectors has room for a start from this sector on
pub record HasStartRoom (size base : ℕ) : Type 0 where
  pub behind : STORE_SECTORS ≤ base
  pub numbered : base + STORE_SECTORS < 2 ^ 32
  pub room : base + STORE_SECTORS ≤ size

-- At every moment of the call a crash leaves each sector as it was, but those of an area.
pub record SparesBut {D : Type 0} (d : Ghosts D) (area : ℕ → Type 0) (old new : StoreView D)
    : Type 0 where
  pub moments : old.must_reopen ≡ false → d.honest old.disk
      → LeavesOnly (d.trail old.disk) (d.trail new.disk)
      (λ c. (n : ℕ) → ¬ area n → c n ≡ (now (d.trail old.disk)).reads n)

-- but so many from this one on
abbrev pub SparesAllBut : {D : Type 0} → Ghosts D → ℕ → ℕ → StoreView D → StoreView D → Type 0
SparesAllBut d from limit old new = SparesBut d (InRange from limit) old new

-- but those of a start from this one on
abbrev pub SparesOthers : {D : Type 0} → Ghosts D → ℕ → StoreView D → StoreView D → Type 0
SparesOthers d base old new = SparesAllBut d base STORE_SECTORS old new

-- but those of the store, and those of a start from this one on
abbrev pub SparesAround : {D : Type 0} → Ghosts D → ℕ → StoreView D → StoreView D → Type 0
SparesAround d base old new = SparesBut d
    (λ n. (n < STORE_SECTORS) ⊎ InRange base STORE_SECTORS n) old new

-- Something was written behind a store, or nothing. It is in use, and shows what it showed, by the same journal.
pub record IsAside {D : Type 0} (d : Ghosts D) (old new : StoreView D) : Type 0 where
  pub usable : new.must_reopen ≡ false
  pub desktop : d.honest old.disk → new.desktop ≡ old.desktop
  pub kept : new.kept ≡ old.kept
  pub layout : new.layout ≡ old.layout
  pub epoch : new.epoch ≡ old.epoch
  pub events : new.events ≡ old.events

-- A checkpoint was made, or something was written behind the store, or nothing.
abbrev pub IsBegunOrAside : {D : Type 0} → Ghosts D → Bool → StoreView D → StoreView D → Type 0
IsBegunOrAside d true old new = IsRenewed d old new
IsBegunOrAside d false old new = IsAside d old new

-- The start stands from this sector on: the sectors of the store were copied there. So many events came before it.
pub record IsStarted {D : Type 0} (d : Ghosts D) (base before : ℕ) (old new : StoreView D)
    : Type 0 where
  pub was : old.must_reopen ≡ false
  pub aside : IsAside d old new
  pub same : d.honest old.disk → (n : ℕ) → n < STORE_SECTORS
      → (now (d.trail new.disk)).reads (base + n) ≡ (now (d.trail new.disk)).reads n
  pub counted : d.honest old.disk → (s : Standing) → ShowsStanding d old s
      → before ≡ s.past.before + length s.events

-- Too many events came before what the store shows: no number of eight bytes counts them.
abbrev pub AreUncounted : {D : Type 0} → Ghosts D → StoreView D → Type 0
AreUncounted d store = (s : Standing) → ShowsStanding d store s
    → 2 ^ 64 ≤ s.past.before + length s.events

-- What stops a past that is to begin: a failure of the device, which is counted, want of memory, the last epoch, or a
-- store that must be opened again. The device is the same one, whatever the call returns.
pub record IsStoppedBy {D T : Type 0} (d : Ghosts D) (answer : Result T Error)
    (old new : StoreView D)
    : Type 0 where
  pub same : IsSameDevice d old.disk new.disk
  pub faults : FailsAs Fault OfPost answer (d.failures old.disk) (d.failures new.disk)
  pub worn : IsErrOf answer Worn → old.epoch ≡ LAST_EPOCH
  pub reopen : IsErrOf answer MustReopen → old.must_reopen ≡ true

-- ---- behind another past

-- what a disk would hold if the start from this sector on were copied back over the store
abbrev pub copied_back : ℕ → Content → Content
copied_back base c n = if nat_lt n STORE_SECTORS then c (base + n) else c n

-- The content has the former past, up to the start from this sector on: copied back, that would have it.
abbrev pub RemembersFormer : ℕ → ℕ → Start → List PastDeed → Desktop → Content → Type 0
RemembersFormer size base start deeds desktop c =
    Remembers size start deeds desktop (copied_back base c)

-- The content has a past that begins behind the former one, and that one too.
pub record GoesOnFrom (size base : ℕ) (start : Start) (deeds : List PastDeed) (desktop : Desktop)
    (c : Content)
    : Type 0 where
  pub anew : Remembers size (begun_at desktop (start.before + length deeds) base) [] desktop c
  pub former : RemembersFormer size base start deeds desktop c

-- The same with an event behind that.
pub record GoesOnBy (size base : ℕ) (start : Start) (deeds : List PastDeed) (desktop : Desktop)
    (event : Event) (c : Content)
    : Type 0 where
  pub anew : Remembers size (begun_at desktop (start.before + length deeds) base)
      (posted event ∷ []) (step desktop event).desktop c
  pub former : RemembersFormer size base start deeds desktop c

module _ {D : Type 0} (d : Ghosts D) where
  -- A past begins with what the store shows, from this sector on, and its start has copies of all sectors of the store.
  pub record HasBegun (base : ℕ) (old new : StoreView D) : Type 0 where
    pub before : ℕ
    pub keeps : KeepsAll d (begun_at old.desktop before base) [] old.desktop new
    pub next : keeps.remembers.standing.past.next ≡ base + STORE_SECTORS
    pub copies : HasCopies base 0 STORE_SECTORS (now (d.trail old.disk)).reads
        (now (d.trail new.disk)).reads

  -- a start from this sector on touches no sector of the past
  abbrev pub IsApart : {start : Start} {deeds : List PastDeed} {desktop : Desktop}
      {store : StoreView D} → ℕ → KeepsAll d start deeds desktop store → Type 0
  IsApart {start = start} base keeps =
      (base + STORE_SECTORS ≤ start.base) ⊎ (keeps.remembers.standing.past.next ≤ base)

  -- Nothing is forgotten: at every moment of the call a crash leaves the past that there was, or that and one that
  -- begins behind it.
  abbrev pub ForgetsNoneBefore : ℕ → StoreView D → StoreView D → Type 0
  ForgetsNoneBefore base old new = d.honest old.disk → (start : Start) (deeds : List PastDeed)
      (desktop : Desktop) → (keeps : KeepsAll d start deeds desktop old) → IsApart base keeps
      → LeavesOnly (d.trail old.disk) (d.trail new.disk)
      (λ c. Remembers (d.size old.disk) start deeds desktop c
      ⊎ GoesOnFrom (d.size old.disk) base start deeds desktop c)

  -- Ok: the latter
  abbrev pub BeginsBehind : ℕ → StoreView D → StoreView D → Type 0
  BeginsBehind base old new = d.honest old.disk → (start : Start) (deeds : List PastDeed)
      (desktop : Desktop) → (keeps : KeepsAll d start deeds desktop old) → IsApart base keeps
      → GoesOnFrom (d.size old.disk) base start deeds desktop (now (d.trail new.disk)).reads

  -- Both: a past begins with what the store shows, behind the one that there was, if there was one.
  pub record IsBegunNow (base : ℕ) (old new : StoreView D) : Type 0 where
    pub anew : d.honest old.disk → HasBegun base old new
    pub behind : BeginsBehind base old new
