-- What is written behind the sectors of a store, which nothing that it shows rests on. `d` is what is known of a disk.
use Rattle.std.specs.Prelude.{◌≡◌, ◌⊎◌, ◌*◌, ◌+◌, ◌-◌, ◌<◌, ◌≤◌, ◌^◌, false, ℕ, List, IfOk, OnOk, Result}
use Rattle.sector_disk.specs.declared.disk.Disk.{Ghosts}
use Rattle.sector_disk.specs.declared.disk.TheConstants.{SECTOR_BYTES}
use Rattle.sector_disk.specs.Stored.{HoldsBytes}
use Rattle.sector_disk.specs.Confined.{IsConfined}
use Rattle.sector_disk.specs.Faults.{FailsAs}
use Rattle.sector_disk.specs.Trail.{Content, CountsFault, now, LeavesOnly}
use Rattle.event_bytes.specs.declared.event.Event.{Event}
use Rattle.desktop_definitions.specs.Desktop.{Desktop}
use Rattle.desktop_definitions.specs.declared.reply.Reply.{Reply}
use Rattle.desktop_definitions.specs.declared.reply.Reply.TheVariants.{Done}
use Rattle.document_filing.specs.Bringing.{Documents, brought_in}
use Rattle.store_layout.specs.declared.head.PastEnd.{PastEnd}
use Rattle.store_layout.specs.declared.layout.TheConstants.{STORE_SECTORS}
use Rattle.store_layout.specs.Meaning.{Standing, Stands, and_then, desktop_of}
use Rattle.store_slots.specs.Beside.{StandsBeside, StandsOneOf}
use Rattle.store_layout.specs.Filling.{InRange}
use Rattle.store_slots.specs.Device.{IsSameDevice}
use Rattle.store_slots.specs.Written.{KeepsShown, anew_from, IsBeside}
use Rattle.store_slots.specs.Live.{seen_live}
use Rattle.store_slots.specs.declared.live.LiveDesktop.{LiveDesktop}
use Rattle.store_slots.specs.declared.place.SlotPlace.{SlotPlace}
use Rattle.desk_journal.specs.Posting.{AnswersMustReopen, HasJournalRoom}
use Rattle.desk_journal.specs.Undoing.{IsAdded, ShowsStanding}
use Rattle.store_slots.specs.declared.error.Error.{Error}
use Rattle.store_slots.specs.declared.error.Error.TheVariants.{Fault}
use Rattle.desk_journal.specs.View.{StoreView, IsDurable}

-- So many bytes have room behind a store of so many sectors, in `limit` sectors from this one on.
pub record FitBehind (size from limit count : ℕ) : Type 0 where
  pub behind : STORE_SECTORS ≤ from
  pub some : 0 < limit
  pub numbered : from + limit < 2 ^ 32
  pub room : from + limit ≤ size
  pub fits : count ≤ SECTOR_BYTES * limit

-- the same desktop at the beginning of the next journal, in the other slot, whose head tells of this past
abbrev pub renewed_from : PastEnd → Standing → Standing
renewed_from past s = anew_from s (1 - s.slot) past (desktop_of s)

-- and another desktop, with all these documents
abbrev pub brought_from : PastEnd → Documents → Standing → Standing
brought_from past documents s =
    anew_from s (1 - s.slot) past (brought_in (desktop_of s) documents).desktop

-- and another desktop, this one
abbrev pub turned_from : PastEnd → Desktop → Standing → Standing
turned_from past desktop s = anew_from s (1 - s.slot) past desktop

-- the content shows the one, or the other and has these bytes behind the store, from this sector on
abbrev pub StandsWith : ℕ → Standing → Standing → ℕ → List ℕ → Content → Type 0
StandsWith size s t from bytes c = (Stands size c t × HoldsBytes c from bytes) ⊎ Stands size c s

module _ {D : Type 0} (d : Ghosts D) where
  -- at every moment of a post to a store with room a crash leaves what the disk showed, or that with
  -- the event behind it
  abbrev pub LeavesPosted : Event → StoreView D → StoreView D → Type 0
  LeavesPosted event old new = HasJournalRoom old → old.must_reopen ≡ false → d.honest old.disk
      → (s : Standing) → ShowsStanding d old s
      → LeavesOnly (d.trail old.disk) (d.trail new.disk)
      (StandsOneOf (d.size old.disk) s (and_then s event))

  -- where the event stands on the disk: at each moment of a post, and at Ok
  pub record AddsEvent {T : Type 0} (event : Event) (result : Result T Error)
      (old new : StoreView D)
      : Type 0 where
    pub moments : LeavesPosted event old new
    pub done : OnOk result (IsAdded d event old new)

  -- at every moment of the call a crash leaves what the disk showed, or what comes of it
  abbrev pub LeavesNext : (Standing → Standing) → StoreView D → StoreView D → Type 0
  LeavesNext next old new = old.must_reopen ≡ false → d.honest old.disk
      → (s : Standing) → ShowsStanding d old s
      → LeavesOnly (d.trail old.disk) (d.trail new.disk) (StandsOneOf (d.size old.disk) s (next s))

  -- and when it is done the disk shows the latter
  abbrev pub ShowsNext : (Standing → Standing) → StoreView D → StoreView D → Type 0
  ShowsNext next old new = d.honest old.disk → (s : Standing) → ShowsStanding d old s
      → ShowsStanding d new (next s)

  -- and the slot that was in use stands beside it as it was
  abbrev pub LeavesFormer : StoreView D → StoreView D → Type 0
  LeavesFormer old new = d.honest old.disk → (s : Standing) → ShowsStanding d old s
      → StandsBeside (now (d.trail new.disk)).reads (1 - s.slot) s

  -- Ok of a checkpoint, or of documents that were brought
  pub record GoesToNext (next : Standing → Standing) (old new : StoreView D) : Type 0 where
    pub shows : ShowsNext next old new
    pub former : LeavesFormer old new

  -- at every moment of the call a crash leaves what the disk showed: the same slot, epoch, start and
  -- events
  abbrev pub KeepsStanding : StoreView D → StoreView D → Type 0
  KeepsStanding old new = old.must_reopen ≡ false → d.honest old.disk → (s : Standing)
      → ShowsStanding d old s
      → LeavesOnly (d.trail old.disk) (d.trail new.disk) (λ c. Stands (d.size old.disk) c s)

  -- Ok: the store shows what it showed, and these bytes are on the medium, from this sector on.
  pub record IsWrittenBehind (from : ℕ) (bytes : List ℕ) (old new : StoreView D) : Type 0 where
    pub desktop : d.honest old.disk → new.desktop ≡ old.desktop
    pub kept : new.kept ≡ old.kept
    pub layout : new.layout ≡ old.layout
    pub epoch : new.epoch ≡ old.epoch
    pub events : new.events ≡ old.events
    pub usable : new.must_reopen ≡ false
    pub durable : IsDurable d new
    pub held : d.honest old.disk → HoldsBytes (now (d.trail new.disk)).reads from bytes
    pub quiet : d.honest old.disk → (n : ℕ) → (now (d.trail new.disk)).pending n ≡ false
    -- what it showed, event by event
    pub shown : d.honest old.disk → (s : Standing) → ShowsStanding d old s → ShowsStanding d new s

  -- ---- bytes that are written behind a store before what comes of it counts

  -- no sector was touched but those of a store and so many from this one on
  abbrev pub StaysBehind : ℕ → ℕ → D → D → Type 0
  StaysBehind from limit old new = IsConfined d.size d.honest d.trail
      (λ n. (n < STORE_SECTORS) ⊎ InRange from limit n) old new

  -- What a write to a store and behind it leaves of the device, whatever it returns: the same one, no other sector
  -- touched, and an error exactly where a failure was counted.
  pub record UsesBehind {T E : Type 0} (from limit : ℕ) (answer : Result T E) (old new : D)
      : Type 0 where
    pub device : IsSameDevice d old new
    pub within : StaysBehind from limit old new
    pub cause : CountsFault answer (d.failures old) (d.failures new)

  -- The same of a call on a store: MustReopen changes nothing, and each error is one of the call's.
  pub record BehavesBehind {T : Type 0} (OfCall : Error → Type 0) (from limit : ℕ)
      (answer : Result T Error) (old new : StoreView D)
      : Type 0 where
    pub reopen : AnswersMustReopen answer old new
    pub faults : FailsAs Fault OfCall answer (d.failures old.disk) (d.failures new.disk)
    pub device : IsSameDevice d old.disk new.disk
    pub within : StaysBehind from limit old.disk new.disk

  -- At each moment a crash leaves what the disk shows by the slot beside the place, or this desktop at the beginning of
  -- the next journal, and these bytes.
  abbrev pub KeepsWith : SlotPlace → ℕ → List ℕ → LiveDesktop → D → D → Type 0
  KeepsWith place from bytes desktop old new =
      d.honest old → (live version number count : ℕ) (before : Desktop)
      → (was : IsBeside place (d.size old) (d.trail old) live version number count before)
      → LeavesOnly (d.trail old) (d.trail new)
      (StandsWith (d.size old) was.kept.standing (anew_from was.kept.standing place.slot place.past
      (seen_live (now (d.trail old)).reads desktop)) from bytes)

  -- and the desktop that it showed, or this one
  pub record KeepsEitherWith (place : SlotPlace) (from : ℕ) (bytes : List ℕ) (desktop : LiveDesktop)
      (old new : D)
      : Type 0 where
    pub shown : KeepsShown d place desktop old new
    pub standings : KeepsWith place from bytes desktop old new

  -- at every moment of the call a crash leaves what the disk showed, or what comes of it, and these bytes
  abbrev pub LeavesNextWith : (Standing → Standing) → ℕ → List ℕ → StoreView D → StoreView D
      → Type 0
  LeavesNextWith next from bytes old new = old.must_reopen ≡ false → d.honest old.disk
      → (s : Standing) → ShowsStanding d old s
      → LeavesOnly (d.trail old.disk) (d.trail new.disk)
      (StandsWith (d.size old.disk) s (next s) from bytes)

  -- and when it is done the disk shows the latter, and has them
  pub record GoesToNextWith (next : Standing → Standing) (from : ℕ) (bytes : List ℕ)
      (old new : StoreView D)
      : Type 0 where
    pub shows : ShowsNext next old new
    pub former : LeavesFormer old new
    pub held : d.honest old.disk → HoldsBytes (now (d.trail new.disk)).reads from bytes

  -- where documents stand on the disk: at each moment while they come, and when they have come
  pub record ComesWith (next : Standing → Standing) (from : ℕ) (bytes : List ℕ)
      (answer : Result Reply Error) (old new : StoreView D)
      : Type 0 where
    pub moments : LeavesNextWith next from bytes old new
    pub done : IfOk answer (λ reply. reply ≡ Done → GoesToNextWith next from bytes old new)

  -- where a desktop stands on the disk to which a store turns: at each moment of the turn, and at Ok
  pub record TurnsWith {T : Type 0} (next : Standing → Standing) (from : ℕ) (bytes : List ℕ)
      (answer : Result T Error) (old new : StoreView D)
      : Type 0 where
    pub moments : LeavesNextWith next from bytes old new
    pub done : OnOk answer (GoesToNextWith next from bytes old new)
