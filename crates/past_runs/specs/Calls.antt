-- Calls on a store with a past: what each promises, where it leads, and what a crash leaves amid it. `d` is what is known
-- of a disk.
use Rattle.std.specs.Prelude.{◌≡◌, ◌⊎◌, ◌+◌, ◌≤◌, ◌++◌, ◌∷◌, [], ℕ, List, length}
use Rattle.sector_disk.specs.declared.disk.Disk.{Ghosts}
use Rattle.sector_disk.specs.Trail.{Content, LeavesOnly}
use Rattle.event_bytes.specs.declared.event.Event.{Event}
use Rattle.desktop_definitions.specs.Desktop.{Desktop}
use Rattle.desktop_definitions.specs.declared.reply.Reply.TheVariants.{Done}
use Rattle.document_filing.specs.Bringing.{Documents}
use Rattle.desk_journal.specs.Device.{IsOnlyRead, IsSameDevice}
use Rattle.desk_journal.specs.Posting.{IsDueBefore}
use Rattle.desk_journal.specs.View.{StoreView}
use Rattle.past_pages.specs.Reading.{IsOnlyReadFrom, IsQuiet}
use Rattle.desk_past.specs.Beginning.{BeginsBehind, ForgetsNoneBefore, HasBegun, IsApart, RemembersFormer, begun_at}
use Rattle.desk_past.specs.Bringing.{BringsOn, CanBring, IsBroughtIn}
use Rattle.desk_past.specs.Deeds.{PastDeed, after_deeds, all_posted, brought, posted, turned}
use Rattle.desk_past.specs.Going.{LiesInPart}
use Rattle.desk_past.specs.Keeping.{CanGoOver, CanKeep, HasKept, HasKeptOver, KeepsOn, KeepsOver}
use Rattle.desk_past.specs.Past.{HasMoment, KeepsAll, KeepsOthers, LeavesAll, Remembers, Start, UndoesSome, moment}
use Rattle.desk_past.specs.Turning.{HasTurnedBack, HasTurnedTo, TurnsBack, TurnsTo}
use Rattle.desk_past.specs.Writing.{HasFormerPast}

-- ---- pasts

-- Where a past begins, and all that was done since then.
pub record Past : Type 0 where
  pub start : Start
  pub deeds : List PastDeed

-- the desktop to which it led, before which so many deeds came
abbrev pub present : Past → Desktop
present past = after_deeds past.start.desktop past.deeds

abbrev pub many_before : Past → ℕ
many_before past = past.start.before + length past.deeds

-- it has such a moment, and this is the desktop then
abbrev pub HasThen : Past → ℕ → Type 0
HasThen past k = HasMoment past.start past.deeds k

abbrev pub was_then : Past → ℕ → Desktop
was_then past k = moment past.start past.deeds k

-- the past with these deeds behind its own
abbrev pub with_deeds : Past → List PastDeed → Past
with_deeds past deeds = record { start = past.start; deeds = past.deeds ++ deeds }

-- one that begins behind it, from this sector on
abbrev pub begun_behind : Past → ℕ → Past
begun_behind past base = record {
  start = begun_at (present past) (many_before past) base;
  deeds = [];
}

-- it goes on with these deeds, or one begins behind it with them
abbrev pub GoesOver : Past → List PastDeed → Past → Type 0
GoesOver past deeds after = (after ≡ with_deeds past deeds)
    ⊎ ((base : ℕ) × (after ≡ with_deeds (begun_behind past base) deeds))

-- the content has this past, before the one that begins in this sector of another part
abbrev pub HasPastBefore : ℕ → ℕ → Past → Content → Type 0
HasPastBefore size base past c = HasFormerPast size base past.start past.deeds (present past) c

-- the content has this past, and shows what it led to
abbrev pub RemembersPast : ℕ → Past → Content → Type 0
RemembersPast size past c = Remembers size past.start past.deeds (present past) c

-- ---- calls

-- A call that was done: an event was posted, whatever the reply, in a part that isn't full, or in one from which the past
-- may go over to the next; documents came; the store was turned to a moment, whose desktop was known, or was worked out; at
-- most so many events were to be taken back, and these were; an epoch ended; a past began in this sector; or nothing was
-- written.
pub data PastCall : Type 0 where
  posts : Event → PastCall
  posts_over : Event → PastCall
  brings : Documents → PastCall
  turns_to : ℕ → Desktop → PastCall
  turns : ℕ → PastCall
  takes_back : ℕ → List Event → PastCall
  ends : PastCall
  begins : ℕ → PastCall
  looks : PastCall

-- Where a call leads a past: it has a deed more. Events that were taken back are those by which it was longer.
abbrev pub LeadsPast : PastCall → Past → Past → Type 0
LeadsPast (posts event) past after = after ≡ with_deeds past (posted event ∷ [])
LeadsPast (posts_over event) past after = GoesOver past (posted event ∷ []) after
LeadsPast (brings documents) past after = after ≡ with_deeds past (brought documents ∷ [])
LeadsPast (turns_to k to) past after = after ≡ with_deeds past (turned to ∷ [])
LeadsPast (turns k) past after = after ≡ with_deeds past (turned (was_then past k) ∷ [])
LeadsPast (takes_back count back) past after = past ≡ with_deeds after (all_posted back)
LeadsPast ends past after = after ≡ past
LeadsPast (begins base) past after = after ≡ begun_behind past base
LeadsPast looks past after = after ≡ past

-- Where it may lead, whatever it answers: an undo takes some of the last events back, at most so many; and a past may go
-- over without the event.
abbrev pub MayLeadPast : PastCall → Past → Past → Type 0
MayLeadPast (takes_back count back) past after = (some : List Event) × (length some ≤ count)
    × (past ≡ with_deeds after (all_posted some))
MayLeadPast (posts_over event) past after = GoesOver past (posted event ∷ []) after
    ⊎ ((base : ℕ) × (after ≡ begun_behind past base))
MayLeadPast call past after = LeadsPast call past after

-- what else stands where a past has begun: the former one
abbrev pub HoldsFormer : PastCall → ℕ → (past after : Past) → Content → Type 0
HoldsFormer (begins base) size past after c =
    RemembersFormer size base past.start past.deeds (present past) c
HoldsFormer (posts_over event) size past after c = (after.start ≡ past.start)
    ⊎ RemembersFormer size after.start.base past.start past.deeds (present past) c
HoldsFormer call size past after c = Unit {0}

module _ {D : Type 0} (d : Ghosts D) where
  -- a store in use shows what this past led to, and has all of its deeds
  abbrev pub KeepsDeeds : Past → StoreView D → Type 0
  KeepsDeeds past store = KeepsAll d past.start past.deeds (present past) store

  -- an epoch that ends: at every moment of the call a crash leaves all deeds
  abbrev pub LeavesAllOver : StoreView D → StoreView D → Type 0
  LeavesAllOver old new = d.honest old.disk → (start : Start) (deeds : List PastDeed)
      (desktop : Desktop) → KeepsAll d start deeds desktop old
      → LeavesAll d start deeds desktop old new

  -- Ok: they are kept
  abbrev pub KeepsAllOver : StoreView D → StoreView D → Type 0
  KeepsAllOver old new = d.honest old.disk → (start : Start) (deeds : List PastDeed)
      (desktop : Desktop) → KeepsAll d start deeds desktop old
      → KeepsAll d start deeds desktop new

  -- ---- what the calls promise, by the words of desk_past

  -- at every moment, whatever the call answers
  abbrev pub KeepsAmid : PastCall → StoreView D → StoreView D → Type 0
  KeepsAmid (posts event) old new = KeepsOn d event old new
  KeepsAmid (posts_over event) old new = KeepsOver d event old new
  KeepsAmid (brings documents) old new = BringsOn d documents old new
  KeepsAmid (turns_to k to) old new = TurnsTo d k to old new
  KeepsAmid (turns k) old new = TurnsBack d k old new
  KeepsAmid (takes_back count back) old new = UndoesSome d count old new
  KeepsAmid ends old new = LeavesAllOver old new
  KeepsAmid (begins base) old new = ForgetsNoneBefore d base old new
  KeepsAmid looks old new = IsOnlyRead d old.disk new.disk

  -- where it was done
  abbrev pub HasDone : PastCall → StoreView D → StoreView D → Type 0
  HasDone (posts event) old new = HasKept d event old new
  HasDone (posts_over event) old new = HasKeptOver d event old new
  HasDone (brings documents) old new = IsBroughtIn d documents Done old new
  HasDone (turns_to k to) old new = HasTurnedTo d k to old new
  HasDone (turns k) old new = HasTurnedBack d k old new
  HasDone (takes_back count back) old new = KeepsOthers d back old new
  HasDone ends old new = KeepsAllOver old new
  HasDone (begins base) old new =
      (d.honest old.disk → HasBegun d base old new) × BeginsBehind d base old new
  HasDone looks old new = IsOnlyReadFrom d old new

  -- what these promises ask of the past that the store keeps: room, or that there is such a moment
  abbrev pub Asks : PastCall → (past : Past) (store : StoreView D) → KeepsDeeds past store → Type 0
  Asks (posts event) past store keeps = IsDueBefore store → CanKeep d keeps
  Asks (posts_over event) past store keeps = IsDueBefore store → CanGoOver d keeps
  Asks (brings documents) past store keeps = CanBring d documents keeps
  Asks (turns_to k to) past store keeps = HasThen past k × (to ≡ was_then past k)
  Asks (turns k) past store keeps = LiesInPart d keeps
  Asks (takes_back count back) past store keeps = Unit {0}
  Asks ends past store keeps = Unit {0}
  Asks (begins base) past store keeps = IsApart d base keeps
  Asks looks past store keeps = IsQuiet d store

  abbrev pub FindsRoom : PastCall → Past → StoreView D → Type 0
  FindsRoom call past store = (keeps : KeepsDeeds past store) → Asks call past store keeps

  -- The call was tried on a device, which is the same one behind it.
  pub record TriesCall (call : PastCall) (old new : StoreView D) : Type 0 where
    pub amid : KeepsAmid call old new
    pub device : IsSameDevice d old.disk new.disk

  -- it was done
  pub record DoesCall (call : PastCall) (old new : StoreView D) : Type 0 where
    pub tries : TriesCall call old new
    pub done : HasDone call old new

  -- At every moment from the one state to the other a crash leaves this past, or one to which the call may lead: the same one
  -- at all of them, but where the past may go over.
  abbrev pub LeavesPast : PastCall → Past → StoreView D → StoreView D → Type 0
  LeavesPast (posts_over event) past old new = LeavesOnly (d.trail old.disk) (d.trail new.disk)
      (λ c. RemembersPast (d.size old.disk) past c ⊎ ((after : Past)
      × MayLeadPast (posts_over event) past after × RemembersPast (d.size old.disk) after c
      × HoldsFormer (posts_over event) (d.size old.disk) past after c))
  LeavesPast call past old new = (after : Past) × MayLeadPast call past after
      × LeavesOnly (d.trail old.disk) (d.trail new.disk)
      (λ c. RemembersPast (d.size old.disk) past c
      ⊎ RemembersPast (d.size old.disk) after c × HoldsFormer call (d.size old.disk) past after c)
