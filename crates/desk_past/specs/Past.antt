-- The past of a store: a start, and behind it the pages up to the sector that the head of the slot in use names.
use Rattle.std.specs.Prelude.{◌≡◌, ◌⊎◌, ◌<◌, ◌≤◌, ◌^◌, ℕ, ◌+◌, ◌-◌, List, [], ◌∷◌, ◌++◌, length, take, false, true}
use Rattle.sector_disk.specs.Stored.{HoldsBytes}
use Rattle.sector_disk.specs.Trail.{Content, now, LeavesOnly}
use Rattle.sector_disk.specs.declared.disk.Disk.{Ghosts}
use Rattle.event_bytes.specs.declared.event.Event.{Event}
use Rattle.desktop_definitions.specs.Desktop.{Desktop}
use Rattle.store_layout.specs.declared.head.PastEnd.{PastEnd}
use Rattle.store_layout.specs.declared.layout.TheConstants.{LAYOUT, STORE_SECTORS}
use Rattle.store_layout.specs.Meaning.{Standing, Stands, desktop_of}
use Rattle.desk_journal.specs.View.{StoreView}
use Rattle.past_pages.specs.Copies.{Sectors}
use Rattle.past_pages.specs.Page.{Page, of_copy, of_events, of_import, of_turn, IsGoodPage, copy_of, journal_of}
use Rattle.past_pages.specs.Page.{page_bytes, page_sectors}
use Rattle.past_pages.specs.Laying.{StandsFrom}
use Rattle.desk_past.specs.Deeds.{PastDeed, after_deeds, all_posted, brought, turned}

-- Where a past begins: this desktop, before which so many deeds came. It stands as a store of its own from sector
-- `base` on, and the first page right behind that.
pub record Start : Type 0 where
  pub desktop : Desktop
  pub before : ℕ
  pub base : ℕ

abbrev pub first_page : Start → ℕ
first_page start = start.base + STORE_SECTORS

-- the content has the start
pub record HasStart (c : Content) (start : Start) : Type 0 where
  pub standing : Standing
  pub stands : StandsFrom c start.base standing
  pub is : desktop_of standing ≡ start.desktop
  pub counted : standing.past.before + length standing.events ≡ start.before

-- from this sector on the pages stand, each from the beginning of a sector
abbrev pub HasPages : Content → ℕ → List Page → Type 0
HasPages c at [] = Unit {0}
HasPages c at (p ∷ pages) = HoldsBytes c at (page_bytes p) × HasPages c (at + page_sectors p) pages

-- the sector behind the last of them
abbrev pub end_of_pages : ℕ → List Page → ℕ
end_of_pages at [] = at
end_of_pages at (p ∷ pages) = end_of_pages (at + page_sectors p) pages

-- the start, and the pages behind it
abbrev pub HoldsPages : Content → Start → List Page → Type 0
HoldsPages c start pages = HasStart c start × HasPages c (first_page start) pages

-- what a page says was done
abbrev pub deeds_in : Page → List PastDeed
deeds_in (of_events version events) = all_posted events
deeds_in (of_import version documents) = brought documents ∷ []
deeds_in (of_turn version k to) = turned to ∷ []
deeds_in (of_copy version false sectors to) = []
deeds_in (of_copy version true sectors to) = turned to ∷ []

-- all that some pages say was done, in order
abbrev pub all_deeds : List Page → List PastDeed
all_deeds [] = []
all_deeds (p ∷ pages) = deeds_in p ++ all_deeds pages

-- ---- moments

-- Moment k of a past: the desktop after the deeds that came before it. An import is one of them.
abbrev pub moment : Start → List PastDeed → ℕ → Desktop
moment start deeds k = after_deeds start.desktop (take (k - start.before) deeds)

-- there is such a moment
pub record HasMoment (start : Start) (deeds : List PastDeed) (k : ℕ) : Type 0 where
  pub low : start.before ≤ k
  pub high : k ≤ start.before + length deeds

-- ---- which pages count

-- each of these pages can be read
abbrev pub AreGood : List Page → Type 0
AreGood [] = Unit {0}
AreGood (p ∷ pages) = IsGoodPage p × AreGood pages

-- A turn that comes behind these deeds leads to what the desktop was at its moment, and a mark has the desktop to which
-- they led. A far turn leads to any desktop, which its page has.
abbrev pub IsTurn : Start → List PastDeed → Page → Type 0
IsTurn start deeds (of_events version events) = Unit {0}
IsTurn start deeds (of_import version documents) = Unit {0}
IsTurn start deeds (of_turn version k to) = HasMoment start deeds k × (to ≡ moment start deeds k)
IsTurn start deeds (of_copy version false sectors to) = to ≡ after_deeds start.desktop deeds
IsTurn start deeds (of_copy version true sectors to) = Unit {0}

-- so does each of these pages, the first of which comes behind these deeds
abbrev pub AreTurns : Start → List PastDeed → List Page → Type 0
AreTurns start deeds [] = Unit {0}
AreTurns start deeds (p ∷ pages) =
    IsTurn start deeds p × AreTurns start (deeds ++ deeds_in p) pages

-- The content shows this, and has this past: the start, and pages up to the sector that the head names. As many deeds
-- came before as the head says, and they lead from the start to what the slot in use starts from.
pub record HoldsPast (size : ℕ) (start : Start) (s : Standing) (pages : List Page) (c : Content)
    : Type 0 where
  pub stands : Stands size c s
  pub newest : s.version ≡ LAYOUT
  pub written : HoldsPages c start pages
  pub good : AreGood pages
  pub turns : AreTurns start [] pages
  pub up_to : end_of_pages (first_page start) pages ≡ s.past.next
  pub room : s.past.next ≤ size
  pub counted : start.before + length (all_deeds pages) ≡ s.past.before
  pub leads : after_deeds start.desktop (all_deeds pages) ≡ s.start

-- The content has a past from this start: these are all its deeds up to the present, and this is the desktop that it
-- shows.
pub record Remembers (size : ℕ) (start : Start) (deeds : List PastDeed) (desktop : Desktop)
    (c : Content)
    : Type 0 where
  pub standing : Standing
  pub pages : List Page
  pub past : HoldsPast size start standing pages c
  pub all : all_deeds pages ++ all_posted standing.events ≡ deeds
  pub is : desktop_of standing ≡ desktop

-- ---- stores

-- A store in use shows this desktop, and has all these deeds behind this start.
pub record KeepsAll {D : Type 0} (d : Ghosts D) (start : Start) (deeds : List PastDeed)
    (desktop : Desktop) (store : StoreView D)
    : Type 0 where
  pub usable : store.must_reopen ≡ false
  pub behind : STORE_SECTORS ≤ start.base
  pub remembers : Remembers (d.size store.disk) start deeds desktop
      (now (d.trail store.disk)).reads

-- this is what the head in use tells of the past
abbrev pub IsHeadTold : {D : Type 0} (d : Ghosts D) {start : Start} {deeds : List PastDeed}
    {desktop : Desktop} {store : StoreView D} → PastEnd → KeepsAll d start deeds desktop store
    → Type 0
IsHeadTold d told keeps = told ≡ keeps.remembers.standing.past

-- each of these pages is a mark that has this desktop
abbrev pub AreMarkPages : Desktop → List Page → Type 0
AreMarkPages desktop [] = Unit {0}
AreMarkPages desktop (p ∷ pages) = (sectors : Sectors) × (p ≡ copy_of false sectors desktop)
    × IsGoodPage p × AreMarkPages desktop pages

-- The same, and behind those pages stand the page of the journal in use, and marks or none, up to this end, which don't
-- count yet.
pub record HasNewPage {D : Type 0} (d : Ghosts D) (start : Start) (deeds : List PastDeed)
    (desktop : Desktop) (end : PastEnd) (store : StoreView D)
    : Type 0 where
  pub keeps : KeepsAll d start deeds desktop store
  pub marks : List Page
  pub are : AreMarkPages desktop marks
  pub held : HasPages (now (d.trail store.disk)).reads keeps.remembers.standing.past.next
      (journal_of keeps.remembers.standing ∷ marks)
  pub short : length (page_bytes (journal_of keeps.remembers.standing)) < 2 ^ 32
  pub up_to : end_of_pages keeps.remembers.standing.past.next
      (journal_of keeps.remembers.standing ∷ marks) ≡ end.next
  pub room : end.next ≤ d.size store.disk
  pub counted : keeps.remembers.standing.past.before + length keeps.remembers.standing.events
      ≡ end.before

-- At every moment between the two a crash leaves all of these deeds, and the desktop to which they led.
abbrev pub LeavesAll : {D : Type 0} → Ghosts D → Start → List PastDeed → Desktop → StoreView D
    → StoreView D → Type 0
LeavesAll d start deeds desktop old new = LeavesOnly (d.trail old.disk) (d.trail new.disk)
    (Remembers (d.size old.disk) start deeds desktop)

-- Some of the last events are taken back, at most so many: at every moment of the call a crash leaves the others, or
-- all.
abbrev pub UndoesSome : {D : Type 0} → Ghosts D → ℕ → StoreView D → StoreView D → Type 0
UndoesSome d count old new = d.honest old.disk → (start : Start) (deeds : List PastDeed)
    (desktop : Desktop) → KeepsAll d start deeds desktop old
    → (left : List PastDeed) × (back : List Event) × (before : Desktop)
    × (left ++ all_posted back ≡ deeds)
    × (length back ≤ count)
    × LeavesOnly (d.trail old.disk) (d.trail new.disk)
    (λ c. Remembers (d.size old.disk) start left before c
    ⊎ Remembers (d.size old.disk) start deeds desktop c)

-- These events, the last ones, were taken back, and the others are kept.
abbrev pub KeepsOthers : {D : Type 0} → Ghosts D → List Event → StoreView D → StoreView D → Type 0
KeepsOthers d back old new = d.honest old.disk → (start : Start) (deeds : List PastDeed)
    (desktop : Desktop) → KeepsAll d start deeds desktop old
    → (left : List PastDeed) × (before : Desktop) × (left ++ all_posted back ≡ deeds)
    × KeepsAll d start left before new

-- the present is the last moment
abbrev pub PresentLaw : Type 0
PresentLaw = (size : ℕ) (start : Start) (deeds : List PastDeed) (desktop : Desktop) (c : Content)
    → Remembers size start deeds desktop c
    → moment start deeds (start.before + length deeds) ≡ desktop

-- a content has one past at most from a start
abbrev pub OnePastLaw : Type 0
OnePastLaw = (size : ℕ) (start : Start) (deeds deeds' : List PastDeed) (desktop desktop' : Desktop)
    (c : Content) → Remembers size start deeds desktop c
    → Remembers size start deeds' desktop' c → (deeds ≡ deeds') × (desktop ≡ desktop')
