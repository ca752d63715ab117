-- What a call does to a page, and what a host is handed of it. `d` is what is known of the disk.
use Rattle.std.specs.Prelude.{◌≡◌, ◌+◌, ◌⊎◌, ℕ, List, Bool, Option, Some, None, is_none, true, false}
use Rattle.sector_disk.specs.declared.disk.Disk.{Ghosts}
use Rattle.sector_disk.specs.Memory.{zero_moment}
use Rattle.sector_disk.specs.Trail.{now}
use Rattle.desktop_definitions.specs.declared.reply.Reply.TheVariants.{Done, No}
use Rattle.desktop_definitions.specs.Desktop.{empty_desktop}
use Rattle.desktop_definitions.specs.Shown.{shown_screen}
use Rattle.desktop_definitions.specs.Step.{steps}
use Rattle.starter_desktop.specs.StarterDesktop.{furnishing}
pub use Rattle.document_filing.specs.Bringing.{Documents}
use Rattle.store_layout.specs.declared.layout.TheConstants.{LAST_EPOCH}
use Rattle.store_layout.specs.Finding.{IsForeign, IsDamagedAt}
use Rattle.desk_journal.specs.Bringing.{LeavesAllOrNone}
use Rattle.desk_journal.specs.Checkpointing.{LeavesDesktop}
use Rattle.desk_journal.specs.Device.{IsOnlyRead}
use Rattle.desk_journal.specs.Errors.{Error, NotAStore, Damaged, Worn, Fault, NoMemory, MustReopen}
use Rattle.desk_journal.specs.Opening.{IsOpened}
use Rattle.desk_journal.specs.Posting.{IsLast}
use Rattle.desk_journal.specs.Undoing.{ShowsStanding}
use Rattle.desk_journal.specs.View.{StoreView, IsDurable}
use Rattle.store_layout.specs.Meaning.{Standing}
use Rattle.desk_past.specs.Bringing.{BringsOn, IsBroughtIn}
use Rattle.desk_past.specs.Going.{ForgetsNone, IsDueOutset, IsOutsetOf}
use Rattle.desk_past.specs.Writing.{LiesInOldest, WritesOnly}
use Rattle.desk_past.specs.declared.going_on.Outset.{Outset}
use Rattle.terminal_keyboard.specs.Presses.{at_rest, parser_after, presses_heard}
use Rattle.desk_sitting.specs.declared.sitting.TheConstants.{MOST_TURNS}
use Rattle.desk_sitting.specs.declared.sitting.Sitting.{Sitting}
use Rattle.status_line.specs.declared.saying.Saying.TheVariants.{Greeting}
use Rattle.desk_sitting.specs.Sittings.{new_sitting}
use Rattle.desk_sitting.specs.Travels.{IsTravelled}
use Rattle.desk_sitting.specs.TheDesk.{the_desk}
use Rattle.screen_drawing.specs.Drawn.{drawing_of}
use Rattle.page_disks.specs.Recording.{Recording, first_moment, forgotten}
use Rattle.page_disks.specs.Spelling.{spelling_of_calls}
use Rattle.desk_page.specs.declared.page.Page.{Page}
use Rattle.viewer_tracks.specs.declared.display.TheConstants.{COLUMNS}
use Rattle.desk_page.specs.declared.page.TheConstants.{HEIGHT}
use Rattle.desk_page.specs.Hearing.{Hears, heard_of}
use Rattle.desk_page.specs.Lines.{page_line, page_shown}
use Rattle.desk_page.specs.declared.scene.Scene.{Scene}

-- a page over the disk in memory whose calls are spelled
abbrev pub HostPage : Type 0
HostPage = Page Recording

-- Why a page isn't handed out: for want of memory (the disk stands in it), or since its store had to be opened again.
abbrev pub IsWithheld : HostPage → Error → Type 0
IsWithheld page error = (error ≡ NoMemory) ⊎ (error ≡ Fault)
    ⊎ (error ≡ MustReopen) × (page.store.must_reopen ≡ true)

-- the errors of what is done in memory, in which the disk stands
abbrev pub IsOfMemory : Error → Type 0
IsOfMemory error = (error ≡ NoMemory) ⊎ (error ≡ Fault)

-- the errors of what is asked for beside the presses
abbrev pub OfTravels : Error → Type 0
OfTravels error = (error ≡ NoMemory) ⊎ (error ≡ Fault) ⊎ (error ≡ MustReopen)

-- why a call stops that ends an epoch: so, or since no epoch comes behind the one in use
abbrev pub IsStopped : HostPage → Error → Type 0
IsStopped old error = IsWithheld old error ⊎ (error ≡ Worn) × IsLast old.store

module _ (d : Ghosts Recording) where
  -- A host is handed the drawing of what the page shows, the line below it, and each call of its disk that it hasn't been
  -- told, after which a crash leaves what the page shows. It is the same page afterwards, but that it was shown.
  -- What its disk has still to tell writes nothing.
  pub record IsHanded (page after : HostPage) (scene : Scene) : Type 0 where
    pub durable : IsDurable d page.store
    pub drawn : scene.drawing.items ≡ drawing_of (shown_screen page.store.desktop)
    pub line : scene.line.items ≡ page_line (shown_screen page.store.desktop) after.sitting
    pub told : scene.calls.items ≡ spelling_of_calls page.store.disk.since
    pub rings : scene.rings ≡ page.sitting.rings
    pub desktop : after.store.desktop ≡ page.store.desktop
    pub sitting : after.sitting ≡ page_shown page.store.desktop page.sitting
    pub parser : after.parser ≡ page.parser
    pub usable : after.store.must_reopen ≡ false
    pub forgot : IsOnlyRead d (forgotten page.store.disk) after.store.disk

  -- A page before a new store. All calls of its disk, which was one of zeros, are to be told.
  pub record IsMade (page : HostPage) : Type 0 where
    pub desktop : page.store.desktop ≡ steps empty_desktop furnishing
    pub whole : first_moment page.store.disk ≡ zero_moment
    pub durable : IsDurable d page.store
    pub sitting : page.sitting ≡ new_sitting HEIGHT COLUMNS Greeting true
    pub parser : page.parser ≡ at_rest
    pub usable : page.store.must_reopen ≡ false

  -- A page before the store on a disk that was loaded. What its disk has to tell only read it.
  pub record IsOpenedPage (disk : Recording) (page : HostPage) : Type 0 where
    pub opened : IsOpened d disk page.store
    pub read : IsOnlyRead d disk page.store.disk
    pub durable : IsDurable d page.store
    pub sitting : page.sitting ≡ new_sitting HEIGHT COLUMNS Greeting true
    pub parser : page.parser ≡ at_rest
    pub usable : page.store.must_reopen ≡ false

  abbrev pub IsMadeOrFound : Option Recording → HostPage → Type 0
  IsMadeOrFound None page = IsMade page
  IsMadeOrFound (Some disk) page = IsOpenedPage disk page

  -- The same page, whose store keeps a past from now on, if its events can be counted. At every moment of that a crash leaves
  -- what it showed, and of a past that it kept nothing is forgotten.
  pub record KeepsPastOn (old new : HostPage) : Type 0 where
    pub any_moment : LeavesDesktop d old.store new.store
    pub none_forgotten : ForgetsNone d old.store new.store
    pub came_of : Outset
    pub due : (s : Standing) → ShowsStanding d old.store s → IsDueOutset d true old.store s came_of
    pub comes : IsOutsetOf d old.store new.store came_of
    pub others : WritesOnly d (LiesInOldest (d.size old.store.disk)
        (now (d.trail old.store.disk)).reads) old.store new.store
    pub sitting : new.sitting ≡ old.sitting
    pub parser : new.parser ≡ old.parser
    pub usable : new.store.must_reopen ≡ false

  -- If its epochs are used up it stays as it is.
  abbrev pub KeepsFrom : HostPage → HostPage → Type 0
  KeepsFrom old new = KeepsPastOn old new ⊎ (old.store.epoch ≡ LAST_EPOCH) × (new ≡ old)

  -- It stands before the store on the disk that was loaded, or before a new one where none was. If that is to be, it keeps a
  -- past from now on.
  pub record Begins (past : Bool) (loaded : Option Recording) (page : HostPage) : Type 0 where
    pub first : HostPage
    pub is : IsMadeOrFound loaded first
    pub keeps : past ≡ true → KeepsFrom first page
    pub stays : past ≡ false → page ≡ first

  -- Why there is none. What was loaded is said to be no store, or a damaged one, only where it is.
  pub data IsNotBegun (loaded : Option Recording) : Error → Type 0 where
    starved : IsNotBegun loaded NoMemory
    faulty : IsNotBegun loaded Fault
    foreign : (disk : Recording) → loaded ≡ Some disk
        → IsForeign (d.size disk) (now (d.trail disk)).reads → IsNotBegun loaded NotAStore
    damaged : (disk : Recording) (n : ℕ) → loaded ≡ Some disk
        → IsDamagedAt (d.size disk) (now (d.trail disk)).reads n → IsNotBegun loaded (Damaged n)

  -- The same page, all calls of whose disk are told: a crash had left what it shows.
  pub record IsToldAll (old new : HostPage) : Type 0 where
    pub left : IsDurable d old.store
    pub desktop : new.store.desktop ≡ old.store.desktop
    pub sitting : new.sitting ≡ old.sitting
    pub parser : new.parser ≡ old.parser
    pub durable : IsDurable d new.store
    pub usable : new.store.must_reopen ≡ false
    pub forgot : new.store.disk ≡ forgotten old.store.disk

  -- what is asked for beside the presses is done, so many steps one after another
  pub data AreTravelled : ℕ → Sitting → Sitting → StoreView Recording → StoreView Recording
      → Type 0 where
    none : {s : Sitting} {store : StoreView Recording} → AreTravelled 0 s s store store
    one_more : {count : ℕ} {s s' s'' : Sitting} {old mid new : StoreView Recording}
        → AreTravelled count s s' old mid → is_none s'.travels ≡ false
        → IsTravelled the_desk d s' s'' mid new → AreTravelled (count + 1) s s'' old new

  -- What is pressed by these bytes and a quiet while is done, press after press, as at a terminal; then what they ask
  -- for, until nothing is asked for; and the page that this comes to is handed to the host.
  pub record Presses (bytes : List ℕ) (old after : HostPage) (scene : Scene) : Type 0 where
    pub sitting : Sitting
    pub store : StoreView Recording
    pub hears : Hears d (presses_heard old.parser (heard_of bytes)) old.sitting sitting
        old.store store
    pub page : HostPage
    pub parser : page.parser ≡ parser_after old.parser (heard_of bytes)
    pub steps : ℕ
    pub travelled : AreTravelled steps sitting page.sitting store page.store
    pub rests : is_none page.sitting.travels ≡ true
    pub handed_over : IsHanded page after scene

  -- More is asked for by them than so many steps can do.
  pub record IsEndless (bytes : List ℕ) (old : HostPage) : Type 0 where
    pub sitting : Sitting
    pub store : StoreView Recording
    pub hears : Hears d (presses_heard old.parser (heard_of bytes)) old.sitting sitting
        old.store store
    pub last : Sitting
    pub new : StoreView Recording
    pub steps : ℕ
    pub many : steps ≡ MOST_TURNS
    pub travelled : AreTravelled steps sitting last store new

  -- why they aren't done
  abbrev pub IsNotPressed : List ℕ → HostPage → Error → Type 0
  IsNotPressed bytes old error = IsWithheld old error ⊎ (error ≡ MustReopen) × IsEndless bytes old

  -- The documents are brought, at every moment all or none, the past goes on over that, and the page that this comes to is
  -- handed to the host.
  pub record Brings (documents : Documents) (old after : HostPage) (scene : Scene) : Type 0 where
    pub page : HostPage
    pub any_moment : LeavesAllOrNone d documents old.store page.store
    pub brought : IsBroughtIn d documents Done old.store page.store
    pub nothing_forgotten : BringsOn d documents old.store page.store
    pub sitting : page.sitting ≡ old.sitting
    pub parser : page.parser ≡ old.parser
    pub handed_over : IsHanded page after scene

  -- There is no room for them: the page is as it was, and nothing was written.
  pub record TurnsDown (documents : Documents) (old after : HostPage) : Type 0 where
    pub code : ℕ
    pub refused : IsBroughtIn d documents (No code) old.store after.store
    pub sitting : after.sitting ≡ old.sitting
    pub parser : after.parser ≡ old.parser

  -- by whether a host is handed anything
  abbrev pub BringsOrTurnsDown : Documents → HostPage → HostPage → Option Scene → Type 0
  BringsOrTurnsDown documents old after (Some scene) = Brings documents old after scene
  BringsOrTurnsDown documents old after None = TurnsDown documents old after
