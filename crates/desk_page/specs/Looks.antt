-- A page whose past is shown. `d` is what is known of the disk.
use Rattle.std.specs.Prelude.{◌≡◌, ◌⊎◌, ℕ, List, [], Bool, true, Option, Some, None}
use Rattle.sector_disk.specs.declared.disk.Disk.{Ghosts}
use Rattle.desktop_definitions.specs.Desktop.{Desktop}
use Rattle.desktop_definitions.specs.Shown.{shown_screen}
use Rattle.screen_drawing.specs.Drawn.{drawing_of}
use Rattle.desk_journal.specs.Errors.{Error, Fault, NoMemory, MustReopen}
use Rattle.desk_journal.specs.View.{StoreView, IsDurable}
use Rattle.past_pages.specs.Reading.{IsOnlyReadFrom}
use Rattle.past_looks.specs.Looking.{IsAlike, IsLookerOf, ComesBackTo, StaysOrTurns, looker_line}
use Rattle.past_looks.specs.declared.looker.Doing.{Doing}
use Rattle.past_looks.specs.declared.looker.Doing.TheVariants.{Stays, Leaves, Turned}
use Rattle.past_looks.specs.declared.looker.Looker.{Looker}
use Rattle.status_line.specs.declared.saying.Saying.TheVariants.{Keys}
use Rattle.desk_sitting.specs.Sittings.{new_sitting}
use Rattle.desk_sitting.specs.declared.sitting.Sitting.{Sitting}
use Rattle.viewer_tracks.specs.declared.display.TheConstants.{COLUMNS}
use Rattle.desk_page.specs.Giving.{LooksAtStore}
use Rattle.page_disks.specs.Recording.{Recording}
use Rattle.desk_page.specs.declared.looks.Desk.{Desk}
use Rattle.desk_page.specs.declared.looks.Desk.TheVariants.{Present, Past}
use Rattle.desk_page.specs.declared.looks.Looking.{Looking}
use Rattle.desk_page.specs.declared.page.TheConstants.{HEIGHT}
use Rattle.desk_page.specs.declared.scene.Scene.{Scene}
use Rattle.desk_page.specs.Turns.{HostPage, IsHanded, IsNotPressed, IsWithheld, Presses}

-- the page, whatever is shown
abbrev pub page_of : Desk → HostPage
page_of (Present page) = page
page_of (Past looking) = looking.page

-- the desktop that is shown
abbrev pub shown_desktop : Desk → Desktop
shown_desktop (Present page) = page.store.desktop
shown_desktop (Past looking) = looking.looker.look.shown.desktop

-- why nothing is found in it: for want of memory, or since its store, in memory where it is a moment's, had to be opened again
abbrev pub must_reopen_of : Desk → Bool
must_reopen_of (Present page) = page.store.must_reopen
must_reopen_of (Past looking) = looking.looker.look.shown.must_reopen

abbrev pub IsOfLook : Desk → Error → Type 0
IsOfLook desk error = (error ≡ NoMemory) ⊎ (error ≡ Fault)
    ⊎ (error ≡ MustReopen) × (must_reopen_of desk ≡ true)

-- What a host is handed of a look: the drawing of what is shown, and the line below. Nothing is to be told of the disk.
pub record ShowsLook (looker : Looker) (scene : Scene) : Type 0 where
  pub drawn : scene.drawing.items ≡ drawing_of (shown_screen looker.look.shown.desktop)
  pub line : scene.line.items ≡ looker_line looker
  pub calls : scene.calls.items ≡ []

-- and what is shown is as it was before it was handed out
pub record HandsOutLook (looker looker' : Looker) (scene : Scene) : Type 0 where
  pub shows : ShowsLook looker' scene
  pub same : IsAlike looker looker'

-- Somebody looks at a moment: what is shown, the line below, what is sought and what was heard are as they were.
pub record LooksAtMoment (old new : Looking) : Type 0 where
  pub page : new.page ≡ old.page
  pub looker : IsAlike old.looker new.looker
  pub line : looker_line new.looker ≡ looker_line old.looker
  pub seeks : new.looker.seeks ≡ old.looker.seeks
  pub parser : new.parser ≡ old.parser

-- A sitting that begins anew before the same desk. Whether lines are broken stays.
abbrev pub seated_anew : Sitting → Sitting
seated_anew s = record (new_sitting HEIGHT COLUMNS Keys true) { fills = s.fills }

module _ (d : Ghosts Recording) where
  -- Somebody looks at what is shown: it is as it was.
  abbrev pub LooksAtDesk : Desk → Desk → Type 0
  LooksAtDesk (Present page) (Present page') = LooksAtStore d page.store page'.store
      × (page'.sitting ≡ page.sitting) × (page'.parser ≡ page.parser)
  LooksAtDesk (Past looking) (Past looking') = LooksAtMoment looking looking'
  LooksAtDesk before after = ⊥

  -- The page is as it was, but that its store was read.
  pub record IsSamePage (old new : HostPage) : Type 0 where
    pub read : IsOnlyReadFrom d old.store new.store
    pub sitting : new.sitting ≡ old.sitting
    pub parser : new.parser ≡ old.parser

  -- A scene shows what is looked at, and a crash leaves what the page shows at its present.
  pub record ShowsPast (looking : Looking) (scene : Scene) : Type 0 where
    pub shows : ShowsLook looking.looker scene
    pub durable : IsDurable d looking.page.store

  -- What is looked at, and named below, is a moment of the past of the page's store, or what the mouse has made of it in
  -- memory, and the words are those of what led to it.
  abbrev pub KnowsPast : Looking → Type 0
  KnowsPast looking = IsLookerOf d looking.looker looking.page.store

  -- `look_at`: the past of the page is shown, from its present on; or there is none that can be read.
  pub data LooksAtPast (old : HostPage) : Desk → Option Scene → Type 0 where
    shows : (looking : Looking) (scene : Scene) → IsSamePage old looking.page
        → ShowsPast looking scene → KnowsPast looking
        → LooksAtPast old (Past looking) (Some scene)
    has_none : (page : HostPage) → IsSamePage old page → LooksAtPast old (Present page) None

  -- The store is read first, and then turned back to the moment that was shown. At every moment of that a crash leaves what
  -- the page showed, or that moment, and of the past nothing is forgotten.
  pub record TurnsStore (looker : Looker) (old new : StoreView Recording) : Type 0 where
    pub mid : StoreView Recording
    pub read : IsOnlyReadFrom d old mid
    pub turned : IsLookerOf d looker old → ComesBackTo d looker.shown mid new
    pub any_moment : IsLookerOf d looker old → StaysOrTurns d looker.shown mid new

  -- What presses do: the same moment is shown, the store is only read, and what is known of its past stays so; or the store is
  -- turned back to that moment.
  abbrev pub ComesOfPresses : Doing → Looking → Looking → Type 0
  ComesOfPresses Stays old new = IsSamePage old.page new.page
      × (new.looker.shown ≡ old.looker.shown) × (KnowsPast old → KnowsPast new)
  ComesOfPresses Leaves old new = IsSamePage old.page new.page
  ComesOfPresses Turned old new = TurnsStore old.looker old.page.store new.page.store
      × (new.page.sitting ≡ old.page.sitting) × (new.page.parser ≡ old.page.parser)

  -- The page is turned back to that moment: the sitting before it begins anew.
  pub record TurnsPage (old : Looking) (page : HostPage) : Type 0 where
    pub store : TurnsStore old.looker old.page.store page.store
    pub sitting : page.sitting ≡ seated_anew old.page.sitting
    pub parser : page.parser ≡ old.page.parser

  -- `left`: the page at its present is handed to the host.
  pub data LeavesLook (page : HostPage) : Desk → Scene → Type 0 where
    leaves : (after : HostPage) (scene : Scene) → IsHanded d page after scene
        → LeavesLook page (Present after) scene

  -- What is pressed while a past is shown: the person looks on, at what is known of it, goes back to the page as it was, or to
  -- the page that was turned back to the moment that the last scene showed.
  pub data PressesLook (old : Looking) : Desk → Scene → Type 0 where
    looks_on : (looking : Looking) (scene : Scene) → IsSamePage old.page looking.page
        → ShowsPast looking scene → (KnowsPast old → KnowsPast looking)
        → PressesLook old (Past looking) scene
    goes_back : (page after : HostPage) (scene : Scene) → IsSamePage old.page page
        → IsHanded d page after scene → PressesLook old (Present after) scene
    turns : (page after : HostPage) (scene : Scene) → TurnsPage old page
        → IsHanded d page after scene → PressesLook old (Present after) scene

  -- by what is shown
  abbrev pub PressesDesk : List ℕ → Desk → Desk → Scene → Type 0
  PressesDesk bytes (Present page) (Present after) scene = Presses d bytes page after scene
  PressesDesk bytes (Present page) (Past looking) scene = ⊥
  PressesDesk bytes (Past looking) after scene = PressesLook looking after scene

  -- why it isn't done
  abbrev pub IsNotPressedAt : List ℕ → Desk → Error → Type 0
  IsNotPressedAt bytes (Present page) error = IsNotPressed d bytes page error
  IsNotPressedAt bytes (Past looking) error = IsWithheld looking.page error
