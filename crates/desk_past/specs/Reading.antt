-- What is read of a past.
use Rattle.std.specs.Prelude.{◌≡◌, ◌+◌, ◌-◌, ◌≤◌, ℕ, List, [], length, take, false}
use Rattle.sector_disk.specs.Trail.{Content}
use Rattle.sector_disk.specs.declared.disk.Disk.{Ghosts}
use Rattle.desktop_definitions.specs.Desktop.{Desktop}
use Rattle.desktop_definitions.specs.Step.{steps_in}
use Rattle.store_layout.specs.declared.head.PastEnd.{PastEnd}
use Rattle.store_layout.specs.Meaning.{Standing, desktop_of}
use Rattle.desk_journal.specs.Undoing.{ShowsStanding}
use Rattle.desk_journal.specs.View.{StoreView}
use Rattle.past_pages.specs.Page.{Page}
use Rattle.past_pages.specs.declared.pages.PageDeeds.{PageDeeds}
use Rattle.past_pages.specs.declared.pages.PageDeeds.TheVariants.{Events, FarTurn, Import, Mark, Turn}
use Rattle.past_pages.specs.declared.pages.PageKind.{PageKind}
use Rattle.past_pages.specs.declared.pages.PageKind.TheVariants as which
use Rattle.desk_past.specs.Deeds.{PastDeed, after_deeds}
use Rattle.desk_past.specs.Past.{end_of_pages, AreGood, AreTurns, HoldsPages, Start, all_deeds, first_page}

-- The content has a start and the pages behind it, up to the sector of which this tells, and as many deeds as it says
-- came before that.
pub record HoldsTold (size : ℕ) (start : Start) (told : PastEnd) (pages : List Page) (c : Content)
    : Type 0 where
  pub written : HoldsPages c start pages
  pub good : AreGood pages
  pub turns : AreTurns start [] pages
  pub up_to : end_of_pages (first_page start) pages ≡ told.next
  pub room : told.next ≤ size
  pub counted : start.before + length (all_deeds pages) ≡ told.before

-- the desktop behind so many deeds, of which the head tells and the journal has the last ones
abbrev pub start_at : Standing → ℕ → Desktop
start_at t k = steps_in t.version t.start (take (k - t.past.before) t.events)

-- how much a page says was done: an import is one deed, and so is a turn; a mark is none
abbrev pub many_deeds : PageDeeds → ℕ
many_deeds (Events events) = length events.items
many_deeds (Import documents) = 1
many_deeds (Turn k) = 1
many_deeds Mark = 0
many_deeds FarTurn = 1

-- from the one store to the other this was done
pub record IsLed {D : Type 0} (d : Ghosts D) (deeds : List PastDeed) (old new : StoreView D)
    : Type 0 where
  pub usable : old.must_reopen ≡ false → new.must_reopen ≡ false
  pub still : d.honest old.disk → d.honest new.disk
  pub desktop : d.honest old.disk → new.desktop ≡ after_deeds old.desktop deeds

-- a store in use that shows this, and its desktop
pub record ShowsNow {D : Type 0} (d : Ghosts D) (t : Standing) (store : StoreView D) : Type 0 where
  pub usable : store.must_reopen ≡ false
  pub honest : d.honest store.disk
  pub shows : ShowsStanding d store t
  pub desktop : store.desktop ≡ desktop_of t
