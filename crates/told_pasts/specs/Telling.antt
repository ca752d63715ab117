-- All deeds of a past, told. `d` is what is known of a disk.
use Rattle.std.specs.Prelude.{◌≡◌, ◌++◌, ℕ, List, Option, None, Some}
use Rattle.sector_disk.specs.Trail.{now}
use Rattle.sector_disk.specs.declared.disk.Disk.{Ghosts}
use Rattle.desktop_definitions.specs.Desktop.{Desktop}
use Rattle.past_pages.specs.Page.{Page, of_copy, of_events, of_import, of_turn}
use Rattle.past_pages.specs.Reading.{HasCopy, HasPage, IsRead}
use Rattle.past_pages.specs.declared.pages.PageDeeds.{PageDeeds}
use Rattle.desk_past.specs.Deeds.{PastDeed, after_deeds}
use Rattle.desk_past.specs.Past.{HasMoment, Start, moment}
use Rattle.desk_past.specs.Turning.{PastOf}
use Rattle.desk_journal.specs.View.{StoreView}
use Rattle.told_pasts.specs.Words.{told_lines}

-- From the one store to the other this was done, and before each deed its line came behind some lines.
pub record IsToldOn {D : Type 0} (d : Ghosts D) (deeds : List PastDeed) (some more : List (List ℕ))
    (old new : StoreView D)
    : Type 0 where
  pub still : d.honest old.disk → d.honest new.disk
  pub desktop : d.honest old.disk → new.desktop ≡ after_deeds old.desktop deeds
  pub lines : d.honest old.disk → more ≡ some ++ told_lines old.desktop deeds

-- ---- deeds among which there are turns

-- A store in memory is to show this desktop before the next deed of a past: it shows it, or a turn is due to a moment
-- at which that was the desktop.
abbrev pub IsToShow : Start → List PastDeed → Option ℕ → Desktop → Desktop → Type 0
IsToShow start deeds None shown here = shown ≡ here
IsToShow start deeds (Some k) shown here =
    HasMoment start deeds k × (here ≡ moment start deeds k)

-- the past that a store keeps from this sector on is told up to this desktop
pub record IsAmid {D : Type 0} (d : Ghosts D) (store : StoreView D) (base : ℕ) (due : Option ℕ)
    (shown : Desktop)
    : Type 0 where
  pub past : PastOf d store
  pub at : past.start.base ≡ base
  pub here : Desktop
  pub shows : IsToShow past.start past.deeds due shown here

-- where a page has a turn to a moment, it leads to what the desktop was then
abbrev pub GoesBack : Start → List PastDeed → Page → Type 0
GoesBack start deeds (of_events version events) = Unit {0}
GoesBack start deeds (of_import version documents) = Unit {0}
GoesBack start deeds (of_turn version k to) =
    HasMoment start deeds k × (to ≡ moment start deeds k)
GoesBack start deeds (of_copy version far sectors to) = Unit {0}

-- the same, and this was read of the next page, which stands in this sector
pub record IsAtPage {D : Type 0} (d : Ghosts D) (store : StoreView D) (base at : ℕ)
    (read : PageDeeds) (due : Option ℕ) (shown : Desktop)
    : Type 0 where
  pub amid : IsAmid d store base due shown
  pub page : Page
  pub is : IsRead read page
  pub goes_back : GoesBack amid.past.start amid.past.deeds page
  pub there : HasPage (now (d.trail store.disk)).reads at (d.size store.disk) page

-- a page with a desktop stands in this sector of a disk, which is honest
pub record HasDesktop {D : Type 0} (d : Ghosts D) (store : StoreView D) (at : ℕ) : Type 0 where
  pub honest : d.honest store.disk
  pub to : Desktop
  pub there : HasCopy (now (d.trail store.disk)).reads at (d.size store.disk) to

-- From this desktop on these deeds were told: their lines came behind some lines, and the store in memory is to show
-- what they lead to.
pub record IsToldOver (start : Start) (deeds : List PastDeed) (here : Desktop)
    (told : List PastDeed) (due : Option ℕ) (shown : Desktop) (some more : List (List ℕ))
    : Type 0 where
  pub shows : IsToShow start deeds due shown (after_deeds here told)
  pub lines : more ≡ some ++ told_lines here told
