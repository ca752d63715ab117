-- What is read behind a store. `d` is what is known of a disk.
use Rattle.std.specs.Prelude.{◌≡◌, ◌+◌, ◌≤◌, ℕ, Bool, length, false, true}
use Rattle.sector_disk.specs.Trail.{Content, now}
use Rattle.sector_disk.specs.declared.disk.Disk.{Ghosts}
use Rattle.sector_disk.specs.Stored.{HoldsBytes}
use Rattle.desk_journal.specs.Undoing.{IsLeft}
use Rattle.desk_journal.specs.View.{StoreView}
use Rattle.desktop_definitions.specs.Desktop.{Desktop}
use Rattle.past_pages.specs.Copies.{Sectors}
use Rattle.past_pages.specs.Page.{Page, of_copy, of_events, of_import, of_turn, IsGoodPage}
use Rattle.past_pages.specs.Page.{page_bytes, page_sectors}
use Rattle.past_pages.specs.declared.pages.PageDeeds.{PageDeeds}
use Rattle.past_pages.specs.declared.pages.PageDeeds.TheVariants.{Events, FarTurn, Import, Mark, Turn}
use Rattle.past_pages.specs.declared.pages.PageKind.{PageKind}
use Rattle.past_pages.specs.declared.pages.PageKind.TheVariants as which

-- nothing is pending on the disk of a store, as on that of every store in use (`shows_what_crashes_leave`)
abbrev pub IsQuiet : {D : Type 0} → Ghosts D → StoreView D → Type 0
IsQuiet d store = (n : ℕ) → (now (d.trail store.disk)).pending n ≡ false

-- nothing was written, and the store is in use
pub record IsOnlyReadFrom {D : Type 0} (d : Ghosts D) (old new : StoreView D) : Type 0 where
  pub left : IsLeft d old new
  pub usable : new.must_reopen ≡ false

-- the page stands there, and ends before that sector
pub record HasPage (c : Content) (at end : ℕ) (p : Page) : Type 0 where
  pub held : HoldsBytes c at (page_bytes p)
  pub good : IsGoodPage p
  pub within : at + page_sectors p ≤ end

-- a page stands there that has this desktop, and ends before that sector
pub record HasCopy (c : Content) (at end : ℕ) (to : Desktop) : Type 0 where
  pub version : ℕ
  pub far : Bool
  pub sectors : Sectors
  pub page : HasPage c at end (of_copy version far sectors to)

-- this was read of the page
abbrev pub IsRead : PageDeeds → Page → Type 0
IsRead (Events events) (of_events version all) = events.items ≡ all
IsRead (Import documents) (of_import version all) = documents.items ≡ all
IsRead (Turn k) (of_turn version moment to) = k ≡ moment
IsRead Mark (of_copy version false sectors to) = Unit {0}
IsRead FarTurn (of_copy version true sectors to) = Unit {0}
IsRead _ _ = ⊥

-- the page is of this kind
abbrev pub IsKindOf : PageKind → Page → Type 0
IsKindOf (which.Events n) (of_events version events) = n ≡ length events
IsKindOf which.Import (of_import version documents) = Unit {0}
IsKindOf (which.Turn k) (of_turn version moment to) = k ≡ moment
IsKindOf which.Mark (of_copy version false sectors to) = Unit {0}
IsKindOf which.FarTurn (of_copy version true sectors to) = Unit {0}
IsKindOf _ _ = ⊥

-- and so many deeds it has
abbrev pub kind_count : PageKind → ℕ
kind_count (which.Events n) = n
kind_count which.Import = 1
kind_count (which.Turn k) = 1
kind_count which.Mark = 0
kind_count which.FarTurn = 1
