-- What stays known of a look at a past, whatever a host calls. `d` is what is known of the disk.
use Rattle.std.specs.Prelude.{ℕ, Bool, List, Option, Some}
use Rattle.sector_disk.specs.declared.disk.Disk.{Ghosts}
use Rattle.desk_page.specs.Calls.{AnswersAsk, AnswersBegin, AnswersBring, AnswersBringMore, AnswersGive, AnswersLoad}
use Rattle.desk_page.specs.Calls.{AnswersForget, AnswersLook, AnswersPress}
use Rattle.desk_page.specs.Giving.{selected_text}
use Rattle.desk_page.specs.Looks.{KnowsPast}
use Rattle.page_disks.specs.Recording.{Recording}
use Rattle.desk_page.specs.declared.kept.Kept.{Kept}
use Rattle.desk_page.specs.declared.looks.Desk.{Desk}
use Rattle.desk_page.specs.declared.looks.Desk.TheVariants.{Past}

module _ (d : Ghosts Recording) where
  -- where a past is looked at, it is that of the page's store
  abbrev pub KnowsShown : Option Desk → Type 0
  KnowsShown (Some (Past looking)) = KnowsPast d looking
  KnowsShown desk = Unit {0}

  -- a call was made, and answered
  pub data IsCalled (old new : Kept) : Type 0 where
    loads : (first : ℕ) (bytes : List ℕ) (status : ℕ) → AnswersLoad first bytes old new status
        → IsCalled old new
    begins : (past : Bool) (status : ℕ) → AnswersBegin d past old new status → IsCalled old new
    presses : (bytes : List ℕ) (status : ℕ) → AnswersPress d bytes old new status
        → IsCalled old new
    looks : (status : ℕ) → AnswersLook d old new status → IsCalled old new
    forgets : (status : ℕ) → AnswersForget d old new status → IsCalled old new
    brings : (name file : List ℕ) (status : ℕ) → AnswersBring d name file old new status
        → IsCalled old new
    keeps : (name file : List ℕ) (status : ℕ) → AnswersBringMore name file old new status
        → IsCalled old new
    gives : (name : List ℕ) (status : ℕ) → AnswersGive d name old new status → IsCalled old new
    copies : (status : ℕ) → AnswersAsk d selected_text old new status → IsCalled old new

  -- Each call leaves that known, so it holds of whatever a host is shown.
  abbrev pub StaysKnown : Type 0
  StaysKnown = (old new : Kept) → IsCalled old new → KnowsShown old.desk → KnowsShown new.desk
