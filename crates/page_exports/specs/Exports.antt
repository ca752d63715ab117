-- What a host relies on at an exported call, said of the place of what is kept. `d` is what is known of the disk.
use Rattle.std.specs.Prelude.{◌≡◌, ◌==◌, ℕ, List, [], Option, Some, None, if◌then◌else◌}
use Rattle.sector_disk.specs.declared.disk.Disk.{Ghosts}
use Rattle.desk_page.specs.Giving.{selected_text}
use Rattle.page_disks.specs.Recording.{Recording}
use Rattle.desk_page.specs.declared.kept.Kept.{Kept}
use Rattle.desk_page.specs.Calls.{AnswersAsk, AnswersBegin, AnswersBring, AnswersBringMore, AnswersGive, AnswersLoad}
use Rattle.desk_page.specs.Calls.{AnswersForget, AnswersLook, AnswersPress, has_left, looks_of, made_if, made_numbered, pointer_number}
use Rattle.desk_page.specs.Turns.{Documents}

-- what the last call made, by its number
abbrev pub handed : ℕ → Option Kept → List ℕ
handed n None = []
handed n (Some kept) = made_if kept (made_numbered n)

abbrev pub rings_of : Option Kept → ℕ
rings_of None = 0
rings_of (Some kept) = if kept.scene.rings then 1 else 0

abbrev pub leaves_of : Option Kept → ℕ
leaves_of None = 0
leaves_of (Some kept) = if has_left kept.desk then 1 else 0

abbrev pub pointer_told : Option Kept → ℕ
pointer_told None = 0
pointer_told (Some kept) = pointer_number kept.desk

abbrev pub looks_told : Option Kept → ℕ
looks_told None = 0
looks_told (Some kept) = looks_of kept.desk

-- the documents that are kept for the next one
abbrev pub coming_of : Option Kept → Documents
coming_of None = []
coming_of (Some kept) = kept.coming.items

-- the disk of the sectors that were loaded
abbrev pub loaded_of : Option Kept → Option Recording
loaded_of None = None
loaded_of (Some kept) = kept.loaded

-- each call is said of what was kept and is kept, which is there
abbrev pub HasBroughtMore : List ℕ → List ℕ → Option Kept → Option Kept → ℕ → Type 0
HasBroughtMore name file (Some old) (Some new) status = AnswersBringMore name file old new status
HasBroughtMore name file None new status = ⊥
HasBroughtMore name file (Some old) None status = ⊥

-- no page, no document and no sector, and no call of a disk is to be told
pub record IsFresh (kept : Kept) : Type 0 where
  pub desk : kept.desk ≡ None
  pub coming : kept.coming.items ≡ []
  pub loaded : kept.loaded ≡ None
  pub untold : kept.scene.calls.items ≡ []

-- `page_start`: something is kept, with nothing in it, or there was no room for that.
pub data HasStarted (old new : Option Kept) : ℕ → Type 0 where
  fresh : (kept : Kept) → IsFresh kept → new ≡ Some kept → HasStarted old new 0
  no_room : new ≡ old → HasStarted old new 1

abbrev pub HasLoadedSome : ℕ → List ℕ → Option Kept → Option Kept → ℕ → Type 0
HasLoadedSome first bytes (Some old) (Some new) status = AnswersLoad first bytes old new status
HasLoadedSome first bytes None new status = ⊥
HasLoadedSome first bytes (Some old) None status = ⊥

module _ (d : Ghosts Recording) where
  -- 1 means that the store is to keep a past
  abbrev pub HasBegunPage : ℕ → Option Kept → Option Kept → ℕ → Type 0
  HasBegunPage past (Some old) (Some new) status = AnswersBegin d (past == 1) old new status
  HasBegunPage past None new status = ⊥
  HasBegunPage past (Some old) None status = ⊥

  abbrev pub HasLooked : Option Kept → Option Kept → ℕ → Type 0
  HasLooked (Some old) (Some new) status = AnswersLook d old new status
  HasLooked None new status = ⊥
  HasLooked (Some old) None status = ⊥

  abbrev pub HasForgottenPast : Option Kept → Option Kept → ℕ → Type 0
  HasForgottenPast (Some old) (Some new) status = AnswersForget d old new status
  HasForgottenPast None new status = ⊥
  HasForgottenPast (Some old) None status = ⊥

  abbrev pub HasPressed : List ℕ → Option Kept → Option Kept → ℕ → Type 0
  HasPressed bytes (Some old) (Some new) status = AnswersPress d bytes old new status
  HasPressed bytes None new status = ⊥
  HasPressed bytes (Some old) None status = ⊥

  abbrev pub HasBrought : List ℕ → List ℕ → Option Kept → Option Kept → ℕ → Type 0
  HasBrought name file (Some old) (Some new) status = AnswersBring d name file old new status
  HasBrought name file None new status = ⊥
  HasBrought name file (Some old) None status = ⊥

  abbrev pub HasGiven : List ℕ → Option Kept → Option Kept → ℕ → Type 0
  HasGiven name (Some old) (Some new) status = AnswersGive d name old new status
  HasGiven name None new status = ⊥
  HasGiven name (Some old) None status = ⊥

  abbrev pub HasCopied : Option Kept → Option Kept → ℕ → Type 0
  HasCopied (Some old) (Some new) status = AnswersAsk d selected_text old new status
  HasCopied None new status = ⊥
  HasCopied (Some old) None status = ⊥
