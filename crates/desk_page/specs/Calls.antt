-- What an exported call leaves of what is kept. `d` is what is known of the disk.
use Rattle.std.specs.Prelude.{◌≡◌, ◌==◌, ◌+◌, ◌*◌, ◌++◌, ℕ, List, [], ◌∷◌, Bool, false, Option, Some, None, Ok, Err}
use Rattle.std.specs.Prelude.{if◌then◌else◌, is_some}
use Rattle.sector_disk.specs.declared.disk.Disk.{Ghosts}
use Rattle.event_bytes.specs.Bytes.{is_name}
use Rattle.desktop_definitions.specs.Desktop.{Desktop}
use Rattle.desk_journal.specs.Errors.{Error}
use Rattle.store_documents.specs.declared.file_bytes.Unfit.{Unfit}
use Rattle.store_documents.specs.declared.file_bytes.Unfit.TheVariants as unfit
use Rattle.store_documents.specs.HostText.{imported}
use Rattle.terminal_presses.specs.Pointers.{pointer_cell}
use Rattle.viewer_tracks.specs.declared.display.TheConstants.{COLUMNS}
use Rattle.desk_page.specs.Forgetting.{Forgets, KeepsItsPast}
use Rattle.desk_page.specs.Giving.{given_text}
use Rattle.page_disks.specs.Loading.{HasLoaded, disk_to_load}
use Rattle.desk_page.specs.Looks.{IsNotPressedAt, IsOfLook, LooksAtDesk, LooksAtPast, PressesDesk, shown_desktop, page_of}
use Rattle.page_disks.specs.Recording.{Recording}
use Rattle.desk_page.specs.declared.kept.Kept.{Kept}
use Rattle.desk_page.specs.declared.kept.Made.{Made}
use Rattle.desk_page.specs.declared.kept.Made.TheVariants.{Drawing, Line, Calls, Text}
use Rattle.desk_page.specs.declared.looks.Desk.{Desk}
use Rattle.desk_page.specs.declared.looks.Desk.TheVariants.{Present, Past}
use Rattle.desk_page.specs.Statuses.{gone, without_past, not_there, no_name, no_room, past_stays, status_of_error, status_of_file}
use Rattle.desk_page.specs.Turns.{HostPage, Begins, Brings, IsHanded, IsNotBegun, IsStopped, IsWithheld}
use Rattle.desk_page.specs.Turns.{TurnsDown}

-- what the last call made
abbrev pub made_by : Kept → Made → List ℕ
made_by kept Drawing = kept.scene.drawing.items
made_by kept Line = kept.scene.line.items
made_by kept Calls = kept.scene.calls.items
made_by kept Text = kept.text.items

-- and nothing where that isn't meant
abbrev pub made_if : Kept → Option Made → List ℕ
made_if kept None = []
made_if kept (Some made) = made_by kept made

-- which of them has this number
abbrev pub made_numbered : ℕ → Option Made
made_numbered n =
    if n == 0 then Some Drawing
    else if n == 1 then Some Line
    else if n == 2 then Some Calls
    else if n == 3 then Some Text
    else None

-- whether the person has left a page
abbrev pub has_left : Option Desk → Bool
has_left (Some (Present page)) = page.sitting.leaves
has_left desk = false

-- whether a past is shown, and while it is sought for a word
abbrev pub looks_of : Option Desk → ℕ
looks_of (Some (Past looking)) = if is_some looking.looker.seeks then 2 else 1
looks_of desk = 0

-- a cell's number: 1 at the lower left, and one more for each to the right of it and in the rows above
abbrev pub cell_number : Option (ℕ × ℕ) → ℕ
cell_number None = 0
cell_number (Some at) = 1 + at.0 + COLUMNS * at.1

-- that of the cell at which a page shows a pointer that keys move
abbrev pub pointer_number : Option Desk → ℕ
pointer_number (Some (Present page)) = cell_number (pointer_cell page.sitting.hand.pointer)
pointer_number desk = 0

-- ---- what a call leaves where it does nothing to the page

-- No call of the disk is to be told; what else was made is there.
pub record TellsNoCall (old new : Kept) : Type 0 where
  pub calls : new.scene.calls.items ≡ []
  pub drawing : new.scene.drawing ≡ old.scene.drawing
  pub line : new.scene.line ≡ old.scene.line
  pub rings : new.scene.rings ≡ old.scene.rings

-- and what is shown is as it was
pub record IsUncalled (old new : Kept) : Type 0 where
  pub desk : new.desk ≡ old.desk
  pub text : new.text ≡ old.text
  pub untold : TellsNoCall old new

-- or nothing is shown any more
pub record IsEnded (old new : Kept) : Type 0 where
  pub desk : new.desk ≡ None
  pub text : new.text ≡ old.text
  pub untold : TellsNoCall old new

-- `load`: these bytes are loaded beside what was, or nothing is any more.
pub data AnswersLoad (first : ℕ) (bytes : List ℕ) (old new : Kept) : ℕ → Type 0 where
  loads : (disk : Recording) → HasLoaded bytes first (disk_to_load old.loaded) disk
      → new.loaded ≡ Some disk → IsUncalled old new → AnswersLoad first bytes old new 0
  starves : new.loaded ≡ None → IsUncalled old new → AnswersLoad first bytes old new 1

-- the file is no document for this reason
abbrev pub IsNoDocument : List ℕ → Unfit → Type 0
IsNoDocument file why = ¬ (why ≡ unfit.NoMemory) → imported file ≡ Err why

-- the status where these are no name, or no document
pub data IsNoFile (name file : List ℕ) : ℕ → Type 0 where
  misnamed : is_name name ≡ false → IsNoFile name file no_name
  unfit_for : (why : Unfit) → IsNoDocument file why → IsNoFile name file (status_of_file why)

-- `bring_more`: the document is kept behind those that were kept before it, or none is.
pub data AnswersBringMore (name file : List ℕ) (old new : Kept) : ℕ → Type 0 where
  more : (document : List ℕ) → imported file ≡ Ok document
      → new.coming.items ≡ old.coming.items ++ (name, document) ∷ [] → IsUncalled old new
      → AnswersBringMore name file old new 0
  none : (status : ℕ) → IsNoFile name file status → new.coming.items ≡ [] → IsUncalled old new
      → AnswersBringMore name file old new status

-- ---- what each call leaves, by its status

module _ (d : Ghosts Recording) where
  -- the page of the store that was loaded, or of a new one
  pub record IsBegun (past : Bool) (old new : Kept) : Type 0 where
    pub page : HostPage
    pub begins : Begins d past old.loaded page
    pub after : HostPage
    pub handed_over : IsHanded d page after new.scene
    pub kept : new.desk ≡ Some (Present after)
    pub used : new.loaded ≡ None
    pub text : new.text ≡ old.text

  -- `begin`: the page is kept, or what was shown stays. What was loaded is used up.
  pub data AnswersBegin (past : Bool) (old new : Kept) : ℕ → Type 0 where
    begun : IsBegun past old new → AnswersBegin past old new 0
    refused : (error : Error) → IsNotBegun d old.loaded error → new.loaded ≡ None
        → IsUncalled old new
        → AnswersBegin past old new (status_of_error error)

  -- what these bytes press is done
  pub record IsPressed (bytes : List ℕ) (before : Desk) (old new : Kept) : Type 0 where
    pub after : Desk
    pub presses : PressesDesk d bytes before after new.scene
    pub kept : new.desk ≡ Some after
    pub text : new.text ≡ old.text

  -- `press`: what is pressed is done, at the page or at its past, or nothing is kept any more.
  pub data AnswersPress (bytes : List ℕ) (old new : Kept) : ℕ → Type 0 where
    pressed : (before : Desk) → old.desk ≡ Some before → IsPressed bytes before old new
        → AnswersPress bytes old new 0
    no_page : old.desk ≡ None → IsUncalled old new → AnswersPress bytes old new gone
    failed : (before : Desk) (error : Error) → old.desk ≡ Some before
        → IsNotPressedAt d bytes before error → IsEnded old new
        → AnswersPress bytes old new (status_of_error error)

  -- the past of the page is shown
  pub record IsPastShown (before : Desk) (old new : Kept) : Type 0 where
    pub after : Desk
    pub looks : LooksAtPast d (page_of before) after (Some new.scene)
    pub kept : new.desk ≡ Some after
    pub text : new.text ≡ old.text

  -- or it keeps none that can be read
  pub record ShowsNoPast (before : Desk) (old new : Kept) : Type 0 where
    pub after : Desk
    pub none : LooksAtPast d (page_of before) after None
    pub kept : new.desk ≡ Some after
    pub text : new.text ≡ old.text
    pub untold : TellsNoCall old new

  -- `look`
  pub data AnswersLook (old new : Kept) : ℕ → Type 0 where
    shown : (before : Desk) → old.desk ≡ Some before → IsPastShown before old new
        → AnswersLook old new 0
    unkept : (before : Desk) → old.desk ≡ Some before → ShowsNoPast before old new
        → AnswersLook old new without_past
    no_desk : old.desk ≡ None → IsUncalled old new → AnswersLook old new gone
    lost : (before : Desk) (error : Error) → old.desk ≡ Some before
        → IsWithheld (page_of before) error → IsEnded old new
        → AnswersLook old new (status_of_error error)

  -- the past of the page is forgotten
  pub record IsPastForgotten (before : Desk) (old new : Kept) : Type 0 where
    pub after : HostPage
    pub forgets : Forgets d (page_of before) after new.scene
    pub kept : new.desk ≡ Some (Present after)
    pub text : new.text ≡ old.text

  -- or it stays
  pub record IsPastLeft (before : Desk) (old new : Kept) : Type 0 where
    pub after : HostPage
    pub keeps : KeepsItsPast d (page_of before) after
    pub kept : new.desk ≡ Some (Present after)
    pub text : new.text ≡ old.text
    pub untold : TellsNoCall old new

  -- `forget`: the page is shown then, and no past. After an error nothing is kept, and no call of the disk is told.
  pub data AnswersForget (old new : Kept) : ℕ → Type 0 where
    anew : (before : Desk) → old.desk ≡ Some before → IsPastForgotten before old new
        → AnswersForget old new 0
    stays : (before : Desk) → old.desk ≡ Some before → IsPastLeft before old new
        → AnswersForget old new past_stays
    none_kept : old.desk ≡ None → IsUncalled old new → AnswersForget old new gone
    stopped : (before : Desk) (error : Error) → old.desk ≡ Some before
        → IsStopped (page_of before) error → IsEnded old new
        → AnswersForget old new (status_of_error error)

  -- the document of that name of a file of the host's, and those that were kept before it, are brought
  pub record IsBrought (name file : List ℕ) (before : HostPage) (old new : Kept) : Type 0 where
    pub document : List ℕ
    pub fits : imported file ≡ Ok document
    pub after : HostPage
    pub brings : Brings d (old.coming.items ++ (name, document) ∷ []) before after new.scene
    pub kept : new.desk ≡ Some (Present after)
    pub text : new.text ≡ old.text

  -- there is no room for them
  pub record AreTurnedDown (name file : List ℕ) (before : HostPage) (old new : Kept) : Type 0 where
    pub document : List ℕ
    pub fits : imported file ≡ Ok document
    pub after : HostPage
    pub turns_down : TurnsDown d (old.coming.items ++ (name, document) ∷ []) before after
    pub kept : new.desk ≡ Some (Present after)
    pub text : new.text ≡ old.text
    pub untold : TellsNoCall old new

  -- `bring`: they are there, or there is no room for them; the page is shown then, and no past. A name or a file that is
  -- refused leaves what is shown, as want of memory for the document does. After another error nothing is kept.
  pub data AnswersBring (name file : List ℕ) (old new : Kept) : ℕ → Type 0 where
    brought : (before : Desk) → old.desk ≡ Some before
        → IsBrought name file (page_of before) old new → AnswersBring name file old new 0
    declined : (status : ℕ) → IsNoFile name file status → IsUncalled old new
        → AnswersBring name file old new status
    no_desktop : old.desk ≡ None → IsUncalled old new → AnswersBring name file old new gone
    turned_down : (before : Desk) → old.desk ≡ Some before
        → AreTurnedDown name file (page_of before) old new
        → AnswersBring name file old new no_room
    broken : (before : Desk) (error : Error) → old.desk ≡ Some before
        → IsStopped (page_of before) error → IsEnded old new
        → AnswersBring name file old new (status_of_error error)

  -- Somebody looks at what is shown.
  pub record IsOnlyAsked (old new : Kept) : Type 0 where
    pub before : Desk
    pub was : old.desk ≡ Some before
    pub after : Desk
    pub looks : LooksAtDesk d before after
    pub kept : new.desk ≡ Some after
    pub untold : TellsNoCall old new

  -- What was asked for of what is shown is there to be copied, or there is no such thing.
  pub data AnswersAsk (told : Desktop → Option (List ℕ)) (old new : Kept) : ℕ → Type 0 where
    given : (look : IsOnlyAsked old new) → told (shown_desktop look.before) ≡ Some new.text.items
        → AnswersAsk told old new 0
    nothing_kept : old.desk ≡ None → IsUncalled old new → AnswersAsk told old new gone
    missing : (look : IsOnlyAsked old new) → told (shown_desktop look.before) ≡ None
        → new.text ≡ old.text → AnswersAsk told old new not_there
    unlooked : (look : IsOnlyAsked old new) (error : Error) → IsOfLook look.before error
        → new.text ≡ old.text → AnswersAsk told old new (status_of_error error)

  -- `give`: by the name of a document
  pub data AnswersGive (name : List ℕ) (old new : Kept) : ℕ → Type 0 where
    no_name_of : is_name name ≡ false → IsUncalled old new → AnswersGive name old new no_name
    asked : (status : ℕ) → AnswersAsk (given_text name) old new status
        → AnswersGive name old new status
