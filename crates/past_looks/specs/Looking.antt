-- A person who looks at the past of a store. `d` is what is known of a disk.
use Rattle.std.specs.Prelude.{◌≡◌, ◌⊎◌, ◌<◌, ℕ, Bool, true, false, List, Option, Some, None}
use Rattle.sector_disk.specs.declared.disk.Disk.{Ghosts}
use Rattle.event_bytes.specs.declared.event.Event.{Event}
use Rattle.event_bytes.specs.declared.event.Event.TheVariants.{Point}
use Rattle.desktop_definitions.specs.Desktop.{Desktop}
use Rattle.desktop_definitions.specs.Step.{step}
use Rattle.desk_journal.specs.Device.{IsOnlyRead}
use Rattle.desk_journal.specs.Gathering.{GatheredView}
use Rattle.desk_journal.specs.Turning.{LeavesThisOrThat}
use Rattle.desk_journal.specs.View.{StoreView}
use Rattle.past_pages.specs.Reading.{IsOnlyReadFrom}
use Rattle.desk_past.specs.Turning.{ComesToMoment, HasTurnedFar, LeavesFar, TurnsTo}
use Rattle.past_moments.specs.Moments.{IsDesktopAt, IsLastOf}
use Rattle.all_moments.specs.Parts.{AreAllMomentsOf, BeginsWhere, IsDesktopThen, IsToldThen}
use Rattle.past_looks.specs.Words.{asked_line, moment_line, said_words, seeking_line}
use Rattle.past_looks.specs.declared.looker.Doing.{Doing}
use Rattle.past_looks.specs.declared.looker.Doing.TheVariants.{Stays, Leaves, Turned}
use Rattle.past_looks.specs.declared.looker.Looker.{Looker}
use Rattle.past_looks.specs.declared.looker.Said.{Said}

-- The line below asks for a word; or it says up to which moment that is sought; or which moment is shown, and words.
abbrev pub below_of : Option (List ℕ) → Option ℕ → List ℕ → List ℕ
below_of (Some word) seeks line = asked_line word
below_of None (Some k) line = seeking_line k
below_of None None line = line

abbrev pub looker_line : Looker → List ℕ
looker_line looker = below_of looker.hand.asked looker.seeks (moment_line looker.shown
    looker.moments.in_use.extent.last (said_words looker.said looker.look.words.items))

-- the same is shown, of the same past
pub record IsSameLook (looker looker' : Looker) : Type 0 where
  pub moments : looker'.moments ≡ looker.moments
  pub shown : looker'.shown ≡ looker.shown
  pub look : looker'.look ≡ looker.look
  pub untouched : looker'.untouched ≡ looker.untouched

-- the desktop of the moment that is shown, before the mouse did anything there
abbrev pub desktop_before : {E : Type 0} → Desktop → Option (StoreView E) → Desktop
desktop_before shown None = shown
desktop_before shown (Some one) = one.desktop

abbrev pub untouched_of : Looker → Desktop
untouched_of looker = desktop_before looker.look.shown.desktop looker.untouched

-- the same, as far as it is seen, of the same past
pub record IsAlike (looker looker' : Looker) : Type 0 where
  pub moments : looker'.moments ≡ looker.moments
  pub shown : looker'.shown ≡ looker.shown
  pub desktop : looker'.look.shown.desktop ≡ looker.look.shown.desktop
  pub words : looker'.look.words ≡ looker.look.words
  pub moment : untouched_of looker' ≡ untouched_of looker

-- and the moment is kept, whatever becomes of what is shown
pub record KeepsUntouched (looker looker' : Looker) : Type 0 where
  pub alike : IsAlike looker looker'
  pub kept : (shown : Desktop) → desktop_before shown looker'.untouched ≡ untouched_of looker

-- the mouse does this
abbrev pub is_of_mouse : Event → Bool
is_of_mouse (Point keys x0 y0 x1 y1) = true
is_of_mouse event = false

module _ {D : Type 0} (d : Ghosts D) where
  -- This is seen of its moment k: the desktop of that moment, or what comes of it where the mouse does something there, in
  -- memory alone.
  pub data IsSeenAt (k : ℕ) (store : StoreView D) : Desktop → Type 0 where
    plain : {desktop : Desktop} → IsDesktopThen d k desktop store → IsSeenAt k store desktop
    pointed : {desktop : Desktop} → IsSeenAt k store desktop → (event : Event)
        → is_of_mouse event ≡ true → IsSeenAt k store (step desktop event).desktop

  -- what a person is shown is seen of a moment of the past, as far as that is kept, and what led to it
  pub record IsLookerOf (looker : Looker) (store : StoreView D) : Type 0 where
    pub moments : AreAllMomentsOf d looker.moments store
    pub look : IsSeenAt looker.shown store looker.look.shown.desktop
    pub moment : IsDesktopThen d looker.shown (untouched_of looker) store
    pub words : IsToldThen d looker.shown looker.look.words.items store

  -- The line below asks for a word; or it says up to which moment that is sought; or that moment k is shown, of as many as
  -- there are, and what led to it, or something else that is to be said.
  pub data SaysBelow (k : ℕ) (store : StoreView D) : List ℕ → Type 0 where
    asks : (word : List ℕ) → SaysBelow k store (asked_line word)
    seeks : (to : ℕ) → SaysBelow k store (seeking_line to)
    says : (said : Said) (last : ℕ) (led : List ℕ) → IsLastOf d last store
        → IsToldThen d k led store → SaysBelow k store (moment_line k last (said_words said led))

  -- ---- what becomes of the store

  -- that moment is one of a former part: it lies before the part in use
  abbrev pub IsFormerMoment : ℕ → StoreView D → Type 0
  IsFormerMoment k store = BeginsWhere d store (λ start. k < start.before)

  -- It was turned back to its moment k: one of the part in use; or one of a former part.
  pub data ComesBackTo (k : ℕ) (old new : StoreView D) : Type 0 where
    in_use : (to : GatheredView) → IsDesktopAt d k to.desktop old → ComesToMoment d k to old new
        → ComesBackTo k old new
    former : IsFormerMoment k old → HasTurnedFar d k old new → ComesBackTo k old new

  -- At every moment a crash leaves what the store showed, or the desktop of its moment k: of the part in use; or of a former
  -- part. Of a past nothing is forgotten.
  pub data LeavesMoment (k : ℕ) (old new : StoreView D) : Type 0 where
    in_use : (to : Desktop) → IsDesktopAt d k to old → LeavesThisOrThat d to old new
        → TurnsTo d k to old new → LeavesMoment k old new
    former : IsFormerMoment k old → LeavesFar d k old new → LeavesMoment k old new

  -- it is only read, or so it is
  abbrev pub StaysOrTurns : ℕ → StoreView D → StoreView D → Type 0
  StaysOrTurns k old new = IsOnlyRead d old.disk new.disk ⊎ LeavesMoment k old new

  -- What a press does: the person looks on at the same moment, or goes back, and the store is only read; or it is turned back
  -- to the moment that was shown.
  abbrev pub ComesOfPress : Doing → Looker → Looker → StoreView D → StoreView D → Type 0
  ComesOfPress Stays looker looker' old new = IsOnlyReadFrom d old new
      × (looker'.shown ≡ looker.shown) × (IsLookerOf looker old → IsLookerOf looker' new)
  ComesOfPress Leaves looker looker' old new = IsOnlyReadFrom d old new
  ComesOfPress Turned looker looker' old new = IsLookerOf looker old
      → ComesBackTo looker.shown old new
