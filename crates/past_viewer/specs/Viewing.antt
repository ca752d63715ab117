-- The past of a store on the screen of a terminal. `d` is what is known of a disk.
use Rattle.std.specs.Prelude.{◌≡◌, ◌≢◌, ◌⊎◌, ℕ, List, [], length, Option, Result, MatchResult, Some, None, IfSome, codes, false, ⊤}
use Rattle.std.specs.Io.KnownBytes.{Appends}
use Rattle.byte_streams.specs.Counting.{RisesWhere}
use Rattle.sector_disk.specs.declared.disk.Disk.{Ghosts}
use Rattle.screen_drawing.specs.declared.face.Face.{Face}
use Rattle.screen_drawing.specs.declared.operation.Operation.TheVariants.{Ring}
use Rattle.screen_drawing.specs.declared.scene.Scene.{Scene}
use Rattle.screen_drawing.specs.Painting.{Paints}
use Rattle.screen_drawing.specs.Scene.{text_below}
use Rattle.screen_drawing.specs.Spelling.{operation_bytes}
use Rattle.terminal_keyboard.specs.declared.keyboard.KeyboardEnd.{KeyboardEnd}
use Rattle.terminal_keyboard.specs.declared.keyboard.KeyboardEnd.TheVariants as keyboard
use Rattle.desktop_definitions.specs.Desktop.{Desktop}
use Rattle.desktop_definitions.specs.Shown.{shown_screen}
use Rattle.desk_journal.specs.Device.{IsOnlyRead}
use Rattle.desk_journal.specs.Errors.{Error, NoMemory}
use Rattle.desk_journal.specs.View.{StoreView}
use Rattle.past_pages.specs.Reading.{IsOnlyReadFrom}
use Rattle.past_moments.specs.Moments.{IsLastOf}
use Rattle.past_looks.specs.Looking.{IsLookerOf, IsSeenAt, ComesBackTo, LeavesMoment, SaysBelow}
use Rattle.past_looks.specs.Words.{moment_line}
use Rattle.terminal_clipboards.specs.Clips.{clip_of}
use Rattle.past_viewer.specs.Copies.{copied_words, exported_selection}
use Rattle.past_looks.specs.declared.looker.Looker.{Looker}
use Rattle.past_viewer.specs.Panes.{size_question}
use Rattle.past_viewer.specs.declared.viewer.ViewEnd.{ViewEnd}
use Rattle.past_viewer.specs.declared.viewer.ViewEnd.TheVariants.{Closed, Input, TooLong, Output, Fault, Memory}
use Rattle.past_viewer.specs.declared.viewer.Doing.{Doing}
use Rattle.past_viewer.specs.declared.viewer.Doing.TheVariants.{Stays, Leaves}

-- It ends by `Closed` and `Input` only where the keyboard has ended so.
abbrev pub EndsViewBy : (KeyboardEnd → Type 0) → ViewEnd → Type 0
EndsViewBy ended Closed = ended keyboard.Closed
EndsViewBy ended Input = ended keyboard.Fault
EndsViewBy ended TooLong = ⊤
EndsViewBy ended Output = ⊤
EndsViewBy ended Fault = ⊤
EndsViewBy ended Memory = ⊤

-- neither the keyboard nor the output is the cause
abbrev pub IsOfStore : ViewEnd → Type 0
IsOfStore end = EndsViewBy (λ why. ⊥) end × (end ≢ Output)

-- where the keyboard tells no more, and where a call of the store fails
abbrev pub heard_end : KeyboardEnd → ViewEnd
heard_end keyboard.Closed = Closed
heard_end keyboard.Fault = Input

abbrev pub view_end_of : Error → ViewEnd
view_end_of NoMemory = Memory
view_end_of _ = Fault

-- what the line below says where there is no past
abbrev pub none_kept : List ℕ
none_kept = codes "no past is kept here (desk PATH keeps one): Escape goes back"

module _ {D : Type 0} (d : Ghosts D) where
  -- The line below says what `SaysBelow` says, or what was copied of this desktop: then, and only then, the clipboard is given
  -- what is selected there.
  pub data TellsBelow (k : ℕ) (store : StoreView D) (desktop : Desktop)
      : List ℕ → List ℕ → Type 0 where
    plain : {line : List ℕ} → SaysBelow d k store line → TellsBelow k store desktop [] line
    copied : (last : ℕ) → IsLastOf d last store
        → TellsBelow k store desktop (clip_of (exported_selection desktop))
        (moment_line k last (copied_words (length (exported_selection desktop))))

  -- The scene shows a part of the screen that is seen of this moment, and the line below which one it is. Behind it that is
  -- sent by which the clipboard is given a text.
  pub record ShowsMoment (k : ℕ) (store : StoreView D) (scene : Scene) (clip : List ℕ)
      : Type 0 where
    pub desktop : Desktop
    pub seen : IsSeenAt d k store desktop
    pub screen : scene.screen.now ≡ shown_screen desktop
    pub below : TellsBelow k store desktop clip (text_below scene.below)

  -- The store keeps no past that can be read: the scene shows a part of its screen, and says so.
  pub record ShowsNone (store : StoreView D) (scene : Scene) : Type 0 where
    pub screen : d.honest store.disk → scene.screen.now ≡ shown_screen store.desktop
    pub below : text_below scene.below ≡ none_kept

  -- What a writer took of it: scenes, of which each shows a moment, with what gives the clipboard a text where that is copied,
  -- or says that there is none, and beside them what has a terminal ring, or tell its size. First stands the moment that the
  -- last scene shows, if there is one.
  pub data TakesScenes (store : StoreView D) : Option ℕ → Option (List ℕ) → Option (List ℕ)
      → Type 0 where
    none : {held : Option (List ℕ)} → TakesScenes store None held held
    moment : {last : Option ℕ} {held mid shown new : Option (List ℕ)}
        {known : List (List Face)}
        → TakesScenes store last held mid → (k : ℕ) (scene : Scene) (clip : List ℕ)
        → ShowsMoment k store scene clip → Paints mid shown known scene
        → Appends shown new clip → TakesScenes store (Some k) held new
    no_past : {last : Option ℕ} {held mid new : Option (List ℕ)} {known : List (List Face)}
        → TakesScenes store last held mid → (scene : Scene)
        → ShowsNone store scene → Paints mid new known scene → TakesScenes store None held new
    beside : {last : Option ℕ} {held mid new : Option (List ℕ)} {bytes : List ℕ}
        → TakesScenes store last held mid
        → (bytes ≡ operation_bytes Ring) ⊎ (bytes ≡ size_question) → Appends mid new bytes
        → TakesScenes store last held new

  -- none of them, or some
  abbrev pub TakesSome : StoreView D → Option (List ℕ) → Option (List ℕ) → Type 0
  TakesSome store held held' = (last : Option ℕ) × TakesScenes store last held held'

  -- ---- what is copied

  -- This was copied of a desktop that was seen of a moment, before which the store was only read.
  pub record IsTextCopied (old : StoreView D) (text : List ℕ) : Type 0 where
    pub mid : StoreView D
    pub read : IsOnlyReadFrom d old mid
    pub k : ℕ
    pub desktop : Desktop
    pub seen : IsSeenAt d k mid desktop
    pub is : text ≡ exported_selection desktop

  -- what was copied last is still kept, or something else was copied since then
  abbrev pub KeepsCopied : StoreView D → Option (List ℕ) → Option (List ℕ) → Type 0
  KeepsCopied old kept kept' = (kept' ≡ kept) ⊎ IfSome kept' (IsTextCopied old)

  -- ---- what becomes of the store, and what a writer took meanwhile

  -- It is only read; or it is read first, and then turned back to the moment that the last scene shows.
  pub data IsViewed (old new : StoreView D) (held held' : Option (List ℕ)) : Type 0 where
    looked : IsOnlyReadFrom d old new → (last : Option ℕ) → TakesScenes new last held held'
        → IsViewed old new held held'
    turned : (mid : StoreView D) → IsOnlyReadFrom d old mid → (k : ℕ)
        → TakesScenes mid (Some k) held held' → ComesBackTo d k mid new
        → IsViewed old new held held'

  -- Whatever is returned: it is only read; or it is read first, and then so it is, with the moment that the last scene shows.
  pub data LeavesViewed (old new : StoreView D) (held held' : Option (List ℕ)) : Type 0 where
    only_read : IsOnlyRead d old.disk new.disk → LeavesViewed old new held held'
    turns : (mid : StoreView D) → IsOnlyReadFrom d old mid → (k : ℕ)
        → TakesScenes mid (Some k) held held' → LeavesMoment d k mid new
        → LeavesViewed old new held held'

  -- it was turned to the moment that is shown, or it was only read, and the person looks on
  abbrev pub TurnsOrStays : Doing → Looker → Looker → StoreView D → StoreView D → Type 0
  TurnsOrStays Stays looker looker' old new =
      IsOnlyReadFrom d old new × (IsLookerOf d looker old → IsLookerOf d looker' new)
  TurnsOrStays Leaves looker looker' old new = IsLookerOf d looker old
      → ComesBackTo d looker.shown old new

  -- the person looks on
  pub record LooksOn (looker looker' : Looker) (old new : StoreView D)
      (held held' : Option (List ℕ))
      : Type 0 where
    pub read : IsOnlyReadFrom d old new
    pub knows : IsLookerOf d looker old → IsLookerOf d looker' new
    pub scenes : IsLookerOf d looker old → TakesSome new held held'

  -- what a press does
  abbrev pub DoesKey : Doing → Looker → Looker → StoreView D → StoreView D → Option (List ℕ)
      → Option (List ℕ) → Type 0
  DoesKey Stays looker looker' old new held held' = LooksOn looker looker' old new held held'
  DoesKey Leaves looker looker' old new held held' = IsLookerOf d looker old
      → IsViewed old new held held'

-- where neither the disk nor the memory failed, the store needn't be opened again
abbrev pub IsUsableBehind : {D T : Type 0} → Result T ViewEnd → StoreView D → Type 0
IsUsableBehind result store = MatchResult result (λ _. store.must_reopen ≡ false)
    (λ end. end ≢ Fault → end ≢ Memory → store.must_reopen ≡ false)

-- the number of calls of the writer that failed rose exactly where it ends by `Output`
abbrev pub CountsViewOutput : {T : Type 0} → Result T ViewEnd → ℕ → ℕ → Type 0
CountsViewOutput result failed failed' =
    MatchResult result (λ _. failed' ≡ failed) (λ end. RisesWhere (end ≡ Output) failed failed')
