-- A sitting over a store, turn by turn: the scene is shown where one is due, something is heard, and what is pressed is
-- done. `d` is what is known of a disk.
use Rattle.std.specs.Prelude.{◌≡◌, ◌≢◌, ◌<◌, ◌+◌, ◌-◌, ◌^◌, ℕ, Bool, true, false, List, [], ◌++◌, Option}
use Rattle.std.specs.Prelude.{Result, MatchResult, OnOk, IfErr, Some, None, is_none, length, ◌≤◌, ⊤}
use Rattle.host_files.specs.declared.HostFault.{HostFault}
use Rattle.byte_streams.specs.Counting.{RisesWhere}
use Rattle.sector_disk.specs.declared.disk.Disk.{Ghosts}
use Rattle.event_bytes.specs.declared.event.Event.{Event}
use Rattle.screen_pictures.specs.declared.cell.Cell.{Cell}
use Rattle.desktop_definitions.specs.Shown.{shown_screen}
use Rattle.desk_journal.specs.Device.{IsSameDevice}
use Rattle.desk_journal.specs.Errors.{Error, NoMemory, Fault as DiskFault}
use Rattle.desk_journal.specs.Session.{session_of}
use Rattle.desk_journal.specs.View.{StoreView, IsDurable}
use Rattle.past_pages.specs.Reading.{IsOnlyReadFrom}
use Rattle.screen_drawing.specs.declared.face.Face.{Face}
use Rattle.terminal_keyboard.specs.declared.parser.Parser.{Parser}
use Rattle.terminal_presses.specs.declared.press.Heard.{Heard}
use Rattle.terminal_keyboard.specs.declared.completion.Completion.{Completion}
use Rattle.terminal_keyboard.specs.Hearings.{asked_for, asked_rest}
use Rattle.done_presses.specs.Past.{PastView}
use Rattle.status_line.specs.declared.saying.Saying.{Saying}
use Rattle.desk_sitting.specs.declared.sitting.Sitting.{Sitting}
use Rattle.desk_sitting.specs.Doing.{Breaks, DoesPresses, IsLookedAt, seat_of}
use Rattle.desk_sitting.specs.Desk.{Desk, accepted_events}
use Rattle.desk_sitting.specs.Sittings.{is_scene_due}
use Rattle.terminal_sittings.specs.declared.ending.SittingEnd.{SittingEnd}
use Rattle.terminal_sittings.specs.declared.ending.SittingEnd.TheVariants.{Left, Closed, Input, TooLong, Output, Fault}
use Rattle.terminal_sittings.specs.declared.ending.SittingEnd.TheVariants.{Memory}
use Rattle.terminal_sittings.specs.Scenes.{IsSceneShown, IsSceneCutShort, IsSeen}
use Rattle.terminal_clipboards.specs.Clips.{clip_bytes}

-- where a sitting stands between two turns: the parser, the sitting, the store, all that was heard so far, what the
-- keyboard was asked for, what is known of the terminal, what the writer holds, and how many of its writes wait for a
-- flush
pub record TurnState (D : Type 0) : Type 0 where
  pub parser : Parser
  pub sitting : Sitting
  pub store : StoreView D
  pub heard : List Heard
  pub asked : List ℕ
  pub known : List (List Face)
  pub held : Option (List ℕ)
  pub waiting : ℕ

-- what a keyboard has told and was asked for, and what a writer holds, and holds back
pub record Exchange : Type 0 where
  pub heard : List Heard
  pub asked : List ℕ
  pub held : Option (List ℕ)
  pub waiting : ℕ

abbrev pub exchange : List Heard → List ℕ → Option (List ℕ) → ℕ → Exchange
exchange heard asked held waiting = record {
  heard = heard;
  asked = asked;
  held = held;
  waiting = waiting;
}

abbrev pub exchange_at : {D : Type 0} → TurnState D → Exchange
exchange_at p = exchange p.heard p.asked p.held p.waiting

-- what a store shows
abbrev pub store_screen : {D : Type 0} → StoreView D → List (List Cell)
store_screen store = shown_screen store.desktop

abbrev pub turn_state_of : {D : Type 0} → Parser → Sitting → StoreView D → List (List Face)
    → Exchange → TurnState D
turn_state_of parser sitting store known out = record {
  parser = parser;
  sitting = sitting;
  store = store;
  heard = out.heard;
  asked = out.asked;
  known = known;
  held = out.held;
  waiting = out.waiting;
}

-- the host file that is asked for, where one is wanted, and the answer
abbrev pub asking_for : Option (List ℕ) → Result ⊤ HostFault → List ℕ
asking_for None answer = []
asking_for (Some name) answer = asked_for name answer

-- and the name of which it is asked how it goes on
abbrev pub asking_rest : Bool → Option (List ℕ) → Completion → List ℕ
asking_rest true (Some name) told = asked_rest name told
asking_rest _ _ told = []

-- where neither the disk nor the memory failed, the store needn't be opened again
abbrev pub IsUsableAt : {D : Type 0} → SittingEnd → StoreView D → Type 0
IsUsableAt end store = end ≢ Fault → end ≢ Memory → store.must_reopen ≡ false

-- the number of failures of the disk rose exactly where the sitting ended by its fault
abbrev pub CountsEnding : SittingEnd → ℕ → ℕ → Type 0
CountsEnding Left failed failed' = failed' ≡ failed
CountsEnding Closed failed failed' = failed' ≡ failed
CountsEnding Input failed failed' = failed' ≡ failed
CountsEnding TooLong failed failed' = failed' ≡ failed
CountsEnding Output failed failed' = failed' ≡ failed
CountsEnding Fault failed failed' = failed < failed'
CountsEnding Memory failed failed' = failed' ≡ failed

-- and it stays where the sitting goes on
abbrev pub CountsTurn : {T : Type 0} → Result T SittingEnd → ℕ → ℕ → Type 0
CountsTurn result failed failed' =
    MatchResult result (λ _. failed' ≡ failed) (λ end. CountsEnding end failed failed')

-- the number of calls of the writer that failed rose exactly where a turn ends by `Output`
abbrev pub CountsOutput : {T : Type 0} → Result T SittingEnd → ℕ → ℕ → Type 0
CountsOutput result failed failed' =
    MatchResult result (λ _. failed' ≡ failed) (λ end. RisesWhere (end ≡ Output) failed failed')

module _ {D : Type 0} (d : Ghosts D) where
  -- a store can be used, over the same device
  pub record StaysInUse (old new : StoreView D) : Type 0 where
    pub usable : new.must_reopen ≡ false
    pub device : IsSameDevice d old.disk new.disk

  -- the screen can't be worked out
  pub record IsBlind (old new : TurnState D) : Type 0 where
    pub due : is_scene_due old.sitting ≡ true
    pub looked : IsLookedAt d old.store new.store
    pub held : new.held ≡ old.held
    pub heard : new.heard ≡ old.heard
    pub unasked : new.asked ≡ old.asked

-- ---- a turn

module _ (desk : Desk) where
  -- the sitting after the scene was shown, which says where a text was too long for the clipboard; where none is due it is
  -- as before
  abbrev pub sitting_shown : {D : Type 0} → TurnState D → Sitting
  sitting_shown p = desk.looks (store_screen p.store) (desk.tells p.store.desktop p.sitting)

  -- Unless a scene is due, what was sent last has the terminal show the scene of the desktop that stands, and all of it
  -- was handed on.
  abbrev pub IsSeenUnlessDue : {D : Type 0} → TurnState D → Type 0
  IsSeenUnlessDue p = is_scene_due p.sitting ≡ false
      → IsSeen desk p.sitting (store_screen p.store) p.known p.held × (p.waiting ≡ 0)

  -- What is shown before anything is heard: the scene, where one is due. Else nothing is sent, and nobody looks at the
  -- store.
  pub data IsShownIfDue {D : Type 0} (s : Sitting) (old mid : StoreView D)
      (known known' : List (List Face)) (held held' : Option (List ℕ)) (waiting waiting' : ℕ)
      : Type 0 where
    anew : is_scene_due s ≡ true
        → IsSceneShown desk (desk.tells old.desktop s) (store_screen old)
        (clip_bytes (desk.gives old.desktop s)) known known' held held' waiting'
        → IsShownIfDue s old mid known known' held held' waiting waiting'
    still : is_scene_due s ≡ false → mid ≡ old → known' ≡ known → held' ≡ held → waiting' ≡ waiting
        → IsShownIfDue s old mid known known' held held' waiting waiting'

  -- nothing was heard yet, and nothing is known of the terminal
  abbrev pub first_place : {D : Type 0} → ℕ → ℕ → Saying → Bool → Bool → Bool → PastView
      → StoreView D → Exchange → TurnState D
  first_place height width greeting questions fills holds past store out =
      turn_state_of desk.parser
      (record (desk.begins height width greeting questions) {
        fills = fills;
        holds = holds;
        past = past;
      }) store [] out

  -- the keyboard was asked for the text of the host file that is wanted, and of no other
  pub record IsTextFetched (old new : Sitting) (asked asked' : List ℕ) : Type 0 where
    pub answer : Result ⊤ HostFault
    pub brings : new ≡ desk.fetches answer old
    pub asks : asked' ≡ asked ++ asking_for old.wanted answer

  -- it was asked how the name goes on that is asked for, where that is wanted
  pub record IsCompleted (old new : Sitting) (asked asked' : List ℕ) : Type 0 where
    pub told : Completion
    pub completes : new ≡ desk.completes told old
    pub asks : asked' ≡ asked ++ asking_rest old.completes old.hand.asked told

  -- the one and then the other
  pub record IsFetched (old new : Sitting) (asked asked' : List ℕ) : Type 0 where
    pub mid : Sitting
    pub asked_mid : List ℕ
    pub brought : IsTextFetched old mid asked asked_mid
    pub completed : IsCompleted mid new asked_mid asked'

module _ (desk : Desk) {D : Type 0} (d : Ghosts D) where
  -- The terminal shows the desktop, be it anew or still: all that was sent was handed on. Then this is heard.
  pub record HearsAfterScene (hearing : List Heard) (old : TurnState D) (mid : StoreView D)
      (new : TurnState D) : Type 0 where
    pub looked : IsLookedAt d old.store mid
    pub shown : IsShownIfDue desk old.sitting old.store mid old.known new.known old.held new.held
        old.waiting new.waiting
    pub handed : new.waiting ≡ 0
    pub seen : IsSeen desk (sitting_shown desk old) (store_screen old.store) new.known new.held
    pub heard : new.heard ≡ old.heard ++ hearing

  -- Then what is pressed by it is done, of which these events are accepted, and the keyboard is asked for the text of a
  -- host file where one is wanted. Nothing is done before something is heard.
  pub record Turns (events : List Event) (old new : TurnState D) : Type 0 where
    pub hearing : List Heard
    pub something : 1 ≤ length hearing
    pub mid : StoreView D
    pub scene : HearsAfterScene hearing old mid new
    pub parser : new.parser ≡ desk.parses old.parser hearing
    pub sitting : Sitting
    pub does : DoesPresses desk d (desk.pressed old.parser hearing) (sitting_shown desk old)
        sitting mid new.store
    pub are : events ≡ accepted_events desk (desk.pressed old.parser hearing)
        (seat_of (sitting_shown desk old) mid)
    pub brings : IsFetched desk sitting new.sitting old.asked new.asked

  -- so many turns, one after another, in which these events are accepted, and after none of which the person has left,
  -- or before which something was to be taken back or done again
  pub data IsTurnRun (first : TurnState D) : ℕ → List Event → TurnState D → Type 0 where
    none : IsTurnRun first 0 [] first
    one_more : {count : ℕ} {events more : List Event} {mid new : TurnState D}
        → IsTurnRun first count events mid → is_none mid.sitting.travels ≡ true
        → Turns more mid new → new.sitting.leaves ≡ false
        → IsTurnRun first (count + 1) (events ++ more) new

  -- ---- how it ends

  -- nothing is heard after the scene
  pub record IsDeaf (old new : TurnState D) : Type 0 where
    pub scene : HearsAfterScene [] old new.store new
    pub unasked : new.asked ≡ old.asked

  -- the output takes a front of what has the terminal show the scene
  pub record IsUnseen (old new : TurnState D) : Type 0 where
    pub due : is_scene_due old.sitting ≡ true
    pub looked : IsLookedAt d old.store new.store
    pub cut : IsSceneCutShort desk (desk.tells old.store.desktop old.sitting)
        (store_screen old.store) (clip_bytes (desk.gives old.store.desktop old.sitting))
        old.known old.held new.held
    pub heard : new.heard ≡ old.heard
    pub unasked : new.asked ≡ old.asked

  -- A press fails. These events are accepted of the presses before it and of it, and this one, if any, was to be its
  -- next. What is pressed after it isn't done, and the keyboard is asked for nothing.
  pub record Broke (error : Error) (events begun : List Event) (old new : TurnState D)
      : Type 0 where
    pub hearing : List Heard
    pub something : 1 ≤ length hearing
    pub mid : StoreView D
    pub scene : HearsAfterScene hearing old mid new
    pub breaks : Breaks desk d error (desk.pressed old.parser hearing) (sitting_shown desk old)
        mid new.store
    pub are : events ≡ accepted_events desk breaks.done (seat_of (sitting_shown desk old) mid)
        ++ breaks.undone.acknowledged
    pub fails : begun ≡ breaks.undone.begun
    pub unasked : new.asked ≡ old.asked

  -- A sitting ends in a turn, in which these events are accepted. One more is begun where the disk fails in a press: it
  -- isn't acknowledged, and may be in an image or not. For want of memory it is in none.
  pub data SittingStops : SittingEnd → List Event → List Event → TurnState D → TurnState D
      → Type 0 where
    left : {events : List Event} {old new : TurnState D} → Turns events old new
        → new.sitting.leaves ≡ true
        → SittingStops Left events [] old new
    closed : {old new : TurnState D} → IsDeaf old new → SittingStops Closed [] [] old new
    unheard : {old new : TurnState D} → IsDeaf old new → SittingStops Input [] [] old new
    unseen : {old new : TurnState D} → IsUnseen old new → SittingStops Output [] [] old new
    faulty : {old new : TurnState D} → IsBlind d old new → SittingStops Fault [] [] old new
    starved : {old new : TurnState D} → IsBlind d old new → SittingStops Memory [] [] old new
    faulty_press : {events begun : List Event} {old new : TurnState D}
        → Broke DiskFault events begun old new
        → SittingStops Fault events begun old new
    starved_press : {events begun : List Event} {old new : TurnState D}
        → Broke NoMemory events begun old new
        → SittingStops Memory events [] old new

  -- some events are accepted in a turn, and in the one in which it ends
  abbrev pub HasTurned : TurnState D → TurnState D → Type 0
  HasTurned old new = (events : List Event) × Turns events old new

  abbrev pub HasStopped : SittingEnd → TurnState D → TurnState D → Type 0
  HasStopped end old new = (events : List Event) × (begun : List Event)
      × SittingStops end events begun old new

  -- It ends so after so many turns, or because there were as many as can be counted.
  pub data Ends : SittingEnd → ℕ → List Event → List Event → TurnState D → TurnState D
      → Type 0 where
    stopped : {end : SittingEnd} {count : ℕ} {events begun : List Event} {old new : TurnState D}
        → is_none old.sitting.travels ≡ true → SittingStops end events begun old new
        → Ends end count events begun old new
    too_long : {place : TurnState D} → Ends TooLong (2 ^ 64 - 1) [] [] place place

  -- All that a turn promises that returns this.
  pub record TakesTurn {T : Type 0} (result : Result T SittingEnd) (old new : TurnState D)
      : Type 0 where
    pub goes_on : OnOk result (d.honest old.store.disk → IsDurable d old.store
        → IsSeenUnlessDue desk old → HasTurned old new)
    pub stays : OnOk result (new.sitting.leaves ≡ false)
    pub stops : IfErr result (λ end. d.honest old.store.disk → IsDurable d old.store
        → IsSeenUnlessDue desk old → HasStopped end old new)
    pub usable : OnOk result (new.store.must_reopen ≡ false)
    pub still_usable : IfErr result (λ end. IsUsableAt end new.store)
    pub counts : CountsTurn result (d.failures old.store.disk) (d.failures new.store.disk)
    pub device : IsSameDevice d old.store.disk new.store.disk
