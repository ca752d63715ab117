-- What a turn comes to, outcome by outcome.
use Rattle.std.proofs.Common.{◌≡◌, ◌≢◌, ◌∙◌, ℕ, ◌<◌, List, [], ◌++◌, Option, Ok, Err, ap, sym, subst, inl, inr}
use Rattle.std.proofs.Common.{append-nil, refl, true, false}
use Rattle.std.specs.Prelude.{Result, OnErr, OnOk, IfErr, length, ◌≤◌}
use Rattle.std.proofs.lemmas.Result.{IfErr-weaker, on_ok_weaker}
use Rattle.byte_streams.specs.Counting.{CountsFault, RisesWhere}
use Rattle.byte_streams.specs.Sent.{AppendsFront}
use Rattle.sector_disk.specs.declared.disk.Disk.{Ghosts}
use Rattle.sector_disk.specs.Trail.{IsCrashImage, now}
use Rattle.sector_disk.proofs.Touching.{at_last}
use Rattle.event_bytes.specs.declared.event.Event.{Event}
use Rattle.screen_pictures.specs.declared.cell.Cell.{Cell}
use Rattle.store_layout.specs.Meaning.{Shows}
use Rattle.screen_drawing.specs.declared.face.Face.{Face}
use Rattle.sector_disk.specs.Faults.{FailsAs}
use Rattle.terminal_keyboard.specs.declared.keyboard.KeyboardEnd.{KeyboardEnd}
use Rattle.terminal_keyboard.specs.declared.keyboard.KeyboardEnd.TheVariants as keyboard
use Rattle.terminal_presses.specs.declared.press.Heard.{Heard}
use Rattle.terminal_keyboard.specs.Presses.{parser_after, presses_heard}
use Rattle.desk_journal.specs.Device.{IsOnlyRead, IsSameDevice}
use Rattle.desk_journal.specs.Errors.{Error, NotAStore, Damaged, TooSmall, Worn, NoMemory, MustReopen}
use Rattle.desk_journal.specs.Errors.{Fault as DiskFault}
use Rattle.desk_journal.specs.Looking.{OnlyLooks}
use Rattle.desk_journal.specs.Session.{Session, session_of}
use Rattle.desk_journal.specs.View.{StoreView, IsDurable}
use Rattle.desk_journal.proofs.Passing.{at_start}
use Rattle.past_pages.proofs.StillReads.{still_both, still_looked, still_none}
use Rattle.desk_sitting.specs.declared.sitting.Sitting.{Sitting}
use Rattle.desk_sitting.specs.Doing.{Breaks, DoesPresses, OfPresses, seat_of}
use Rattle.desk_sitting.specs.Sittings.{is_scene_due, looked}
use Rattle.terminal_sittings.specs.declared.ending.SittingEnd.{SittingEnd}
use Rattle.terminal_sittings.specs.declared.ending.SittingEnd.TheVariants.{Left, Closed, Input, TooLong, Output, Fault}
use Rattle.terminal_sittings.specs.declared.ending.SittingEnd.TheVariants.{Memory}
use Rattle.terminal_sittings.specs.Endings.{EndsBy, IsOfNoKeyboard, sitting_end_of, end_of_keyboard}
use Rattle.terminal_sittings.specs.Scenes.{IsScenePainted, IsSceneShown, IsUnshown, after_scene, behind_it, known_by}
use Rattle.terminal_clipboards.specs.Clips.{clip_bytes}
use Rattle.terminal_sittings.specs.Serving.{TurnState, IsFetched, HearsAfterScene, IsDeaf, Broke}
use Rattle.desk_sitting.specs.Doing.{IsLookedAt}
use Rattle.terminal_sittings.specs.Serving.{HasTurned, HasStopped, TakesTurn, CountsEnding, IsUsableAt, store_screen}
use Rattle.terminal_sittings.specs.Serving.{sitting_shown}
use Rattle.terminal_sittings.specs.Serving.{CountsOutput, left, closed}
use Rattle.terminal_sittings.specs.Serving.{unheard, unseen, faulty, starved, faulty_press, starved_press}
use Rattle.terminal_sittings.specs.Serving.{IsSeenUnlessDue, IsShownIfDue, StaysInUse}
use Rattle.desk_sitting.specs.Clips.{clip_sent}
use Rattle.desk_sitting.proofs.Looked.{same_disk}
use Rattle.terminal_sittings.proofs.Seen.{handed_so, seen_so}
use Rattle.desk_sitting.specs.Desk.{accepted_events}
use Rattle.desk_sitting.specs.Telling.{scene_told}
use Rattle.desk_sitting.specs.TheDesk.{the_desk}

-- ---- a scene

module _ {D : Type 0} (d : Ghosts D) where
  pub unused : (store : StoreView D) → store.must_reopen ≡ false → StaysInUse d store store
  unused store usable = record { usable = usable; device = same_disk d store.disk }

-- the output fails behind the scene
module _ (s s' : Sitting) (screen screen' : List (List Cell)) (clip : List ℕ) (known known' : List (List Face))
    (held between held' : Option (List ℕ)) {H : Type 0} where
  pub cut_behind : {T : Type 0} (result : Result T SittingEnd) → s' ≡ looked screen' s → (H → screen' ≡ screen)
      → IsScenePainted the_desk s' screen' (known_by s.forgets known) known' held between
      → OnErr result (AppendsFront between held' (after_scene s.rings s.asks clip))
      → IfErr result (λ end. end ≡ Output) → IfErr result (λ end. H → IsUnshown the_desk end s screen clip known held held')
  cut_behind (Ok value) looks shows painted front is = tt
  cut_behind (Err end) looks shows painted front is = λ h.
      subst (λ e. IsUnshown the_desk e s screen clip known held held') (sym is) (behind_it
      (subst (λ x. IsScenePainted the_desk (looked x s) x (known_by s.forgets known) known' held between) (shows h)
      (subst (λ t. IsScenePainted the_desk t screen' (known_by s.forgets known) known' held between) looks painted)) front)

-- what is told first is told of what is shown then
module _ {T H H' : Type 0} (result : Result T SittingEnd) {told there : Sitting} {screen screen' : List (List Cell)}
    {clip clip' : List ℕ} (still : H → H') (same : H → there ≡ told) (shows : H → screen' ≡ screen) (clips : H → clip' ≡ clip)
    (known : List (List Face)) (held held' : Option (List ℕ)) where
  pub told_shown : (s' : Sitting) (known' : List (List Face)) (waiting' : ℕ)
      → OnOk result (H' → (s' ≡ looked screen' there)
      × IsSceneShown the_desk there screen' clip' known known' held held' waiting')
      → OnOk result (H → (s' ≡ looked screen told)
      × IsSceneShown the_desk told screen clip known known' held held' waiting')
  told_shown s' known' waiting' = on_ok_weaker result (λ is honest.
      let both = is (still honest) in (
        both.0 ∙ (λ k. looked (shows honest k) (same honest k)),
        subst (λ (t : Sitting). IsSceneShown the_desk t screen clip known known' held held' waiting') (same honest)
            (subst (λ (x : List (List Cell)). IsSceneShown the_desk there x clip known known' held held' waiting') (shows honest)
            (subst (λ (b : List ℕ). IsSceneShown the_desk there screen' b known known' held held' waiting') (clips honest) both.1)),
      ))

  pub told_unshown : IfErr result (λ end. H' → IsUnshown the_desk end there screen' clip' known held held')
      → IfErr result (λ end. H → IsUnshown the_desk end told screen clip known held held')
  told_unshown = IfErr-weaker result _ _ (λ end is honest.
      subst (λ (t : Sitting). IsUnshown the_desk end t screen clip known held held') (same honest)
      (subst (λ (x : List (List Cell)). IsUnshown the_desk end there x clip known held held') (shows honest)
      (subst (λ (b : List ℕ). IsUnshown the_desk end there screen' b known held held') (clips honest) (is (still honest)))))

-- ---- failures

pub calm_keyboard : (why : KeyboardEnd) (failed failed' : ℕ) → failed' ≡ failed
    → CountsEnding (end_of_keyboard why) failed failed'
calm_keyboard keyboard.Closed failed failed' same = same
calm_keyboard keyboard.Fault failed failed' same = same

pub counts_presses : {T : Type 0} (error : Error) (first failed failed' : ℕ) → failed ≡ first
    → FailsAs {T = T} DiskFault OfPresses (Err error) failed failed' → CountsEnding (sitting_end_of error) first failed'
counts_presses error first failed failed' same fails = elim fails.errors [
  | inl is ↦ subst (λ e. CountsEnding (sitting_end_of e) first failed') (sym is) (fails.calm (λ wrong. cc) ∙ same)
  | inr is ↦ subst (λ e. CountsEnding (sitting_end_of e) first failed') (sym is)
      (subst (λ n. n < failed') same (fails.rose (ap (λ e. Err e) is)))
]

pub calm_presses : {T : Type 0} (value : T) (first failed failed' : ℕ) → failed ≡ first
    → FailsAs DiskFault OfPresses (Ok value) failed failed' → failed' ≡ first
calm_presses value first failed failed' same fails = fails.calm (λ wrong. cc) ∙ same

-- after a press that fails nothing is promised of the store
pub unusable : {D : Type 0} (error : Error) (store : StoreView D) → OfPresses error → IsUsableAt (sitting_end_of error) store
unusable error store why = elim why [
  | inl is ↦ subst (λ e. IsUsableAt (sitting_end_of e) store) (sym is) (λ _ wrong. absurd (wrong refl))
  | inr is ↦ subst (λ e. IsUsableAt (sitting_end_of e) store) (sym is) (λ wrong _. absurd (wrong refl))
]

-- ---- what the keyboard is the cause of

pub not_of_keyboard : (ended : KeyboardEnd → Type 0) (end : SittingEnd) → IsOfNoKeyboard end → EndsBy ended end
not_of_keyboard ended Left is = tt
not_of_keyboard ended Closed is = absurd is
not_of_keyboard ended Input is = absurd is
not_of_keyboard ended TooLong is = tt
not_of_keyboard ended Output is = tt
not_of_keyboard ended Fault is = tt
not_of_keyboard ended Memory is = tt

pub store_no_keyboard : (error : Error) → IsOfNoKeyboard (sitting_end_of error)
store_no_keyboard NotAStore = tt
store_no_keyboard (Damaged sector) = tt
store_no_keyboard TooSmall = tt
store_no_keyboard Worn = tt
store_no_keyboard DiskFault = tt
store_no_keyboard NoMemory = tt
store_no_keyboard MustReopen = tt

pub of_keyboard : (ended : KeyboardEnd → Type 0) (why : KeyboardEnd) → ended why → EndsBy ended (end_of_keyboard why)
of_keyboard ended keyboard.Closed is = is
of_keyboard ended keyboard.Fault is = is

-- ---- what the writer is the cause of

fault_no_output : Fault ≢ Output
fault_no_output = λ is. cc

memory_no_output : Memory ≢ Output
memory_no_output = λ is. cc

pub left_no_output : Left ≢ Output
left_no_output = λ is. cc

pub too_long_no_output : TooLong ≢ Output
too_long_no_output = λ is. cc

closed_no_output : Closed ≢ Output
closed_no_output = λ is. cc

input_no_output : Input ≢ Output
input_no_output = λ is. cc

pub store_no_output : (error : Error) → sitting_end_of error ≢ Output
store_no_output NotAStore = fault_no_output
store_no_output (Damaged sector) = fault_no_output
store_no_output TooSmall = fault_no_output
store_no_output Worn = fault_no_output
store_no_output DiskFault = fault_no_output
store_no_output NoMemory = memory_no_output
store_no_output MustReopen = fault_no_output

pub keyboard_no_output : (why : KeyboardEnd) → end_of_keyboard why ≢ Output
keyboard_no_output keyboard.Closed = closed_no_output
keyboard_no_output keyboard.Fault = input_no_output

pub output_calm : (end : SittingEnd) (failed failed' : ℕ) → end ≢ Output → failed' ≡ failed
    → RisesWhere (end ≡ Output) failed failed'
output_calm end failed failed' other same = record { rose = λ is. absurd (other is); calm = λ _. same }

pub output_rose : (end : SittingEnd) (failed failed' : ℕ) → end ≡ Output → failed < failed'
    → RisesWhere (end ≡ Output) failed failed'
output_rose end failed failed' is rose = record { rose = λ _. rose; calm = λ other. absurd (other is) }

-- nothing is sent
pub output_unsent : {T : Type 0} (result : Result T SittingEnd) (failed : ℕ) → IfErr result (λ end. end ≢ Output)
    → CountsOutput result failed failed
output_unsent (Ok value) failed other = refl
output_unsent (Err end) failed other = output_calm end failed failed other refl

-- it is sent, and fails at its output alone
pub output_sent : {T : Type 0} (result : Result T SittingEnd) (first failed failed' : ℕ) → failed ≡ first
    → CountsFault result failed failed' → IfErr result (λ end. end ≡ Output) → CountsOutput result first failed'
output_sent (Ok value) first failed failed' same counts is = counts ∙ same
output_sent (Err end) first failed failed' same counts is =
    output_rose end first failed' is (subst (λ n. n < failed') same counts)

-- a turn goes on, or ends by its own
pub output_ends : (end : SittingEnd) (first failed failed' : ℕ) → failed ≡ first → RisesWhere (end ≡ Output) failed failed'
    → RisesWhere (end ≡ Output) first failed'
output_ends end first failed failed' same rises = subst (λ n. RisesWhere (end ≡ Output) n failed') same rises

-- ---- a turn

module _ {D : Type 0} (d : Ghosts D) where
  -- a turn in which the sitting ends
  ended : {T : Type 0} (result : Result T SittingEnd) (end : SittingEnd) (old new : TurnState D) → result ≡ Err end
      → (d.honest old.store.disk → IsDurable d old.store → IsSeenUnlessDue the_desk old → HasStopped the_desk d end old new)
      → IsUsableAt end new.store
      → CountsEnding end (d.failures old.store.disk) (d.failures new.store.disk)
      → IsSameDevice d old.store.disk new.store.disk → TakesTurn the_desk d result old new
  ended result end old new is stops usable counts device = subst (λ r. TakesTurn the_desk d r old new) (sym is) (record {
    goes_on = tt;
    stays = tt;
    stops = stops;
    usable = tt;
    still_usable = usable;
    counts = counts;
    device = device;
  })

  -- the scene isn't shown
  unshown_stops : (end : SittingEnd) (old new : TurnState D) → is_scene_due old.sitting ≡ true
      → IsLookedAt d old.store new.store → new.heard ≡ old.heard → new.asked ≡ old.asked
      → IsUnshown the_desk end (scene_told old.store.desktop old.sitting) (store_screen old.store)
      (clip_bytes (clip_sent old.store.desktop old.sitting)) old.known old.held new.held
      → HasStopped the_desk d end old new
  unshown_stops Left old new due looks heard unasked why = absurd why
  unshown_stops Closed old new due looks heard unasked why = absurd why
  unshown_stops Input old new due looks heard unasked why = absurd why
  unshown_stops TooLong old new due looks heard unasked why = absurd why
  unshown_stops Output old new due looks heard unasked why =
      ([], [], unseen (record { due = due; looked = looks; cut = why; heard = heard; unasked = unasked }))
  unshown_stops Fault old new due looks heard unasked why =
      ([], [], faulty (record { due = due; looked = looks; held = why; heard = heard; unasked = unasked }))
  unshown_stops Memory old new due looks heard unasked why =
      ([], [], starved (record { due = due; looked = looks; held = why; heard = heard; unasked = unasked }))

  pub unshown_ends : {T : Type 0} {old new : TurnState D} (result : Result T SittingEnd) (end : SittingEnd)
      → result ≡ Err end → (d.honest old.store.disk → IsDurable d old.store → IsLookedAt d old.store new.store)
      → (is_scene_due old.sitting ≡ true)
      × (d.honest old.store.disk → IsUnshown the_desk end (scene_told old.store.desktop old.sitting) (store_screen old.store)
      (clip_bytes (clip_sent old.store.desktop old.sitting)) old.known old.held new.held)
      → new.heard ≡ old.heard → new.asked ≡ old.asked → new.store.must_reopen ≡ false
      → CountsEnding end (d.failures old.store.disk) (d.failures new.store.disk)
      → IsSameDevice d old.store.disk new.store.disk → TakesTurn the_desk d result old new
  unshown_ends {old = old} {new = new} result end is looks why heard unasked usable = ended result end old new is
      (λ honest durable seen. unshown_stops end old new why.0 (looks honest durable) heard unasked (why.1 honest))
      (λ _ _. usable)

  -- nothing is heard
  deaf_stops : (why : KeyboardEnd) (old new : TurnState D) → IsDeaf the_desk d old new
      → HasStopped the_desk d (end_of_keyboard why) old new
  deaf_stops keyboard.Closed old new deaf = ([], [], closed deaf)
  deaf_stops keyboard.Fault old new deaf = ([], [], unheard deaf)

  pub deaf_ends : {T : Type 0} {old new : TurnState D} (result : Result T SittingEnd) (why : KeyboardEnd)
      → result ≡ Err (end_of_keyboard why)
      → (d.honest old.store.disk → IsDurable d old.store → IsLookedAt d old.store new.store)
      → (d.honest old.store.disk
      → IsShownIfDue the_desk old.sitting old.store new.store old.known new.known old.held new.held old.waiting new.waiting)
      → new.heard ≡ old.heard → new.asked ≡ old.asked → new.store.must_reopen ≡ false
      → d.failures new.store.disk ≡ d.failures old.store.disk
      → IsSameDevice d old.store.disk new.store.disk → TakesTurn the_desk d result old new
  deaf_ends {old = old} {new = new} result why is looks shown heard unasked usable calm =
      ended result (end_of_keyboard why) old new is
      (λ honest durable seen. deaf_stops why old new (record {
        scene = record {
          looked = looks honest durable;
          shown = shown honest;
          seen = seen_so (shown honest) seen;
          handed = handed_so (shown honest) seen;
          heard = heard ∙ sym (append-nil old.heard);
        };
        unasked = unasked;
      })) (λ _ _. usable) (calm_keyboard why (d.failures old.store.disk) (d.failures new.store.disk) calm)

  -- a scene is shown, after which the store and the sitting are these, and this is heard
  module _ {old new : TurnState D} (mid : StoreView D) (s : Sitting) (hearing : List Heard)
      (looks : d.honest old.store.disk → IsDurable d old.store → IsLookedAt d old.store mid)
      (sees : d.honest old.store.disk → s ≡ sitting_shown the_desk old)
      (shown : d.honest old.store.disk
      → IsShownIfDue the_desk old.sitting old.store mid old.known new.known old.held new.held old.waiting new.waiting)
      (heard : new.heard ≡ old.heard ++ hearing) (something : 1 ≤ length hearing) where
    scene : d.honest old.store.disk → IsDurable d old.store → IsSeenUnlessDue the_desk old
        → HearsAfterScene the_desk d hearing old mid new
    scene honest durable seen = record {
      looked = looks honest durable;
      shown = shown honest;
      seen = seen_so (shown honest) seen;
      handed = handed_so (shown honest) seen;
      heard = heard;
    }

    pub turned : (s' : Sitting) → new.parser ≡ parser_after old.parser hearing
        → (d.honest mid.disk → IsDurable d mid → DoesPresses the_desk d (presses_heard old.parser hearing) s s' mid new.store)
        → IsFetched the_desk s' new.sitting old.asked new.asked → d.honest old.store.disk → IsDurable d old.store
        → IsSeenUnlessDue the_desk old
        → HasTurned the_desk d old new
    turned s' parser does brings honest durable seen = (
      accepted_events the_desk (presses_heard old.parser hearing) (seat_of (sitting_shown the_desk old) mid),
      record {
        hearing = hearing;
        something = something;
        mid = mid;
        scene = scene honest durable seen;
        parser = parser;
        sitting = s';
        does = subst (λ t. DoesPresses the_desk d (presses_heard old.parser hearing) t s' mid new.store) (sees honest)
            (does ((looks honest durable).read.left.disk.device.still honest) (looks honest durable).durable);
        are = refl;
        brings = brings;
      },
    )

    -- a press fails
    broken : (error : Error) → OfPresses error → new.asked ≡ old.asked
        → (d.honest mid.disk → IsDurable d mid → Breaks the_desk d error (presses_heard old.parser hearing) s mid new.store)
        → d.honest old.store.disk → IsDurable d old.store → IsSeenUnlessDue the_desk old
        → HasStopped the_desk d (sitting_end_of error) old new
    broken error why unasked fails honest durable seen =
        let breaks : Breaks the_desk d error (presses_heard old.parser hearing) (sitting_shown the_desk old) mid new.store =
        subst (λ t. Breaks the_desk d error (presses_heard old.parser hearing) t mid new.store) (sees honest)
        (fails ((looks honest durable).read.left.disk.device.still honest) (looks honest durable).durable) in
        let events : List Event = accepted_events the_desk breaks.done (seat_of (sitting_shown the_desk old) mid)
        ++ breaks.undone.acknowledged in
        let begun : List Event = breaks.undone.begun in
        let broke : Broke the_desk d error events begun old new = record {
          hearing = hearing;
          something = something;
          mid = mid;
          scene = scene honest durable seen;
          breaks = breaks;
          are = refl;
          fails = refl;
          unasked = unasked;
        } in
        elim why [
          | inl is ↦ subst (λ e. HasStopped the_desk d (sitting_end_of e) old new) (sym is)
              (events, [], starved_press (subst (λ e. Broke the_desk d e events begun old new) is broke))
          | inr is ↦ subst (λ e. HasStopped the_desk d (sitting_end_of e) old new) (sym is)
              (events, begun, faulty_press (subst (λ e. Broke the_desk d e events begun old new) is broke))
        ]

    pub broken_ends : {T : Type 0} (result : Result T SittingEnd) (error : Error) → result ≡ Err (sitting_end_of error)
        → new.asked ≡ old.asked
        → (d.honest mid.disk → IsDurable d mid → Breaks the_desk d error (presses_heard old.parser hearing) s mid new.store)
        → d.failures mid.disk ≡ d.failures old.store.disk
        → FailsAs {T = T} DiskFault OfPresses (Err error) (d.failures mid.disk) (d.failures new.store.disk)
        → IsSameDevice d old.store.disk new.store.disk → TakesTurn the_desk d result old new
    broken_ends result error is unasked fails calm faults = ended result (sitting_end_of error) old new is
        (broken error faults.errors unasked fails) (unusable error new.store faults.errors)
        (counts_presses error (d.failures old.store.disk) (d.failures mid.disk) (d.failures new.store.disk) calm faults)

  -- the person leaves
  pub left_stops : {old new : TurnState D} → HasTurned the_desk d old new → new.sitting.leaves ≡ true
      → HasStopped the_desk d Left old new
  left_stops turn leaves = (turn.0, [], left turn.1 leaves)

-- what is heard is what the keyboard told
pub heard_so : {after told slice : List Heard} (heard : List Heard) → after ≡ heard ++ told → slice ≡ told
    → after ≡ heard ++ slice
heard_so heard grown same = grown ∙ ap (λ l. heard ++ l) (sym same)

-- hearing asks for nothing
pub asked_so : {old new : Sitting} {first mid last : List ℕ} → mid ≡ first → IsFetched the_desk old new mid last
    → IsFetched the_desk old new first last
asked_so {old = old} {new = new} {last = last} same fetched = subst (λ a. IsFetched the_desk old new a last) same fetched
