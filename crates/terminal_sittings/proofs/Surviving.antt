-- What a crash leaves of presses, of turns, and of a whole sitting.
use Rattle.std.proofs.Common.{◌≡◌, ◌≤◌, ℕ, List, [], ◌∷◌, ◌++◌, length}
use Rattle.std.proofs.Common.{refl, sym, ◌∙◌, ap, subst, arith, append_assoc, append-nil}
use Rattle.sector_disk.specs.declared.disk.Disk.{Ghosts}
use Rattle.event_bytes.specs.declared.event.Event.{Event}
use Rattle.desk_journal.specs.Errors.{Error, NoMemory, Fault as DiskFault}
use Rattle.desk_journal.specs.View.{StoreView, IsDurable}
use Rattle.terminal_presses.specs.declared.press.Press.{Press}
use Rattle.desk_sitting.specs.declared.sitting.Sitting.{Sitting}
use Rattle.desk_sitting.specs.Doing.{Breaks, DoesPresses, GoesBy, IsPressDone, SittingSurvives, seat_of}
use Rattle.desk_sitting.specs.Doing.{none as no_press, one_more as one_press}
use Rattle.desk_sitting.specs.Desk.{Desk, Seat, accepted_events, after_presses}
use Rattle.terminal_sittings.specs.declared.ending.SittingEnd.{SittingEnd}
use Rattle.terminal_sittings.specs.declared.ending.SittingEnd.TheVariants.{Left, Closed, Input, TooLong, Output, Fault}
use Rattle.terminal_sittings.specs.declared.ending.SittingEnd.TheVariants.{Memory}
use Rattle.terminal_sittings.specs.Serving.{TurnState, Turns, IsTurnRun, Broke, SittingStops, Ends}
use Rattle.desk_sitting.specs.Doing.{IsLookedAt}
use Rattle.terminal_sittings.specs.Serving.{sitting_shown}
use Rattle.terminal_sittings.specs.Serving.{none as no_turn, one_more as one_more_turn}
use Rattle.terminal_sittings.specs.Serving.{left, closed, unheard, unseen, faulty, starved, faulty_press, starved_press}
use Rattle.terminal_sittings.specs.Serving.{stopped, too_long}
use Rattle.desk_sitting.specs.Pasts.{PostsUpTo}
use Rattle.terminal_sittings.specs.Surviving.{SurvivesEnd}
use Rattle.terminal_sittings.specs.Surviving.{ScenesSurvive, TurnsSurvive, EndsSurvive}
use Rattle.desk_sitting.proofs.Posts.{posts_look, posts_then, up_to_none}
use Rattle.desk_sitting.proofs.Pressed.{goes_by_look, goes_nowhere, goes_on, look_survives, survives_on}

-- ---- the events of presses

module _ (desk : Desk) where
  accepted_more : (presses : List Press) (press : Press) (seat : Seat)
      → accepted_events desk (presses ++ press ∷ []) seat
      ≡ accepted_events desk presses seat ++ desk.accepts press (after_presses desk presses seat)
  accepted_more [] press seat = append-nil (desk.accepts press seat)
  accepted_more (first ∷ presses) press seat =
      ap (λ es. desk.accepts first seat ++ es) (accepted_more presses press (desk.does first seat))
      ∙ sym (append_assoc (desk.accepts first seat) (accepted_events desk presses (desk.does first seat))
      (desk.accepts press (after_presses desk presses (desk.does first seat))))

  after_more : (presses : List Press) (press : Press) (seat : Seat)
      → after_presses desk (presses ++ press ∷ []) seat ≡ desk.does press (after_presses desk presses seat)
  after_more [] press seat = refl
  after_more (first ∷ presses) press seat = after_more presses press (desk.does first seat)

  module _ {D : Type 0} (d : Ghosts D) where
    pub scenes_survive : ScenesSurvive desk d
    scenes_survive hearing old new mid scene = look_survives d old.store mid scene.looked

    -- ---- presses that are done

    -- what presses leave
    record Leads (presses : List Press) (s s' : Sitting) (old new : StoreView D) : Type 0 where
      pub goes : GoesBy d (accepted_events desk presses (seat_of s old)) old new
      pub seat : seat_of s' new ≡ after_presses desk presses (seat_of s old)

    -- one press more
    leads_more : (presses : List Press) (press : Press) (s s' s'' : Sitting) (old mid new : StoreView D)
        → Leads presses s s' old mid
        → IsPressDone d (desk.accepts press (seat_of s' mid)) (desk.does press (seat_of s' mid)) s'' mid new
        → Leads (presses ++ press ∷ []) s s'' old new
    leads_more presses press s s' s'' old mid new before done =
        let start : Seat = seat_of s old in
        let goes : GoesBy d (accepted_events desk presses start ++ desk.accepts press (seat_of s' mid)) old new =
        goes_on d (accepted_events desk presses start) (desk.accepts press (seat_of s' mid)) old mid new before.goes
        done.goes in
        record {
          goes = subst (λ es. GoesBy d es old new)
              (ap (λ e. accepted_events desk presses start ++ desk.accepts press e) before.seat
              ∙ sym (accepted_more presses press start))
              goes;
          seat = done.seat ∙ ap (desk.does press) before.seat ∙ sym (after_more presses press start);
        }

    leads : {presses : List Press} {s s' : Sitting} {old new : StoreView D} → DoesPresses desk d presses s s' old new
        → d.honest old.disk → IsDurable d old → Leads presses s s' old new
    leads (no_press {store = store}) honest durable = record {
      goes = goes_nowhere d store honest durable;
      seat = refl;
    }
    leads (one_press {presses = presses} {s = s} {s' = s'} {s'' = s''} {old = old} {mid = mid} {new = new}
        press before done) honest durable =
        let first : Leads presses s s' old mid = leads before honest durable in
        leads_more presses press s s' s'' old mid new first done

    -- presses of which the last one fails
    survives_break : (error : Error) (presses : List Press) (s : Sitting) (old new : StoreView D)
        → (breaks : Breaks desk d error presses s old new) → d.honest old.disk → IsDurable d old
        → SittingSurvives d (accepted_events desk breaks.done (seat_of s old) ++ breaks.undone.acknowledged)
        breaks.undone.begun old new
    survives_break error presses s old new breaks honest durable =
        let first : Leads breaks.done s breaks.sitting old breaks.mid = leads breaks.does honest durable in
        survives_on d (accepted_events desk breaks.done (seat_of s old)) breaks.undone.acknowledged breaks.undone.begun old
        breaks.mid new first.goes breaks.undone.survives

    past_break : (error : Error) (presses : List Press) (s : Sitting) (old new : StoreView D)
        → (breaks : Breaks desk d error presses s old new) → d.honest old.disk → IsDurable d old
        → PostsUpTo d (accepted_events desk breaks.done (seat_of s old) ++ breaks.undone.acknowledged)
        breaks.undone.begun old new
    past_break error presses s old new breaks honest durable =
        let first : Leads breaks.done s breaks.sitting old breaks.mid = leads breaks.does honest durable in
        posts_then d (accepted_events desk breaks.done (seat_of s old)) first.goes.past breaks.undone.past

    -- for want of memory
    survives_starving : (presses : List Press) (s : Sitting) (old new : StoreView D)
        → (breaks : Breaks desk d NoMemory presses s old new) → d.honest old.disk → IsDurable d old
        → SittingSurvives d (accepted_events desk breaks.done (seat_of s old) ++ breaks.undone.acknowledged) [] old new
    survives_starving presses s old new breaks honest durable =
        let first : Leads breaks.done s breaks.sitting old breaks.mid = leads breaks.does honest durable in
        survives_on d (accepted_events desk breaks.done (seat_of s old)) breaks.undone.acknowledged [] old breaks.mid new
        first.goes (breaks.undone.starved refl)

    -- ---- turns

    turn_goes : (events : List Event) (old new : TurnState D) → Turns desk d events old new → d.honest old.store.disk
        → IsDurable d old.store → GoesBy d events old.store new.store
    turn_goes events old new turn honest durable =
        let looks : IsLookedAt d old.store turn.mid = turn.scene.looked in
        let done : Leads _ (sitting_shown desk old) turn.sitting turn.mid new.store =
        leads turn.does (looks.read.left.disk.device.still honest) looks.durable in
        subst (λ es. GoesBy d es old.store new.store) (sym turn.are)
        (goes_on d [] _ old.store turn.mid new.store (goes_by_look d old.store turn.mid looks honest durable) done.goes)

    run_goes : {old : TurnState D} {count : ℕ} {events : List Event} {new : TurnState D} → IsTurnRun desk d old count events new
        → d.honest old.store.disk → IsDurable d old.store → GoesBy d events old.store new.store
    run_goes {old = old} no_turn honest durable = goes_nowhere d old.store honest durable
    run_goes {old = old} {new = new} (one_more_turn {events = events} {more = more} {mid = mid} run none_asked turn stays) honest
        durable =
        let first : GoesBy d events old.store mid.store = run_goes run honest durable in
        goes_on d events more old.store mid.store new.store first
        (turn_goes more mid new turn (first.device.still honest) first.durable)

    pub turns_survive : TurnsSurvive desk d
    turns_survive count events old new run honest durable = run_goes run honest durable

    -- ---- the end

    well_ended : (end : SittingEnd) (events : List Event) (old new : StoreView D) → GoesBy d events old new
        → SurvivesEnd d end events [] old new
    well_ended end events old new goes = record {
      survives = goes.survives;
      one = omega arith;
      none_begun = λ _. refl;
      goes_by = λ _ _. goes;
      past = ([], up_to_none d goes.past);
    }

    -- a press that fails behind the scene
    behind_scene : (events begun : List Event) (old mid new : StoreView D) → IsLookedAt d old mid → d.honest old.disk
        → IsDurable d old → SittingSurvives d events begun mid new → SittingSurvives d events begun old new
    behind_scene events begun old mid new looks honest durable rest =
        survives_on d [] events begun old mid new (goes_by_look d old mid looks honest durable) rest

    past_broke : {error : Error} {events begun : List Event} {old new : TurnState D}
        → Broke desk d error events begun old new → d.honest old.store.disk
        → (tried : List Event) × PostsUpTo d events tried old.store new.store
    past_broke {error = error} {events = events} {old = old} {new = new} broke honest =
        let looks : IsLookedAt d old.store broke.mid = broke.scene.looked in
        let tried : List Event = broke.breaks.undone.begun in (
          tried,
          posts_then d [] (posts_look d looks.read)
              (subst (λ (es : List Event). PostsUpTo d es tried broke.mid new.store) (sym broke.are)
              (past_break error _ (sitting_shown desk old) broke.mid new.store broke.breaks
              (looks.read.left.disk.device.still honest) looks.durable)),
        )

    faulty_survives : (events begun : List Event) (old new : TurnState D) → Broke desk d DiskFault events begun old new
        → d.honest old.store.disk → IsDurable d old.store → SurvivesEnd d Fault events begun old.store new.store
    faulty_survives events begun old new broke honest durable =
        let looks : IsLookedAt d old.store broke.mid = broke.scene.looked in
        record {
          survives = behind_scene events begun old.store broke.mid new.store looks honest durable
              (subst (λ es. SittingSurvives d events es broke.mid new.store) (sym broke.fails)
              (subst (λ es. SittingSurvives d es broke.breaks.undone.begun broke.mid new.store) (sym broke.are)
              (survives_break DiskFault _ (sitting_shown desk old) broke.mid new.store broke.breaks
              (looks.read.left.disk.device.still honest) looks.durable)));
          one = subst (λ es. length es ≤ 1) (sym broke.fails) broke.breaks.undone.one;
          none_begun = λ wrong. absurd (wrong refl);
          goes_by = λ wrong _. absurd (wrong refl);
          past = past_broke broke honest;
        }

    starved_survives : (events begun : List Event) (old new : TurnState D) → Broke desk d NoMemory events begun old new
        → d.honest old.store.disk → IsDurable d old.store → SurvivesEnd d Memory events [] old.store new.store
    starved_survives events begun old new broke honest durable =
        let looks : IsLookedAt d old.store broke.mid = broke.scene.looked in
        record {
          survives = behind_scene events [] old.store broke.mid new.store looks honest durable
              (subst (λ es. SittingSurvives d es [] broke.mid new.store) (sym broke.are)
              (survives_starving _ (sitting_shown desk old) broke.mid new.store broke.breaks
              (looks.read.left.disk.device.still honest) looks.durable));
          one = omega arith;
          none_begun = λ _. refl;
          goes_by = λ _ wrong. absurd (wrong refl);
          past = past_broke broke honest;
        }

    -- in the turn in which the sitting ends
    stop_survives : {end : SittingEnd} {events begun : List Event} {old new : TurnState D}
        → SittingStops desk d end events begun old new
        → d.honest old.store.disk → IsDurable d old.store → SurvivesEnd d end events begun old.store new.store
    stop_survives (left {events = events} {old = old} {new = new} turn leaves) honest durable =
        well_ended Left events old.store new.store (turn_goes events old new turn honest durable)
    stop_survives (closed {old = old} {new = new} deaf) honest durable =
        well_ended Closed [] old.store new.store (goes_by_look d old.store new.store deaf.scene.looked honest durable)
    stop_survives (unheard {old = old} {new = new} deaf) honest durable =
        well_ended Input [] old.store new.store (goes_by_look d old.store new.store deaf.scene.looked honest durable)
    stop_survives (unseen {old = old} {new = new} cut) honest durable =
        well_ended Output [] old.store new.store (goes_by_look d old.store new.store cut.looked honest durable)
    stop_survives (faulty {old = old} {new = new} blind) honest durable =
        well_ended Fault [] old.store new.store (goes_by_look d old.store new.store blind.looked honest durable)
    stop_survives (starved {old = old} {new = new} blind) honest durable =
        well_ended Memory [] old.store new.store (goes_by_look d old.store new.store blind.looked honest durable)
    stop_survives (faulty_press {events = events} {begun = begun} {old = old} {new = new} broke) honest durable =
        faulty_survives events begun old new broke honest durable
    stop_survives (starved_press {events = events} {begun = begun} {old = old} {new = new} broke) honest durable =
        starved_survives events begun old new broke honest durable

    -- turns, and then the one in which the sitting ends
    both_survive : (end : SittingEnd) (events more begun : List Event) (old mid new : StoreView D)
        → GoesBy d events old mid → SurvivesEnd d end more begun mid new
        → SurvivesEnd d end (events ++ more) begun old new
    both_survive end events more begun old mid new goes rest = record {
      survives = survives_on d events more begun old mid new goes rest.survives;
      one = rest.one;
      none_begun = rest.none_begun;
      goes_by = λ no_fault no_want. goes_on d events more old mid new goes (rest.goes_by no_fault no_want);
      past = (rest.past.0, posts_then d events goes.past rest.past.1);
    }

    end_survives : {end : SittingEnd} {turns : ℕ} {more begun : List Event} {mid new : TurnState D}
        → Ends desk d end turns more begun mid new → d.honest mid.store.disk → IsDurable d mid.store
        → SurvivesEnd d end more begun mid.store new.store
    end_survives (stopped none_asked stops) honest durable = stop_survives stops honest durable
    end_survives (too_long {place = place}) honest durable =
        well_ended TooLong [] place.store place.store (goes_nowhere d place.store honest durable)

    pub ends_survive : EndsSurvive desk d
    ends_survive end count turns events more begun old mid new run ends honest durable =
        let first : GoesBy d events old.store mid.store = run_goes run honest durable in
        both_survive end events more begun old.store mid.store new.store first
        (end_survives ends (first.device.still honest) first.durable)
