-- What a crash leaves of the events of a press, and what a press promises that has one event, or several.
use Rattle.std.proofs.Common.{◌≡◌, ◌≤◌, ◌+◌, ◌<◌, ℕ, Bool, true, false, List, [], ◌∷◌, ◌++◌, length, get_or, take}
use Rattle.std.proofs.Common.{drop, inl, inr}
use Rattle.std.proofs.Common.{Ok, Err, refl, sym, ◌∙◌, ap, subst, append_assoc, append-nil, arith}
use Rattle.std.specs.Prelude.{◌&&◌, if◌then◌else◌, Result}
use Rattle.std.proofs.lemmas.Bool.{cond-false, false≢true}
use Rattle.std.proofs.lemmas.List.{take_more, take-append-drop}
use Rattle.std.proofs.lemmas.Result.{on_ok_weaker, IfErr-weaker}
use Rattle.sector_disk.specs.declared.disk.Disk.{Ghosts}
use Rattle.sector_disk.specs.Faults.{FailsAs}
use Rattle.sector_disk.specs.Trail.{Content, now, Leaves, LeavesOnly}
use Rattle.sector_disk.proofs.Touching.{weakened, chained, at_last}
use Rattle.desktop_definitions.specs.Desktop.{Desktop}
use Rattle.event_bytes.specs.declared.event.Event.{Event}
use Rattle.desktop_definitions.specs.Step.{steps}
use Rattle.store_layout.specs.Meaning.{Means, MeansEither}
use Rattle.desk_journal.specs.Device.{IsSameDevice}
use Rattle.desk_journal.specs.Errors.{Error, Fault}
use Rattle.desk_journal.specs.Looking.{OnlyLooks}
use Rattle.desk_journal.specs.Session.{Session, session_of, taken}
use Rattle.desk_journal.specs.Prefixes.{MeansPrefix}
use Rattle.desk_journal.specs.View.{StoreView, IsDurable}
use Rattle.desk_sitting.specs.Pasts.{KeepsPast, PostsOn, PostsUpTo, none as nothing_posted}
use Rattle.desk_journal.proofs.Passing.{at_start, shows_means}
use Rattle.desk_journal.proofs.Prefixes.{steps_both, whole_prefix, no_prefix, fewer_acknowledged, prefix_of_more}
use Rattle.desk_journal.proofs.Prefixes.{prefix_behind}
use Rattle.desk_sitting.specs.declared.sitting.Sitting.{Sitting}
use Rattle.desk_sitting.specs.Doing.{ComesToSeat, DoesPress, GoesBy, IsDone, IsPressDone, IsPressUndone, IsUndone}
use Rattle.desk_sitting.specs.Doing.{OfPresses}
use Rattle.desk_sitting.specs.Doing.{SittingSurvives, seat_of}
use Rattle.desk_sitting.specs.Sittings.{Seat, accepted_by, accepted_one, after_post, after_posts, does, does_all}
use Rattle.desk_sitting.specs.Doing.{IsLookedAt}
use Rattle.desk_sitting.proofs.Accepted.{accepted_both, all_both, alone_accepted, alone_posted, one_steps, posted_both}
use Rattle.desk_sitting.proofs.Posts.{posts_both, posts_look, posts_then, up_to_look}
use Rattle.desk_sitting.proofs.Taking.{of_look, takes_alone}
use Rattle.desk_sitting.proofs.Looked.{looked_at, same_device}

module _ {D : Type 0} (d : Ghosts D) where
  -- ---- one after another

  -- what is done first, and what is left of the rest
  pub survives_on : (events more begun : List Event) (old mid new : StoreView D) → GoesBy d events old mid
      → SittingSurvives d more begun mid new → SittingSurvives d (events ++ more) begun old new
  survives_on events more begun old mid new goes rest =
      let size : ℕ = d.size old.disk in
      let all : List Event = (events ++ more) ++ begun in
      let follows : (some : List Event) (c : Content) → MeansPrefix (d.size mid.disk) mid.desktop some (more ++ begun) c
      → MeansPrefix size old.desktop (events ++ some) all c = λ some c p.
      subst (λ es. MeansPrefix size old.desktop (events ++ some) es c) (sym (append_assoc events more begun))
      (prefix_behind size old.desktop events some (more ++ begun) c
      (subst (λ e. MeansPrefix size e some (more ++ begun) c) goes.shows
      (subst (λ n. MeansPrefix n mid.desktop some (more ++ begun) c) goes.device.as_large p))) in
      let before : (c : Content) → MeansPrefix size old.desktop [] (events ++ []) c
      → MeansPrefix size old.desktop [] all c = λ c p.
      subst (λ es. MeansPrefix size old.desktop [] es c) (sym (append_assoc events more begun))
      (prefix_of_more size old.desktop [] events (more ++ begun) c
      (subst (λ es. MeansPrefix size old.desktop [] es c) (append-nil events) p)) in
      record {
        any_moment = chained (weakened goes.survives.any_moment before)
            (weakened rest.any_moment
            (λ c p. fewer_acknowledged size old.desktop (events ++ []) all c (follows [] c p)));
        at_last = λ c image. follows more c (rest.at_last c image);
      }

  pub goes_on : (events more : List Event) (old mid new : StoreView D) → GoesBy d events old mid → GoesBy d more mid new
      → GoesBy d (events ++ more) old new
  goes_on events more old mid new first second = record {
    survives = survives_on events more [] old mid new first second.survives;
    past = posts_both d events first.past second.past;
    shows = second.shows ∙ ap (λ e. steps e more) first.shows ∙ sym (steps_both old.desktop events more);
    durable = second.durable;
    device = same_device d old.disk mid.disk new.disk first.device second.device;
  }

  -- the desktop before some events or after them
  either_survives : (begun : List Event) (old new : StoreView D)
      → LeavesOnly (d.trail old.disk) (d.trail new.disk)
      (MeansEither (d.size old.disk) old.desktop (steps old.desktop begun)) → SittingSurvives d [] begun old new
  either_survives begun old new moments =
      let size : ℕ = d.size old.disk in
      let prefix : LeavesOnly (d.trail old.disk) (d.trail new.disk) (MeansPrefix size old.desktop [] begun) =
      weakened moments (λ c either. elim either [
        | inl means ↦ no_prefix size old.desktop begun c means
        | inr means ↦ fewer_acknowledged size old.desktop begun begun c
            (subst (λ es. MeansPrefix size old.desktop begun es c) (append-nil begun)
            (whole_prefix size old.desktop begun [] c means))
      ]) in
      record { any_moment = prefix; at_last = at_last prefix }

  -- the same desktop at every moment
  same_survives : (old new : StoreView D)
      → LeavesOnly (d.trail old.disk) (d.trail new.disk) (Means (d.size old.disk) old.desktop)
      → SittingSurvives d [] [] old new
  same_survives old new moments = either_survives [] old new (weakened moments (λ c means. inl means))

  -- a durable store means its desktop
  durable_means : (store : StoreView D) → d.honest store.disk → IsDurable d store
      → Leaves (now (d.trail store.disk)) (Means (d.size store.disk) store.desktop)
  durable_means store honest durable c image = shows_means (d.size store.disk) store.epoch store.events store.desktop c
      (durable honest c image)

  -- ---- a look

  pub look_survives : (old new : StoreView D) → IsLookedAt d old new → d.honest old.disk → IsDurable d old
      → LeavesOnly (d.trail old.disk) (d.trail new.disk) (Means (d.size old.disk) old.desktop)
  look_survives old new looks honest durable = weakened (looks.read.left.disk.unwritten honest)
      (durable_means old honest durable)

  pub goes_by_look : (old new : StoreView D) → IsLookedAt d old new → d.honest old.disk → IsDurable d old
      → GoesBy d [] old new
  goes_by_look old new looks honest durable = record {
    survives = same_survives old new (look_survives old new looks honest durable);
    past = posts_look d looks.read;
    shows = ap (λ (s : Session). s.desktop) looks.session;
    durable = looks.durable;
    device = looks.read.left.disk.device;
  }

  pub goes_nowhere : (store : StoreView D) → d.honest store.disk → IsDurable d store → GoesBy d [] store store
  goes_nowhere store honest durable = record {
    survives = same_survives store store (at_start (d.trail store.disk) (Means (d.size store.disk) store.desktop)
        (durable_means store honest durable));
    past = nothing_posted;
    shows = refl;
    durable = durable;
    device = record { as_large = refl; still = λ honest. honest; already = λ honest. honest };
  }

  -- a store that shows the desktop after some events, and meant it or the one before
  goes_by_either : (events : List Event) (old new : StoreView D)
      → LeavesOnly (d.trail old.disk) (d.trail new.disk) (MeansEither (d.size old.disk) old.desktop new.desktop)
      → PostsOn d events old new → new.desktop ≡ steps old.desktop events → d.honest new.disk → IsDurable d new
      → IsSameDevice d old.disk new.disk → GoesBy d events old new
  goes_by_either events old new moments past shows honest durable device =
      let size : ℕ = d.size old.disk in
      let either : LeavesOnly (d.trail old.disk) (d.trail new.disk)
      (MeansEither size old.desktop (steps old.desktop events)) =
      subst (λ e. LeavesOnly (d.trail old.disk) (d.trail new.disk) (MeansEither size old.desktop e)) shows moments in
      record {
        survives = record {
          any_moment = subst
              (λ es. LeavesOnly (d.trail old.disk) (d.trail new.disk) (MeansPrefix size old.desktop [] es))
              (sym (append-nil events)) (either_survives events old new either).any_moment;
          at_last = λ c image. whole_prefix size old.desktop events [] c
              (subst (λ e. Means size e c) shows
              (subst (λ n. Means n new.desktop c) device.as_large (durable_means new honest durable c image)));
        };
        past = past;
        shows = shows;
        durable = durable;
        device = device;
      }

  -- ---- a press that has one event at most

  undone_so : (events : List Event) → length events ≤ 1 → {next : Desktop} {old new : StoreView D}
      → next ≡ steps old.desktop events → (error : Error) → IsUndone d error next old new → PostsUpTo d [] events old new
      → IsPressUndone d error events old new
  undone_so events few {old = old} {new = new} leads error undone past = record {
    acknowledged = [];
    begun = events;
    rest = [];
    parts = sym (append-nil events);
    one = few;
    survives = either_survives events old new (subst (λ e. LeavesOnly (d.trail old.disk) (d.trail new.disk)
        (MeansEither (d.size old.disk) old.desktop e)) leads undone.any_moment);
    starved = λ is. same_survives old new (undone.starved is);
    past = past;
    device = undone.device;
  }

  module _ (events : List Event) (few : length events ≤ 1) {next : Seat} {old new : StoreView D}
      (leads : next.session.desktop ≡ steps old.desktop events) where
    done_so : {s' : Sitting} → IsDone d next s' old new → PostsOn d events old new → d.honest new.disk
        → IsPressDone d events next s' old new
    done_so done past honest = record {
      seat = done.seat;
      goes = goes_by_either events old new done.any_moment past (ap (λ (e : Seat). e.session.desktop) done.seat ∙ leads)
          honest done.durable done.device;
    }

    pub one_press : {T : Type 0} {s' : Sitting} (result : Result T Error) → ComesToSeat d next result s' old new
        → KeepsPast d events result old new → DoesPress d events next result s' old new
    one_press (Ok value) takes past = record {
      done = λ honest durable. done_so (takes.done honest durable) past.posted (takes.device.still honest);
      undone = tt;
      usable = takes.usable;
      faults = takes.faults;
      device = takes.device;
    }
    one_press (Err error) takes past = record {
      done = tt;
      undone = λ honest durable. undone_so events few leads error (takes.undone honest durable) past.begun;
      usable = takes.usable;
      faults = takes.faults;
      device = takes.device;
    }

  -- nothing is posted
  pub alone_press : {T : Type 0} (value : T) (next : Seat) (s : Sitting) (store : StoreView D)
      → store.must_reopen ≡ false → seat_of s store ≡ next → DoesPress d [] next (Ok value) s store store
  alone_press value next s store usable is =
      one_press [] (omega arith) (ap (λ (e : Seat). e.session.desktop) (sym is)) (Ok value)
      (takes_alone d value next s store usable is) (record { posted = nothing_posted; begun = tt })

  -- ---- one after another

  both_done : {some more : List Event} {seat next : Seat} {s s' : Sitting} {old mid new : StoreView D}
      → IsPressDone d some seat s old mid → IsPressDone d more next s' mid new
      → IsPressDone d (some ++ more) next s' old new
  both_done {some = some} {more = more} {old = old} {mid = mid} {new = new} first second = record {
    seat = second.seat;
    goes = goes_on some more old mid new first.goes second.goes;
  }

  then_undone : {error : Error} {some more : List Event} {seat : Seat} {s : Sitting} {old mid new : StoreView D}
      → IsPressDone d some seat s old mid → IsPressUndone d error more mid new
      → IsPressUndone d error (some ++ more) old new
  then_undone {some = some} {old = old} {mid = mid} {new = new} first undone = record {
    acknowledged = some ++ undone.acknowledged;
    begun = undone.begun;
    rest = undone.rest;
    parts = ap (λ l. some ++ l) undone.parts
        ∙ sym (append_assoc some (undone.acknowledged ++ undone.begun) undone.rest)
        ∙ ap (λ l. l ++ undone.rest) (sym (append_assoc some undone.acknowledged undone.begun));
    one = undone.one;
    survives = survives_on some undone.acknowledged undone.begun old mid new first.goes undone.survives;
    starved = λ is. survives_on some undone.acknowledged [] old mid new first.goes (undone.starved is);
    past = posts_then d some first.goes.past undone.past;
    device = same_device d old.disk mid.disk new.disk first.goes.device undone.device;
  }

  -- others were to come behind
  rest_undone : (more : List Event) {error : Error} {some : List Event} {old new : StoreView D}
      → IsPressUndone d error some old new → IsPressUndone d error (some ++ more) old new
  rest_undone more undone = record {
    acknowledged = undone.acknowledged;
    begun = undone.begun;
    rest = undone.rest ++ more;
    parts = ap (λ l. l ++ more) undone.parts
        ∙ append_assoc (undone.acknowledged ++ undone.begun) undone.rest more;
    one = undone.one;
    survives = undone.survives;
    starved = undone.starved;
    past = undone.past;
    device = undone.device;
  }

  -- a call that did its part, and then one that may fail
  pub press_both : {T U : Type 0} {some more : List Event} {seat next : Seat} {x : U} {result : Result T Error}
      {s s' : Sitting} {old mid new : StoreView D} → DoesPress d some seat (Ok x) s old mid
      → DoesPress d more next result s' mid new → DoesPress d (some ++ more) next result s' old new
  press_both {result = result} {old = old} {mid = mid} {new = new} one two = record {
    done = on_ok_weaker result (λ done honest durable.
        let first = one.done honest durable in
        both_done first (done (one.device.still honest) first.goes.durable)) two.done;
    undone = IfErr-weaker result _ _ (λ error undone honest durable.
        let first = one.done honest durable in
        then_undone first (undone (one.device.still honest) first.goes.durable)) two.undone;
    usable = two.usable;
    faults = subst (λ n. FailsAs Fault OfPresses result n (d.failures new.disk))
        (one.faults.calm (λ wrong. cc)) two.faults;
    device = same_device d old.disk mid.disk new.disk one.device two.device;
  }

  -- the same, said otherwise
  pub press_same : {T : Type 0} {events events' : List Event} {next next' : Seat} (result : Result T Error)
      {s' : Sitting} {old new : StoreView D}
      → (d.honest old.disk → IsDurable d old → (events' ≡ events) × (next' ≡ next))
      → DoesPress d events' next' result s' old new → DoesPress d events next result s' old new
  press_same {events = events} {events' = events'} {next = next} {next' = next'} result {s' = s'} {old = old} {new = new}
      same press = record {
        done = on_ok_weaker result (λ done honest durable.
            let is = same honest durable in
            subst (λ es. IsPressDone d es next s' old new) is.0
            (subst (λ n. IsPressDone d events' n s' old new) is.1 (done honest durable))) press.done;
        undone = IfErr-weaker result _ _ (λ error undone honest durable.
            subst (λ es. IsPressUndone d error es old new) (same honest durable).0 (undone honest durable)) press.undone;
        usable = press.usable;
        faults = press.faults;
        device = press.device;
      }

  -- a call that failed, where more was to be posted
  pub press_short : {T : Type 0} (more : List Event) {error : Error} {events : List Event} {seat : Seat} (next : Seat)
      {s' : Sitting} {old new : StoreView D} → DoesPress d {T = T} events seat (Err error) s' old new
      → DoesPress d {T = T} (events ++ more) next (Err error) s' old new
  press_short more next press = record {
    done = tt;
    undone = λ honest durable. rest_undone more (press.undone honest durable);
    usable = tt;
    faults = press.faults;
    device = press.device;
  }

  -- ---- a look comes first

  module _ {A : Type 0} {old mid : StoreView D} (usable : old.must_reopen ≡ false) where
    pub look_press : (value : A) (s : Sitting) → OnlyLooks d (Ok value) old mid
        → DoesPress d [] (seat_of s mid) (Ok value) s old mid
    look_press value s looks = record {
      done = λ honest durable. record {
        seat = refl;
        goes = goes_by_look old mid (looked_at d (Ok value) old mid usable looks honest durable) honest durable;
      };
      undone = tt;
      usable = looks.usable ∙ usable;
      faults = record {
        rose = λ wrong. absurd (cc wrong);
        calm = λ other. looks.faults.calm (λ wrong. absurd (cc wrong));
        errors = tt;
      };
      device = looks.disk.device;
    }

    pub unseen_press : {T : Type 0} (error : Error) (events : List Event) (next : Seat) (s : Sitting)
        → OnlyLooks {T = A} d (Err error) old mid → DoesPress d {T = T} events next (Err error) s old mid
    unseen_press error events next s looks = record {
      done = tt;
      undone = λ honest durable.
          let goes = goes_by_look old mid (looked_at d {T = A} (Err error) old mid usable looks honest durable) honest durable in
          record {
            acknowledged = [];
            begun = [];
            rest = events;
            parts = refl;
            one = omega arith;
            survives = goes.survives;
            starved = λ is. goes.survives;
            past = up_to_look d looks.disk;
            device = goes.device;
          };
      usable = tt;
      faults = record {
        rose = λ fault. looks.faults.rose (cc fault);
        calm = λ fine. looks.faults.calm (λ fault. fine (cc fault));
        errors = of_look error looks.faults.errors
            (λ is. false≢true (sym usable ∙ looks.reopen.0 (ap (λ e. Err e) is)));
      };
      device = looks.disk.device;
    }

  -- ---- events, one after another

  pub none_posted : (s : Sitting) (store : StoreView D) → store.must_reopen ≡ false
      → DoesPress d {T = Unit} [] (seat_of s store) (Ok tt) s store store
  none_posted s store usable = alone_press tt (seat_of s store) s store usable refl

  -- what a call returns beside is nothing to it
  pub press_told : {T U : Type 0} {x : U} (value : T) {events : List Event} {next : Seat} {s' : Sitting} {old new : StoreView D}
      → DoesPress d events next (Ok x) s' old new → DoesPress d events next (Ok value) s' old new
  press_told value press = record {
    done = press.done;
    undone = tt;
    usable = press.usable;
    faults = record {
      rose = λ wrong. absurd (cc wrong);
      calm = λ other. press.faults.calm (λ wrong. absurd (cc wrong));
      errors = tt;
    };
    device = press.device;
  }

  -- an event is one press of its own
  pub event_press : {T : Type 0} (event : Event) (result : Result T Error) (s s' : Sitting) (old new : StoreView D)
      → ComesToSeat d (after_post event (seat_of s old)) result s' old new
      → KeepsPast d (accepted_one (session_of old) event) result old new
      → DoesPress d (accepted_one (session_of old) event) (after_post event (seat_of s old)) result s' old new
  event_press event result s s' old new takes past =
      let steps_so = one_steps event (seat_of s old) in
      one_press (accepted_one (session_of old) event) steps_so.0 steps_so.1 result takes past

  -- an event more
  module _ (events : List Event) (i : ℕ) (filler event : Event) (room : i < length events)
      (is : event ≡ get_or events i filler) where
    split : take (i + 1) events ≡ take i events ++ event ∷ []
    split = take_more events i filler room ∙ ap (λ e. take i events ++ e ∷ []) (sym is)

    whole : take i events ++ event ∷ drop (i + 1) events ≡ events
    whole = sym (append_assoc (take i events) (event ∷ []) (drop (i + 1) events))
        ∙ ap (λ l. l ++ drop (i + 1) events) (sym split) ∙ take-append-drop (i + 1) events

    module _ (s s' s'' : Sitting) (old mid new : StoreView D)
        (before : DoesPress d {T = Bool} (accepted_by (session_of old) (take i events))
        (after_posts (take i events) (seat_of s old)) (Ok true) s' old mid)
        (all : d.honest old.disk → IsDurable d old → does_all (session_of old) (take i events) ≡ true) where
      abbrev front : List Event
      front = take i events

      abbrev behind : List Event
      behind = drop (i + 1) events

      abbrev start : Seat
      start = seat_of s old

      abbrev there : Seat
      there = after_posts front start

      same : d.honest old.disk → IsDurable d old → seat_of s' mid ≡ there
      same honest durable = (before.done honest durable).seat

      -- up to this one
      pub next_posted : {T : Type 0} (result : Result T Error)
          → ComesToSeat d (after_post event (seat_of s' mid)) result s'' mid new
          → KeepsPast d (accepted_one (session_of mid) event) result mid new
          → DoesPress d (accepted_by (session_of old) (take (i + 1) events)) (after_posts (take (i + 1) events) start) result s''
          old new
      next_posted result takes past = press_same result (λ honest durable. (
        ap (λ (e : Seat). accepted_by (session_of old) front ++ accepted_one e.session event) (same honest durable)
            ∙ ap (λ es. accepted_by (session_of old) front ++ es) (sym (alone_accepted event there.session))
            ∙ sym (accepted_both front (event ∷ []) start (all honest durable))
            ∙ ap (accepted_by (session_of old)) (sym split),
        ap (after_post event) (same honest durable) ∙ sym (alone_posted event there)
            ∙ sym (posted_both front (event ∷ []) start (all honest durable))
            ∙ ap (λ es. after_posts es start) (sym split),
      ))
          (press_both before (event_press event result s' s'' mid new takes past))

      -- whether it is done, as it was told
      told_so : (done : Bool) → (d.honest mid.disk → done ≡ does (session_of mid) event) → d.honest old.disk
          → IsDurable d old → does there.session event ≡ done
      told_so done told honest durable =
          sym (ap (λ (e : Seat). does e.session event) (same honest durable))
          ∙ sym (told (before.device.still honest))

      -- it is done, as all before it
      pub all_next : (done : Bool) → (d.honest mid.disk → done ≡ does (session_of mid) event) → done ≡ true
          → d.honest old.disk → IsDurable d old → does_all (session_of old) (take (i + 1) events) ≡ true
      all_next done told is honest durable =
          ap (does_all (session_of old)) split
          ∙ all_both front (event ∷ []) start (all honest durable)
          ∙ ap (λ b. b && true) (told_so done told honest durable ∙ is)

      -- it isn't done, and those behind it aren't posted
      pub not_all : (done : Bool) → (d.honest mid.disk → done ≡ does (session_of mid) event) → done ≡ false
          → d.honest old.disk → IsDurable d old → false ≡ does_all (session_of old) events
      not_all done told is honest durable =
          sym (ap (does_all (session_of old)) (sym whole)
          ∙ all_both front (event ∷ behind) start (all honest durable)
          ∙ ap (λ b. b && does_all (taken there.session event) behind) (told_so done told honest durable ∙ is))

      pub stopped_at : (done value : Bool) → (d.honest mid.disk → done ≡ does (session_of mid) event) → done ≡ false
          → ComesToSeat d (after_post event (seat_of s' mid)) (Ok done) s'' mid new
          → KeepsPast d (accepted_one (session_of mid) event) (Ok done) mid new
          → DoesPress d (accepted_by (session_of old) events) (after_posts events start) (Ok value) s'' old new
      stopped_at done value told is takes past = press_same (Ok value) (λ honest durable.
          let stops = told_so done told honest durable ∙ is in
          let more : List Event = accepted_by (taken there.session event) behind in (
            ap (accepted_by (session_of old)) split
                ∙ accepted_both front (event ∷ []) start (all honest durable)
                ∙ ap (λ es. accepted_by (session_of old) front ++ es) (alone_accepted event there.session
                ∙ sym (append-nil (accepted_one there.session event))
                ∙ sym (ap (λ es. accepted_one there.session event ++ es) (cond-false (does there.session event) more [] stops)))
                ∙ sym (accepted_both front (event ∷ behind) start (all honest durable))
                ∙ ap (accepted_by (session_of old)) whole,
            ap (λ es. after_posts es start) split
                ∙ posted_both front (event ∷ []) start (all honest durable)
                ∙ alone_posted event there
                ∙ sym (cond-false (does there.session event) (after_posts behind (after_post event there))
                (after_post event there) stops)
                ∙ sym (posted_both front (event ∷ behind) start (all honest durable))
                ∙ ap (λ es. after_posts es start) whole,
          ))
          (press_told value (next_posted (Ok done) takes past))

      -- it fails, and those behind it aren't posted
      pub next_unposted : {T : Type 0} (error : Error) → ComesToSeat d {T = T} (after_post event (seat_of s' mid)) (Err error) s''
          mid new
          → KeepsPast d {T = T} (accepted_one (session_of mid) event) (Err error) mid new
          → DoesPress d {T = T} (accepted_by (session_of old) events) (after_posts events start) (Err error) s'' old new
      next_unposted error takes past =
          let more : List Event = if does there.session event then accepted_by (taken there.session event) behind else [] in
          press_same (Err error) (λ honest durable. (
            ap (λ es. accepted_by (session_of old) es ++ more) split
                ∙ ap (λ es. es ++ more) (accepted_both front (event ∷ []) start (all honest durable)
                ∙ ap (λ es. accepted_by (session_of old) front ++ es) (alone_accepted event there.session))
                ∙ append_assoc (accepted_by (session_of old) front) (accepted_one there.session event) more
                ∙ sym (accepted_both front (event ∷ behind) start (all honest durable))
                ∙ ap (accepted_by (session_of old)) whole,
            refl,
          ))
          (press_short more (after_posts events start) (next_posted (Err error) takes past))
