-- What a press takes a sitting and its store to.
use Rattle.std.proofs.Common.{◌≡◌, ◌≢◌, inl, inr, true, false, refl, sym, ap, ◌∙◌, subst, List, [], ◌∷◌}
use Rattle.std.specs.Prelude.{ℕ, Bool, not, ◌&&◌, Result, Ok, Err, OnOk, IfOk, IfErr, IsErrOf}
use Rattle.std.proofs.lemmas.Bool.{cond-true, cond-false, false≢true}
use Rattle.std.proofs.lemmas.Result.{on_ok_weaker, IfErr-weaker}
use Rattle.sector_disk.specs.declared.disk.Disk.{Ghosts}
use Rattle.sector_disk.specs.Faults.{FailsAs}
use Rattle.sector_disk.specs.Trail.{Content, now, Leaves, LeavesOnly}
use Rattle.sector_disk.proofs.Touching.{weakened, chained, at_last}
use Rattle.event_bytes.specs.declared.event.Event.{Event}
use Rattle.desktop_definitions.specs.Desktop.{Desktop}
use Rattle.desktop_definitions.specs.declared.reply.Reply.{Reply}
use Rattle.desktop_definitions.specs.Step.{step, Outcome}
use Rattle.store_layout.specs.Meaning.{Means, MeansEither, Shows}
use Rattle.desk_journal.specs.Device.{IsSameDevice}
use Rattle.desk_journal.specs.Errors.{Error, NoMemory, Fault, MustReopen, Worn, OfPost, OfLook}
use Rattle.desk_journal.specs.Looking.{OnlyLooks}
use Rattle.desk_journal.specs.Checkpointing.{LeavesDesktop}
use Rattle.desk_journal.specs.Posting.{LeavesEither, IsAcknowledged, AnswersWorn, AnswersMustReopen}
use Rattle.desk_past.specs.Keeping.{HasKeptPost, KeepsPost}
use Rattle.desk_sitting.specs.Pasts.{KeepsPast, PostsOn, PostsUpTo, none as none_posted}
use Rattle.desk_journal.proofs.Stepped.{stepped_newest}
use Rattle.desk_journal.specs.Session.{Session, session_of, is_worn, taken}
use Rattle.desk_journal.specs.View.{StoreView, IsDurable}
use Rattle.desk_journal.proofs.Passing.{at_start, shows_means}
use Rattle.terminal_presses.specs.declared.action.Action.{Action}
use Rattle.terminal_presses.specs.declared.press.Press.{Press}
use Rattle.desk_sitting.specs.Sittings.{meant_by}
use Rattle.status_line.specs.declared.saying.Saying.TheVariants as saying
use Rattle.desk_sitting.specs.declared.sitting.Sitting.{Sitting}
use Rattle.desk_sitting.specs.Doing.{OfPresses, ComesToSeat, seat_of}
use Rattle.desk_sitting.specs.Sittings.{Seat, accepted_one, acted, after_press, after_post, does, is_done, replied, turned_away}
use Rattle.desk_sitting.specs.Sittings.{with_marks, with_hand}
use Rattle.desk_sitting.proofs.Posts.{posts_one, up_to_one}
use Rattle.desk_sitting.proofs.Sessions.{session_parts, is_it_worn, not_worn, taken_steps, is_taken}

-- a seat by its two parts
seat_parts : (d e : Seat) → d.sitting ≡ e.sitting → d.session ≡ e.session → d ≡ e
seat_parts d e sitting session = λ k. record { sitting = sitting k; session = session k }

-- ---- what a post comes to

-- a worn store takes no event
worn_seat : (event : Event) (d : Seat) → is_worn d.session ≡ true
    → record d { sitting = turned_away saying.Worn d.sitting } ≡ after_post event d
unfolding after_post
worn_seat event d worn = seat_parts (record d { sitting = turned_away saying.Worn d.sitting }) (after_post event d)
    (sym (cond-true (is_worn d.session) _ _ worn)) (sym (cond-true (is_worn d.session) d.session _ worn))

-- an event that is taken, and its reply
replied_seat : (event : Event) (d : Seat) (reply : Reply) (session : Session) → is_worn d.session ≡ false
    → reply ≡ (step d.session.desktop event).reply → session ≡ taken d.session event
    → record { sitting = replied event reply d.sitting; session = session } ≡ after_post event d
unfolding after_post
replied_seat event d reply session room is after =
    seat_parts (record { sitting = replied event reply d.sitting; session = session }) (after_post event d)
    (ap (λ r. replied event r d.sitting) is ∙ sym (cond-false (is_worn d.session) _ _ room)) after

-- the desktop is the one after its step
posted_steps : (event : Event) (d : Seat) → is_worn d.session ≡ false
    → (after_post event d).session.desktop ≡ (step d.session.desktop event).desktop
unfolding after_post
posted_steps event d room = taken_steps d.session event room

-- ---- what presses fail with

-- an error of a post, where the store is in use and isn't worn
of_post : (error : Error) → OfPost error → (error ≡ MustReopen → ⊥) → (error ≡ Worn → ⊥) → OfPresses error
of_post error (inl memory) usable room = inl memory
of_post error (inr (inl fault)) usable room = inr fault
of_post error (inr (inr (inl reopen))) usable room = absurd (usable reopen)
of_post error (inr (inr (inr worn))) usable room = absurd (room worn)

-- an error of a look at a store that is in use
pub of_look : (error : Error) → OfLook error → (error ≡ MustReopen → ⊥) → OfPresses error
of_look error (inl memory) usable = inl memory
of_look error (inr (inl fault)) usable = inr fault
of_look error (inr (inr reopen)) usable = absurd (usable reopen)

module _ {D : Type 0} (d : Ghosts D) where
  -- a durable store means its desktop
  durable_means : (store : StoreView D) → IsDurable d store → d.honest store.disk
      → Leaves (now (d.trail store.disk)) (Means (d.size store.disk) store.desktop)
  durable_means store durable honest = λ c image. shows_means (d.size store.disk) store.epoch store.events store.desktop
      c (durable honest c image)

  same_device : (disk : D) → IsSameDevice d disk disk
  same_device disk = record { as_large = refl; still = λ honest. honest; already = λ honest. honest }

  pub joined_device : (old mid new : D) → IsSameDevice d old mid → IsSameDevice d mid new → IsSameDevice d old new
  joined_device old mid new first second = record {
    as_large = second.as_large ∙ first.as_large;
    still = λ honest. second.still (first.still honest);
    already = λ honest. first.already (second.already honest);
  }

  -- ---- nothing is posted

  pub takes_alone : {T : Type 0} (value : T) (next : Seat) (s : Sitting) (store : StoreView D)
      → store.must_reopen ≡ false → seat_of s store ≡ next → ComesToSeat d next (Ok value) s store store
  takes_alone value next s store usable is = record {
    done = λ honest durable. record {
      seat = is;
      any_moment = at_start (d.trail store.disk) _
          (λ c image. inl (durable_means store durable honest c image));
      durable = durable;
      device = same_device store.disk;
    };
    undone = tt;
    usable = usable;
    faults = record { rose = λ wrong. absurd (cc wrong); calm = λ other. refl; errors = tt };
    device = same_device store.disk;
  }

  -- ---- an event is posted

  module _ (event : Event) (s s' : Sitting) (old new : StoreView D) (usable : old.must_reopen ≡ false)
      (moments : LeavesEither d event old new) (device : IsSameDevice d old.disk new.disk) where
    -- at each moment a crash leaves the desktop before the step or the one after it, however that is said
    moments_to : (after : Desktop) → after ≡ (step old.desktop event).desktop → d.honest old.disk
        → LeavesOnly (d.trail old.disk) (d.trail new.disk) (MeansEither (d.size old.disk) old.desktop after)
    moments_to after is honest = subst (λ desktop. LeavesOnly (d.trail old.disk) (d.trail new.disk)
        (MeansEither (d.size old.disk) old.desktop desktop)) (sym is) (moments usable honest)

    -- it is acknowledged
    pub takes_acknowledged : {T : Type 0} (value : T) (reply : Reply) → IsAcknowledged d event reply old new
        → AnswersWorn (Ok reply) old new
        → FailsAs {T = Reply} Fault OfPost (Ok reply) (d.failures old.disk) (d.failures new.disk)
        → s' ≡ replied event reply s → ComesToSeat d (after_post event (seat_of s old)) (Ok value) s' old new
    takes_acknowledged value reply acknowledged worn faults is =
        let room : is_worn (session_of old) ≡ false = not_worn (session_of old)
        (λ when. absurd (cc (worn.always ((usable, when.0), when.1)))) in
        record {
          done = λ honest durable.
              let one = stepped_newest d acknowledged honest in
              let desktop : new.desktop ≡ (step old.desktop event).desktop = ap (λ (p : Outcome). p.desktop) one in
              record {
                seat = ap (λ t. seat_of t new) is
                    ∙ replied_seat event (seat_of s old) reply (session_of new) room
                    (ap (λ (p : Outcome). p.reply) one) (is_taken (session_of old) (session_of new) event room
                    desktop acknowledged.more acknowledged.anew acknowledged.layout);
                any_moment = moments_to new.desktop desktop honest;
                durable = acknowledged.durable;
                device = device;
              };
          undone = tt;
          usable = acknowledged.usable;
          faults = record {
            rose = λ wrong. absurd (cc wrong);
            calm = λ other. faults.calm (λ wrong. absurd (cc wrong));
            errors = tt;
          };
          device = device;
        }

    -- whether it is done is told
    pub tells_done : (done : Bool) (reply : Reply) → IsAcknowledged d event reply old new → AnswersWorn (Ok reply) old new
        → done ≡ is_done reply → d.honest old.disk → done ≡ does (session_of old) event
    tells_done done reply acknowledged worn is honest =
        let room : is_worn (session_of old) ≡ false = not_worn (session_of old)
        (λ when. absurd (cc (worn.always ((usable, when.0), when.1)))) in
        is ∙ ap (λ (p : Outcome). is_done p.reply) (stepped_newest d acknowledged honest)
        ∙ sym (ap (λ b. not b && is_done (step old.desktop event).reply) room)

    -- a worn store does none
    pub tells_not_done : (error : Error) (result : Result Bool Error) → AnswersWorn (Err error) old new
        → OnOk result ((error ≡ Worn) × (s' ≡ turned_away saying.Worn s)) → IfOk result (λ done. done ≡ false)
        → IfOk result (λ done. d.honest old.disk → done ≡ does (session_of old) event)
    tells_not_done error (Ok done) worn is never = λ honest.
        let when = worn.only (ap (λ e. Err e) is.0) in
        never ∙ sym (ap (λ b. not b && is_done (step old.desktop event).reply)
        (is_it_worn (session_of old) when.0.1 when.1))
    tells_not_done error (Err passed) worn is never = tt

    -- the store is worn, and nothing has changed
    takes_worn : {T : Type 0} (value : T) → AnswersWorn (Err Worn) old new → s' ≡ turned_away saying.Worn s
        → ComesToSeat d (after_post event (seat_of s old)) (Ok value) s' old new
    takes_worn value worn is =
        let when = worn.only refl in
        subst (λ store. ComesToSeat d (after_post event (seat_of s old)) (Ok value) s' old store) (sym (worn.unchanged refl))
        (takes_alone value (after_post event (seat_of s old)) s' old usable
        (ap (λ t. seat_of t old) is
        ∙ worn_seat event (seat_of s old) (is_it_worn (session_of old) when.0.1 when.1)))

    module _ (error : Error) (starved : IsErrOf {T = Reply} (Err error) NoMemory → LeavesDesktop d old new)
        (worn : AnswersWorn (Err error) old new) (reopen : AnswersMustReopen {T = Reply} (Err error) old new)
        (faults : FailsAs {T = Reply} Fault OfPost (Err error) (d.failures old.disk) (d.failures new.disk)) where
      -- another error is passed on
      takes_failed : {T : Type 0} → error ≢ Worn → ComesToSeat d {T = T} (after_post event (seat_of s old)) (Err error) s' old new
      takes_failed other =
          let room : is_worn (session_of old) ≡ false = not_worn (session_of old)
          (λ when. other (cc (worn.always ((usable, when.0), when.1)))) in
          record {
            done = tt;
            undone = λ honest durable. record {
              any_moment = moments_to _ (posted_steps event (seat_of s old) room) honest;
              starved = λ is. starved (ap (λ e. Err e) is) usable honest;
              device = device;
            };
            usable = tt;
            faults = record {
              rose = λ fault. faults.rose (cc fault);
              calm = λ fine. faults.calm (λ fault. fine (cc fault));
              errors = of_post error faults.errors
                  (λ is. false≢true (sym usable ∙ reopen.only (ap (λ e. Err e) is))) other;
            };
            device = device;
          }

      -- the store turned it away
      pub takes_turned_away : {T : Type 0} (result : Result T Error)
          → OnOk result ((error ≡ Worn) × (s' ≡ turned_away saying.Worn s))
          → IfErr result (λ passed. (error ≢ Worn) × (passed ≡ error))
          → ComesToSeat d (after_post event (seat_of s old)) result s' old new
      takes_turned_away {T = T} (Ok value) is other =
          takes_worn value (subst (λ e. AnswersWorn (Err e) old new) is.0 worn) is.1
      takes_turned_away {T = T} (Err passed) is other =
          subst (λ e. ComesToSeat d {T = T} (after_post event (seat_of s old)) (Err e) s' old new) (sym other.1)
          (takes_failed other.0)

  -- ---- the past of the store

  -- a store that isn't worn accepts the event
  accepts_it : (session : Session) (event : Event) → is_worn session ≡ false → event ∷ [] ≡ accepted_one session event
  accepts_it session event room = sym (cond-false (is_worn session) [] (event ∷ []) room)

  module _ (event : Event) {old new : StoreView D} (usable : old.must_reopen ≡ false) (amid : KeepsPost d event old new)
      (device : IsSameDevice d old.disk new.disk) where
    pub keeps_acknowledged : {T : Type 0} (value : T) (reply : Reply) → HasKeptPost d event old new
        → AnswersWorn (Ok reply) old new → KeepsPast d (accepted_one (session_of old) event) (Ok value) old new
    keeps_acknowledged value reply kept worn = record {
      posted = subst (λ (es : List Event). PostsOn d es old new)
          (accepts_it (session_of old) event (not_worn (session_of old) (λ when. absurd (cc (worn.always ((usable, when.0), when.1))))))
          (posts_one d event (record { any_moment = amid; kept = kept; device = device }));
      begun = tt;
    }

    pub keeps_turned_away : {T : Type 0} (error : Error) (s s' : Sitting) (result : Result T Error)
        → AnswersWorn (Err error) old new
        → OnOk result ((error ≡ Worn) × (s' ≡ turned_away saying.Worn s))
        → IfErr result (λ passed. (error ≢ Worn) × (passed ≡ error))
        → KeepsPast d (accepted_one (session_of old) event) result old new
    keeps_turned_away error s s' (Ok value) worn is other =
        let when = worn.only (ap (λ e. Err e) is.0) in
        let full = is_it_worn (session_of old) when.0.1 when.1 in
        record {
          posted = subst (λ (es : List Event). PostsOn d es old new)
              (sym (cond-true (is_worn (session_of old)) [] (event ∷ []) full))
              (subst (λ store. PostsOn d [] old store) (sym (worn.unchanged (ap (λ e. Err e) is.0))) none_posted);
          begun = tt;
        }
    keeps_turned_away error s s' (Err passed) worn is other = record {
      posted = tt;
      begun = subst (λ (es : List Event). PostsUpTo d [] es old new)
          (accepts_it (session_of old) event (not_worn (session_of old) (λ when. other.0 (cc (worn.always ((usable, when.0), when.1))))))
          (up_to_one d event amid device);
    }

  -- ---- a look at the screen comes first

  module _ {A : Type 0} {result : Result A Error} {old mid : StoreView D} (looks : OnlyLooks d result old mid) where
    pub same_session : d.honest old.disk → session_of mid ≡ session_of old
    same_session honest =
        session_parts (session_of mid) (session_of old) (looks.desktop honest) looks.layout looks.epoch looks.events

    module _ (honest : d.honest old.disk) (durable : IsDurable d old) where
      -- each image means what it meant before
      pub still_means : LeavesOnly (d.trail old.disk) (d.trail mid.disk) (Means (d.size old.disk) old.desktop)
      still_means = weakened (looks.disk.unwritten honest) (λ c image. durable_means old durable honest c image)

      pub still_durable : IsDurable d mid
      still_durable = λ same c image.
          subst (λ (s : Session). Shows (d.size mid.disk) s.layout s.epoch s.events s.desktop c)
          (sym (same_session honest))
          (subst (λ size. Shows size old.layout old.epoch old.events old.desktop c) (sym looks.disk.device.as_large)
          (durable honest c (at_last (looks.disk.unwritten honest) c image)))

      -- what a crash leaves from then on it leaves from before the look on
      pub moments_on : (P : ℕ → Desktop → Content → Type 0) (new : StoreView D)
          → ((c : Content) → Means (d.size old.disk) old.desktop c → P (d.size old.disk) old.desktop c)
          → LeavesOnly (d.trail mid.disk) (d.trail new.disk) (P (d.size mid.disk) mid.desktop)
          → LeavesOnly (d.trail old.disk) (d.trail new.disk) (P (d.size old.disk) old.desktop)
      moments_on P new weaker later =
          chained (weakened still_means weaker)
          (subst (λ size. LeavesOnly (d.trail mid.disk) (d.trail new.disk) (P size old.desktop))
          looks.disk.device.as_large
          (subst (λ desktop. LeavesOnly (d.trail mid.disk) (d.trail new.disk) (P (d.size mid.disk) desktop))
          (looks.desktop honest) later))

  -- it fails
  pub takes_unseen : {A T : Type 0} (error : Error) (next : Seat) (s : Sitting) (old new : StoreView D)
      → old.must_reopen ≡ false → OnlyLooks {T = A} d (Err error) old new → ComesToSeat d {T = T} next (Err error) s old new
  takes_unseen error next s old new usable looks = record {
    done = tt;
    undone = λ honest durable. record {
      any_moment = weakened (still_means looks honest durable) (λ c means. inl means);
      starved = λ is. still_means looks honest durable;
      device = looks.disk.device;
    };
    usable = tt;
    faults = record {
      rose = λ fault. looks.faults.rose (cc fault);
      calm = λ fine. looks.faults.calm (λ fault. fine (cc fault));
      errors = of_look error looks.faults.errors
          (λ is. false≢true (sym usable ∙ looks.reopen.0 (ap (λ e. Err e) is)));
    };
    device = looks.disk.device;
  }

  -- it succeeds, and what comes then is what comes of the seat before it
  pub takes_seen : {A T : Type 0} (value : A) (result : Result T Error) (next next' : Seat) (s' : Sitting)
      (old mid new : StoreView D) → OnlyLooks d (Ok value) old mid → (d.honest old.disk → next' ≡ next)
      → ComesToSeat d next' result s' mid new → ComesToSeat d next result s' old new
  takes_seen value result next next' s' old mid new looks same takes = record {
    done = on_ok_weaker result (λ done honest durable.
        let later = done (looks.disk.device.still honest) (still_durable looks honest durable) in
        record {
          seat = later.seat ∙ same honest;
          any_moment = moments_on looks honest durable (λ size desktop. MeansEither size desktop new.desktop) new
              (λ c means. inl means) later.any_moment;
          durable = later.durable;
          device = joined_device old.disk mid.disk new.disk looks.disk.device later.device;
        }) takes.done;
    undone = IfErr-weaker result _ _ (λ error undone honest durable.
        let later = undone (looks.disk.device.still honest) (still_durable looks honest durable) in
        record {
          any_moment = subst (λ (n : Seat). LeavesOnly (d.trail old.disk) (d.trail new.disk)
              (MeansEither (d.size old.disk) old.desktop n.session.desktop)) (same honest)
              (moments_on looks honest durable (λ size desktop. MeansEither size desktop next'.session.desktop) new
              (λ c means. inl means) later.any_moment);
          starved = λ is. moments_on looks honest durable (λ size desktop. Means size desktop) new (λ c means. means)
              (later.starved is);
          device = joined_device old.disk mid.disk new.disk looks.disk.device later.device;
        }) takes.undone;
    usable = takes.usable;
    faults = subst (λ n. FailsAs Fault OfPresses result n (d.failures new.disk))
        (looks.faults.calm (λ wrong. absurd (cc wrong))) takes.faults;
    device = joined_device old.disk mid.disk new.disk looks.disk.device takes.device;
  }

-- ---- a press

-- after the person has left nothing is done
pub left_seat : (press : Press) (d : Seat) → d.sitting.leaves ≡ true → d ≡ after_press press d
unfolding after_press
left_seat press d leaves = sym (cond-true d.sitting.leaves d _ leaves)

-- before that the hand says what a press comes to
pub pressed_seat : (press : Press) (d : Seat) (s : Sitting) (act : Action) → d.sitting.leaves ≡ false
    → s ≡ with_hand (meant_by press d.sitting) (with_marks press d.sitting)
    → act ≡ (meant_by press d.sitting).1
    → acted act (record d { sitting = s }) ≡ after_press press d
unfolding after_press
pressed_seat press d s act stays is is_act =
    ap (λ t. acted act (record d { sitting = t })) is
    ∙ ap (λ a. acted a (record d {
      sitting = with_hand (meant_by press d.sitting) (with_marks press d.sitting);
    })) is_act
    ∙ sym (cond-false d.sitting.leaves d _ stays)
