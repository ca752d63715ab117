-- What taking back and doing again come to.
use Rattle.std.proofs.Common.{◌≡◌, ◌≢◌, ◌<◌, ◌∷◌, inl, inr, ℕ, List, [], false, refl, sym, ap, ◌∙◌}
use Rattle.std.proofs.Common.{Option, Some, None, subst, arith, ◌≤◌}
use Rattle.done_presses.specs.declared.again.NextEvent.{NextEvent}
use Rattle.std.specs.Prelude.{Result, Ok, Err, OnOk, IfErr}
use Rattle.std.proofs.lemmas.Bool.{false≢true}
use Rattle.sector_disk.specs.declared.disk.Disk.{Ghosts}
use Rattle.sector_disk.specs.Trail.{now, LeavesOnly}
use Rattle.sector_disk.proofs.Touching.{at_last, chained, read_is_an_image, weakened}
use Rattle.event_bytes.specs.declared.event.Event.{Event}
use Rattle.desktop_definitions.specs.Desktop.{Desktop}
use Rattle.store_layout.specs.Meaning.{MeansEither, Shows}
use Rattle.desk_journal.specs.Errors.{Error, NoMemory, Fault, MustReopen, OfLook}
use Rattle.desk_journal.specs.Posting.{AnswersMustReopen}
use Rattle.desk_journal.specs.Looking.{OnlyLooks}
use Rattle.desk_journal.specs.Undoing.{IsLeft, OfUndo}
use Rattle.document_filing.specs.Bringing.{Documents, brought_in}
use Rattle.desktop_definitions.specs.Step.{Outcome}
use Rattle.past_pages.specs.Reading.{IsOnlyReadFrom}
use Rattle.past_pages.proofs.StillReads.{read_twice, still_both, still_left, still_looked, still_none}
use Rattle.desk_past.specs.Deeds.{PastDeed, all_posted, brought}
use Rattle.desk_past.specs.Keeping.{UsesDevice}
use Rattle.past_steps.specs.Steps.{IsBroughtAgain, IsSteppedBack, LeavesBroughtAgain, LeavesSteppedBack, TakesBack}
use Rattle.past_steps.specs.Steps.{brings, goes_back as left_by, only_read, turned, unbegun, undone}
use Rattle.desk_journal.specs.View.{StoreView, IsDurable}
use Rattle.desk_journal.proofs.Passing.{at_start, shows_means}
use Rattle.status_line.specs.declared.saying.Saying.TheVariants.{NotBack}
use Rattle.desk_sitting.specs.declared.sitting.Sitting.{Sitting}
use Rattle.desk_sitting.specs.declared.sitting.Travel.TheVariants.{Back, Again}
use Rattle.done_presses.specs.Again.{next_event}
use Rattle.done_presses.specs.declared.again.StorePlace.{StorePlace}
use Rattle.desk_sitting.specs.Doing.{IsUndone, OfPresses, ComesToSeat, seat_of}
use Rattle.desk_sitting.specs.Pasts.{KeepsPast, PostsOn, PostsUpTo}
use Rattle.desk_sitting.specs.Sittings.{accepted_one, after_post, refused}
use Rattle.desk_sitting.specs.Travels.{Travelled, Travels, did_again, did_import, ended_there, foreseen, goes_again}
use Rattle.desk_sitting.specs.Travels.{recalled, settled, step_count, store_place, took_back, took_import}
use Rattle.desk_sitting.specs.Travels.{ComesBack, back, nothing, again, not_taken, taken as came_back, unread}
use Rattle.desk_sitting.specs.Travels.{import_again, import_back, import_taken}
use Rattle.desk_journal.specs.Session.{Session, session_of, taken}
use Rattle.desk_sitting.specs.Desk.{Seat}
use Rattle.desk_sitting.specs.TheDesk.{the_desk}
use Rattle.desk_sitting.proofs.Posts.{posts_both, posts_look, posts_then}
use Rattle.desk_sitting.proofs.Sessions.{session_parts}
use Rattle.desk_sitting.proofs.Taking.{joined_device, of_look, same_session, takes_seen}

-- what the session is after a post
posted_session : (event : Event) (seat : Seat) → (after_post event seat).session ≡ taken seat.session event
unfolding after_post
posted_session event seat = refl

-- an error of an undo over an honest disk is one of these
not_look : (error : Error) → OfLook error → error ≢ NoMemory → error ≢ Fault → error ≢ MustReopen → ⊥
not_look error (inl memory) no_memory no_fault no_reopen = no_memory memory
not_look error (inr (inl fault)) no_memory no_fault no_reopen = no_fault fault
not_look error (inr (inr reopen)) no_memory no_fault no_reopen = no_reopen reopen

again_not_back : {A : Type 0} → Some Again ≡ Some Back → A
again_not_back is = absurd (cc is)

-- a past told of the place at which the store stands
pub foreseen_at : (here place : StorePlace) (told : Option (List Event)) (s s' : Sitting) → here ≡ place
    → s' ≡ foreseen here told s → (known : Option (List Event)) × (s' ≡ foreseen place known s)
foreseen_at here place told s s' at is = (told, is ∙ ap (λ p. foreseen p told s) at)

module _ {D : Type 0} (d : Ghosts D) where
  -- ---- what is read first

  place_still : {old mid : StoreView D} → IsOnlyReadFrom d old mid → store_place mid ≡ store_place old
  place_still still = λ i. record { epoch = still.left.epoch i; events = still.left.events i }

  durable_still : {old mid : StoreView D} → IsOnlyReadFrom d old mid → IsDurable d old → IsDurable d mid
  durable_still {old = old} {mid = mid} still durable = λ same c image.
      let honest = still.left.disk.device.already same in
      subst (λ (s : Session). Shows (d.size mid.disk) s.layout s.epoch s.events s.desktop c)
      (sym (session_parts (session_of mid) (session_of old) (still.left.desktop honest) still.left.layout still.left.epoch
      still.left.events))
      (subst (λ size. Shows size old.layout old.epoch old.events old.desktop c) (sym still.left.disk.device.as_large)
      (durable honest c (at_last (still.left.disk.unwritten honest) c image)))

  -- what a crash leaves from then on it leaves from before it on
  either_still : {old mid : StoreView D} (new : StoreView D) → IsOnlyReadFrom d old mid → d.honest old.disk → IsDurable d old
      → LeavesOnly (d.trail mid.disk) (d.trail new.disk) (MeansEither (d.size mid.disk) mid.desktop new.desktop)
      → LeavesOnly (d.trail old.disk) (d.trail new.disk) (MeansEither (d.size old.disk) old.desktop new.desktop)
  either_still {old = old} {mid = mid} new still honest durable later =
      chained (weakened (still.left.disk.unwritten honest) (λ c image. inl
      (shows_means (d.size old.disk) old.epoch old.events old.desktop c (durable honest c image))))
      (subst (λ size. LeavesOnly (d.trail mid.disk) (d.trail new.disk) (MeansEither size old.desktop new.desktop))
      still.left.disk.device.as_large
      (subst (λ (desktop : Desktop). LeavesOnly (d.trail mid.disk) (d.trail new.disk)
      (MeansEither (d.size mid.disk) desktop new.desktop)) (still.left.desktop honest) later))

  leaves_still : {old mid new : StoreView D} (count : ℕ) → IsOnlyReadFrom d old mid → LeavesSteppedBack d count mid new
      → LeavesSteppedBack d count old new
  leaves_still count still (only_read read) = only_read (read_twice d still.left.disk read)
  leaves_still count still (left_by between read leaves) = left_by between (still_both d still read) leaves

  brought_still : {old mid new : StoreView D} → IsOnlyReadFrom d old mid → LeavesBroughtAgain d mid new
      → LeavesBroughtAgain d old new
  brought_still still (unbegun read) = unbegun (read_twice d still.left.disk read)
  brought_still still (brings documents between read leaves past) = brings documents between (still_both d still read) leaves past

  -- ---- what is taken back

  -- a crash leaves the desktop before the deeds were taken back or the one after it
  taken_either : (count : ℕ) (deeds : List PastDeed) (old new : StoreView D) → TakesBack d count deeds old new
      → d.honest old.disk → IsDurable d old
      → LeavesOnly (d.trail old.disk) (d.trail new.disk) (MeansEither (d.size old.disk) old.desktop new.desktop)
  taken_either count deeds old new (turned made) honest durable = made.leaves.any_moment honest
  taken_either count deeds old new (undone events are taken_back) honest durable =
      let shows = durable honest (now (d.trail old.disk)).reads (read_is_an_image (now (d.trail old.disk))) in
      let w = taken_back.back honest shows.standing shows.stands in
      weakened w.1.leaves.any_moment (λ c either. elim either [
        | inl rest ↦ inr (w.0, rest, sym w.1.desktop)
        | inr all ↦ inl (shows.standing, all, shows.is)
      ])

  taken_durable : (count : ℕ) (deeds : List PastDeed) (old new : StoreView D) → TakesBack d count deeds old new
      → IsDurable d new
  taken_durable count deeds old new (turned made) = made.durable
  taken_durable count deeds old new (undone events are taken_back) = taken_back.durable

  taken_usable : (count : ℕ) (deeds : List PastDeed) (old new : StoreView D) → TakesBack d count deeds old new
      → new.must_reopen ≡ false
  taken_usable count deeds old new (turned made) = made.usable
  taken_usable count deeds old new (undone events are taken_back) = taken_back.usable

  stepped_either : (count : ℕ) (deeds : List PastDeed) (old new : StoreView D) → IsSteppedBack d count deeds old new
      → d.honest old.disk → IsDurable d old
      → LeavesOnly (d.trail old.disk) (d.trail new.disk) (MeansEither (d.size old.disk) old.desktop new.desktop)
  stepped_either count deeds old new stepped honest durable =
      either_still new stepped.read honest durable
      (taken_either count deeds stepped.between new stepped.takes (stepped.read.left.disk.device.still honest)
      (durable_still stepped.read durable))

  -- nothing was written
  pub stays_there : {T : Type 0} (value : T) {s s' : Sitting} (store : StoreView D) → store.must_reopen ≡ false
      → (s.travels ≡ Some Back → ComesBack d s s' store store) → Travelled the_desk d s s' store store
      → Travels the_desk d (Ok value) s s' store store
  stays_there value store usable told what = record {
    done = λ honest durable. record {
      what = what;
      any_moment = at_start (d.trail store.disk) _ (λ c image. inl
          (shows_means (d.size store.disk) store.epoch store.events store.desktop c (durable honest c image)));
      durable = durable;
    };
    stuck = tt;
    told = told;
    usable = usable;
    faults = record { rose = λ wrong. absurd (cc wrong); calm = λ other. refl; errors = tt };
    device = record { as_large = refl; still = λ honest. honest; already = λ honest. honest };
  }

  -- nothing could be read of a past
  pub goes_unread : {A T : Type 0} (error : Error) (result : Result T Error) {s s' : Sitting} (old new : StoreView D)
      → old.must_reopen ≡ false → result ≡ Err error → OnlyLooks {T = A} d (Err error) old new
      → Travels the_desk d result s s' old new
  goes_unread {T = T} error result {s = s} {s' = s'} old new usable is looks =
      subst (λ (r : Result T Error). Travels the_desk d r s s' old new) (sym is) (record {
        done = tt;
        stuck = λ honest durable. unread looks.disk;
        told = tt;
        usable = tt;
        faults = record {
          rose = λ fault. looks.faults.rose (cc fault);
          calm = λ fine. looks.faults.calm (λ fault. fine (cc fault));
          errors = of_look error looks.faults.errors
              (λ reopen. false≢true (sym usable ∙ looks.reopen.0 (ap (λ e. Err e) reopen)));
        };
        device = looks.disk.device;
      })

  module _ (s : Sitting) {known : Sitting} {old mid : StoreView D} (told : Option (List Event)) (knows : known ≡ recalled told s)
      (count : ℕ) (counts : count ≡ step_count known) (asked : s.travels ≡ Some Back) (usable : old.must_reopen ≡ false)
      (looks : OnlyLooks {T = Unit {0}} d (Ok tt) old mid) where
    still : IsOnlyReadFrom d old mid
    still = still_looked d (Ok tt) (still_none d old usable) looks

    calm : d.failures mid.disk ≡ d.failures old.disk
    calm = looks.faults.calm (λ wrong. absurd (cc wrong))

    counted : count ≡ step_count (recalled told s)
    counted = counts ∙ ap step_count knows

    stepped_so : {new : StoreView D} (deeds : List PastDeed) → IsSteppedBack d count deeds mid new
        → IsSteppedBack d (step_count (recalled told s)) deeds old new
    stepped_so {new = new} deeds stepped = record {
      between = stepped.between;
      read = still_both d still stepped.read;
      takes = subst (λ n. TakesBack d n deeds stepped.between new) counted stepped.takes;
    }

    -- what the sitting comes to, where the store stood at these places
    comes_so : {s' : Sitting} (new : StoreView D) (comes : StorePlace → StorePlace → Sitting → Sitting) (from to : StorePlace)
        → from ≡ store_place mid → to ≡ store_place new → s' ≡ comes from to (settled known)
        → s' ≡ comes (store_place old) (store_place new) (settled (recalled told s))
    comes_so new comes from to at come is = is ∙ ap (λ p. comes p to (settled known)) (at ∙ place_still still)
        ∙ ap (λ p. comes (store_place old) p (settled known)) come
        ∙ ap (λ t. comes (store_place old) (store_place new) (settled t)) knows

    gone_back : {T U : Type 0} {s' : Sitting} {new : StoreView D} (value : T) (x : U) (deeds : List PastDeed)
        → IsSteppedBack d count deeds mid new → UsesDevice d {T = U} OfUndo (Ok x) mid new
        → Travelled the_desk d s s' old new → ComesBack d s s' old new → Travels the_desk d (Ok value) s s' old new
    gone_back {new = new} value x deeds stepped device what comes = record {
      done = λ honest durable. record {
        what = what;
        any_moment = stepped_either (step_count (recalled told s)) deeds old new (stepped_so deeds stepped) honest durable;
        durable = taken_durable count deeds stepped.between new stepped.takes;
      };
      stuck = tt;
      told = λ _. comes;
      usable = taken_usable count deeds stepped.between new stepped.takes;
      faults = record {
        rose = λ wrong. absurd (cc wrong);
        calm = λ other. device.faults.calm (λ wrong. absurd (cc wrong)) ∙ calm;
        errors = tt;
      };
      device = joined_device d old.disk mid.disk new.disk looks.disk.device device.same;
    }

    -- the events of the last press were taken back
    pub goes_back : {T U : Type 0} {s' : Sitting} {new : StoreView D} (value : T) (x : U) (events : List Event) (from to : StorePlace)
        → IsSteppedBack d count (all_posted events) mid new → UsesDevice d {T = U} OfUndo (Ok x) mid new
        → from ≡ store_place mid → to ≡ store_place new
        → s' ≡ took_back events from to (settled known) → Travels the_desk d (Ok value) s s' old new
    goes_back {new = new} value x events from to stepped device at come is =
        let so = comes_so new (took_back events) from to at come is in
        gone_back value x (all_posted events) stepped device
        (back told events asked (stepped_so (all_posted events) stepped) so)
        (came_back told events (stepped_so (all_posted events) stepped) so)

    -- an import was
    pub goes_over : {T U : Type 0} {s' : Sitting} {new : StoreView D} (value : T) (x : U) (documents : Documents)
        (from to : StorePlace) → IsSteppedBack d count (brought documents ∷ []) mid new
        → UsesDevice d {T = U} OfUndo (Ok x) mid new → from ≡ store_place mid → to ≡ store_place new
        → s' ≡ took_import documents from to (settled known) → Travels the_desk d (Ok value) s s' old new
    goes_over {new = new} value x documents from to stepped device at come is =
        let so = comes_so new (took_import documents) from to at come is in
        gone_back value x (brought documents ∷ []) stepped device
        (import_back told documents asked (stepped_so (brought documents ∷ []) stepped) so)
        (import_taken told documents (stepped_so (brought documents ∷ []) stepped) so)

    -- they weren't
    pub goes_not : {U : Type 0} {s' : Sitting} {new : StoreView D} (error : Error) (result : Result Unit Error)
        → (error ≢ Fault → error ≢ MustReopen → new.must_reopen ≡ false) → (d.honest mid.disk → OfLook error)
        → AnswersMustReopen {T = U} (Err error) mid new → UsesDevice d {T = U} OfUndo (Err error) mid new
        → LeavesSteppedBack d count mid new
        → (mid.must_reopen ≡ false → new.must_reopen ≡ false → IsLeft d mid new)
        → OnOk result ((error ≢ NoMemory) × (error ≢ Fault))
        → OnOk result (s' ≡ refused NotBack (settled known))
        → IfErr result (λ e. (e ≡ error) × OfPresses error) → Travels the_desk d result s s' old new
    goes_not {new = new} error (Ok value) in_use stops reopen device moments left stays said passed =
        let open_still : error ≢ MustReopen =
        λ is. false≢true (sym still.usable ∙ reopen.only (ap (λ e. Err e) is)) in
        let in_use_still : new.must_reopen ≡ false = in_use stays.1 open_still in
        record {
          done = λ honest durable. absurd
              (not_look error (stops (looks.disk.device.still honest)) stays.0 stays.1 open_still);
          stuck = tt;
          told = λ _. not_taken told (still_left d still (left still.usable in_use_still) (in_use_still ∙ sym still.usable)).left
              (said ∙ ap (λ t. refused NotBack (settled t)) knows);
          usable = in_use_still;
          faults = record {
            rose = λ wrong. absurd (cc wrong);
            calm = λ other. device.faults.calm (λ fault. stays.1 (cc fault)) ∙ calm;
            errors = tt;
          };
          device = joined_device d old.disk mid.disk new.disk looks.disk.device device.same;
        }
    goes_not {new = new} error (Err e) in_use stops reopen device moments left stays said passed = record {
      done = tt;
      stuck = λ honest durable. back told asked
          (leaves_still (step_count (recalled told s)) still (subst (λ n. LeavesSteppedBack d n mid new) counted moments));
      told = tt;
      usable = tt;
      faults = record {
        rose = λ fault. subst (λ (n : ℕ). n < d.failures new.disk) calm (device.faults.rose (cc (passed.0, fault)));
        calm = λ fine. device.faults.calm (λ fault. fine (cc (passed.0, fault))) ∙ calm;
        errors = subst OfPresses (sym passed.0) passed.1;
      };
      device = joined_device d old.disk mid.disk new.disk looks.disk.device device.same;
    }

  -- ---- done again

  module _ (s : Sitting) {known : Sitting} {old mid : StoreView D} (told : Option (List Event))
      (knows : known ≡ foreseen (store_place old) told s) (asked : s.travels ≡ Some Again)
      (usable : old.must_reopen ≡ false) (looks : OnlyLooks {T = Unit {0}} d (Ok tt) old mid)
      (from : StorePlace) (at_mid : from ≡ store_place mid) (gone : Sitting) (found : Option NextEvent)
      (found_is : found ≡ next_event from known.again) (left : gone ≡ goes_again from known) where
    seen_still : IsOnlyReadFrom d old mid
    seen_still = still_looked d (Ok tt) (still_none d old usable) looks

    at : from ≡ store_place old
    at = at_mid ∙ place_still seen_still

    followed : next_event (store_place old) (foreseen (store_place old) told s).again ≡ found
    followed = ap (λ (t : Sitting). next_event (store_place old) t.again) (sym knows)
        ∙ ap (λ p. next_event p known.again) (sym at) ∙ sym found_is

    -- the sitting before the event
    same : gone ≡ goes_again (store_place old) (foreseen (store_place old) told s)
    same = left ∙ ap (λ p. goes_again p known) at ∙ ap (goes_again (store_place old)) knows

    -- nothing can be done again
    pub nothing_again : {T U : Type 0} (value : T) (x : U) {s' : Sitting} {new : StoreView D} → found ≡ None
        → IsOnlyReadFrom d mid new → UsesDevice d {T = U} OfPresses (Ok x) mid new → s' ≡ ended_there gone
        → Travels the_desk d (Ok value) s s' old new
    nothing_again value x {new = new} none_left read device is =
        let both : IsOnlyReadFrom d old new = still_both d seen_still read in
        record {
          done = λ honest durable. record {
            what = nothing told asked (followed ∙ none_left) (is ∙ ap ended_there same) both.left;
            any_moment = either_still new both honest durable (at_start (d.trail new.disk) _ (λ c image. inl
                (shows_means (d.size new.disk) new.epoch new.events new.desktop c
                (durable_still both durable (both.left.disk.device.still honest) c image))));
            durable = durable_still both durable;
          };
          stuck = tt;
          told = λ wrong. again_not_back (sym asked ∙ wrong);
          usable = both.usable;
          faults = record {
            rose = λ wrong. absurd (cc wrong);
            calm = λ other. device.faults.calm (λ wrong. absurd (cc wrong)) ∙ looks.faults.calm (λ wrong. absurd (cc wrong));
            errors = tt;
          };
          device = joined_device d old.disk mid.disk new.disk looks.disk.device device.same;
        }

    -- an import comes again
    pub goes_import : {T U : Type 0} (value : T) (x : U) {s' : Sitting} {new : StoreView D} (documents : Documents) (to : StorePlace)
        → found ≡ None → IsBroughtAgain d documents mid new → UsesDevice d {T = U} OfPresses (Ok x) mid new
        → to ≡ store_place new → s' ≡ did_import documents to gone → Travels the_desk d (Ok value) s s' old new
    goes_import value x {new = new} documents to none_left came device come is =
        let read : IsOnlyReadFrom d old came.between = still_both d seen_still came.read in
        record {
          done = λ honest durable.
              let there : d.honest came.between.disk = read.left.disk.device.still honest in
              let shows : new.desktop ≡ (brought_in came.between.desktop documents).desktop =
              ap (λ (o : Outcome). o.desktop) (came.brought.answers.brought.done there) in
              record {
                what = import_again told documents asked (followed ∙ none_left) (record {
                  between = came.between;
                  read = read;
                  brought = came.brought;
                  any_moment = came.any_moment;
                  nothing_forgotten = came.nothing_forgotten;
                })
                    (is ∙ ap (λ p. did_import documents p gone) come ∙ ap (did_import documents (store_place new)) same);
                any_moment = either_still new read honest durable
                    (subst (λ x. LeavesOnly (d.trail came.between.disk) (d.trail new.disk)
                    (MeansEither (d.size came.between.disk) came.between.desktop x)) (sym shows)
                    (came.any_moment came.read.usable there));
                durable = came.brought.answers.durable;
              };
          stuck = tt;
          told = λ wrong. again_not_back (sym asked ∙ wrong);
          usable = came.brought.answers.usable;
          faults = record {
            rose = λ wrong. absurd (cc wrong);
            calm = λ other. device.faults.calm (λ wrong. absurd (cc wrong)) ∙ looks.faults.calm (λ wrong. absurd (cc wrong));
            errors = tt;
          };
          device = joined_device d old.disk mid.disk new.disk looks.disk.device device.same;
        }

    -- it fails
    pub fails_import : {T U : Type 0} {s' : Sitting} {new : StoreView D} (error : Error) (result : Result T Error)
        → result ≡ Err error → found ≡ None → LeavesBroughtAgain d mid new → UsesDevice d {T = U} OfPresses (Err error) mid new
        → Travels the_desk d result s s' old new
    fails_import {T = T} {s' = s'} {new = new} error result is none_left leaves device =
        let before : d.failures mid.disk ≡ d.failures old.disk = looks.faults.calm (λ wrong. absurd (cc wrong)) in
        subst (λ (r : Result T Error). Travels the_desk d r s s' old new) (sym is) (record {
          done = tt;
          stuck = λ honest durable. import_again told asked (followed ∙ none_left) (brought_still seen_still leaves);
          told = tt;
          usable = tt;
          faults = record {
            rose = λ fault. subst (λ (n : ℕ). n < d.failures new.disk) before (device.faults.rose (cc fault));
            calm = λ fine. device.faults.calm (λ fault. fine (cc fault)) ∙ before;
            errors = device.faults.errors;
          };
          device = joined_device d old.disk mid.disk new.disk looks.disk.device device.same;
        })

    module _ (event : NextEvent) (is_event : found ≡ Some event) (done_so : Sitting) (new : StoreView D) where
      there : next_event (store_place old) (foreseen (store_place old) told s).again ≡ Some event
      there = followed ∙ is_event

      takes_there : {T : Type 0} (result : Result T Error)
          → ComesToSeat d {T = T} (after_post event.event (seat_of gone mid)) result done_so mid new
          → ComesToSeat d {T = T} (after_post event.event (seat_of gone old)) result done_so old new
      takes_there result takes = takes_seen d tt result (after_post event.event (seat_of gone old))
          (after_post event.event (seat_of gone mid)) done_so old mid new looks
          (λ honest. ap (λ (x : Session). after_post event.event (record { sitting = gone; session = x }))
          (same_session d looks honest)) takes

      -- the event that the store accepts, which was only looked at
      accepts : d.honest old.disk
          → accepted_one (session_of mid) event.event ≡ accepted_one (session_of old) event.event
      accepts honest = ap (λ (x : Session). accepted_one x event.event) (same_session d looks honest)

      -- the event is done again
      pub goes_on : {T U : Type 0} (value : T) (x : U) {s' : Sitting} (to : StorePlace) → to ≡ store_place new
          → ComesToSeat d {T = U} (after_post event.event (seat_of gone mid)) (Ok x) done_so mid new
          → KeepsPast d {T = U} (accepted_one (session_of mid) event.event) (Ok x) mid new
          → s' ≡ did_again event.deed from to done_so → Travels the_desk d (Ok value) s s' old new
      goes_on {U = U} value x to come posted keeps is =
          let takes = takes_there {T = U} (Ok x) posted in
          record {
            done = λ honest durable.
                let done = takes.done honest durable in
                record {
                  what = again told event asked there
                      (ap (λ (t : Seat). t.session) done.seat ∙ posted_session event.event (seat_of gone old))
                      (subst (λ (es : List Event). PostsOn d es old new) (accepts honest)
                      (posts_both d [] (posts_look d seen_still) keeps.posted))
                      (is ∙ ap (λ p. did_again event.deed p to done_so) at
                      ∙ ap (λ p. did_again event.deed (store_place old) p done_so) come
                      ∙ ap (λ (t : Seat). did_again event.deed (store_place old) (store_place new) t.sitting)
                      (done.seat ∙ ap (λ t. after_post event.event (seat_of t old)) same));
                  any_moment = done.any_moment;
                  durable = done.durable;
                };
            stuck = tt;
            told = λ wrong. again_not_back (sym asked ∙ wrong);
            usable = takes.usable;
            faults = record {
              rose = λ wrong. absurd (cc wrong);
              calm = λ other. takes.faults.calm (λ wrong. absurd (cc wrong));
              errors = tt;
            };
            device = takes.device;
          }

      -- it fails
      pub goes_wrong : {T U : Type 0} (result : Result T Error) (error : Error) → result ≡ Err error
          → ComesToSeat d {T = U} (after_post event.event (seat_of gone mid)) (Err error) done_so mid new
          → KeepsPast d {T = U} (accepted_one (session_of mid) event.event) (Err error) mid new
          → Travels the_desk d result s done_so old new
      goes_wrong {T = T} {U = U} result error is posted keeps =
          let takes = takes_there {T = U} (Err error) posted in
          subst (λ (r : Result T Error). Travels the_desk d r s done_so old new) (sym is) (record {
            done = tt;
            stuck = λ honest durable. again told event asked there
                (subst (λ (t : Session). IsUndone d error t.desktop old new)
                (posted_session event.event (seat_of gone old)) (takes.undone honest durable))
                (subst (λ (es : List Event). PostsUpTo d [] es old new) (accepts honest)
                (posts_then d [] (posts_look d seen_still) keeps.begun));
            told = tt;
            usable = tt;
            faults = record {
              rose = λ fault. takes.faults.rose (cc fault);
              calm = λ fine. takes.faults.calm (λ fault. fine (cc fault));
              errors = takes.faults.errors;
            };
            device = takes.device;
          })
