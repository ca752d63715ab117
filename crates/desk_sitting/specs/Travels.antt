-- Taking back and doing again, at the desk. `d` is what is known of a disk.
use Rattle.std.specs.Prelude.{◌≡◌, ◌∷◌, ℕ, true, false, Bool, length, Option, ◌==◌, ◌&&◌, ◌||◌, not, nat_lt, if◌then◌else◌}
use Rattle.std.specs.Prelude.{List, [], Some, None, Result, OnOk, IfErr}
use Rattle.sector_disk.specs.declared.disk.Disk.{Ghosts}
use Rattle.sector_disk.specs.Faults.{FailsAs}
use Rattle.sector_disk.specs.Trail.{LeavesOnly}
use Rattle.event_bytes.specs.declared.event.Event.{Event}
use Rattle.store_layout.specs.Meaning.{MeansEither}
use Rattle.desk_journal.specs.Device.{IsOnlyRead, IsSameDevice}
use Rattle.desk_journal.specs.Errors.{Error, Fault}
use Rattle.desk_journal.specs.Undoing.{IsLeft}
use Rattle.desk_journal.specs.View.{StoreView, IsDurable}
use Rattle.past_pages.specs.Reading.{IsOnlyReadFrom}
use Rattle.desk_past.specs.Deeds.{PastDeed, all_posted, brought}
use Rattle.document_filing.specs.Bringing.{Documents}
use Rattle.past_steps.specs.Steps.{IsBroughtAgain, IsSteppedBack, IsTurnedBack, LeavesBroughtAgain, LeavesSteppedBack}
use Rattle.done_presses.specs.declared.again.StorePlace.{StorePlace}
use Rattle.status_line.specs.declared.saying.Saying.{Saying}
use Rattle.status_line.specs.declared.saying.Saying.TheVariants.{TookBack, DidAgain, NotBack, NothingBack, NoFurtherBack}
use Rattle.status_line.specs.declared.saying.Saying.TheVariants.{NothingAgain}
use Rattle.desk_sitting.specs.declared.sitting.Sitting.{Sitting}
use Rattle.desk_sitting.specs.declared.sitting.Travel.TheVariants.{Back, Again}
use Rattle.done_presses.specs.declared.again.NextEvent.{NextEvent}
use Rattle.status_line.specs.declared.deed.Deed.{Deed}
use Rattle.status_line.specs.declared.deed.Deed.TheVariants.{Import}
use Rattle.desk_sitting.specs.declared.sitting.Travel.{Travel}
use Rattle.done_presses.specs.Again.{again_of, has_again, is_first, kept_at, carried_again, next_event, no_again, rest_at, taken_press}
use Rattle.done_presses.specs.Past.{back_count, back_deed, counted, gathered, knows_none, left_past, named, no_past, past_of}
use Rattle.desk_sitting.specs.Doing.{IsUndone, OfPresses}
use Rattle.desk_journal.specs.Session.{Session, session_of, taken as meant_by}
use Rattle.desk_sitting.specs.Desk.{Desk}
use Rattle.desk_sitting.specs.Pasts.{PostsOn, PostsUpTo}
use Rattle.desk_sitting.specs.Sittings.{accepted_one, after_post, refused}

-- where a store stands
abbrev pub store_place : {D : Type 0} → StoreView D → StorePlace
store_place store = record { epoch = store.epoch; events = store.events }

abbrev pub is_unmoved : StorePlace → StorePlace → Bool
is_unmoved from to = (from.epoch == to.epoch) && (from.events == to.events)

-- Whether what was taken back between these places is in a past: only a turn leads to a later epoch.
abbrev pub is_turn : StorePlace → StorePlace → Bool
is_turn from to = nat_lt from.epoch to.epoch

-- ---- what a past tells

-- Where no press is known that was done, these events were, if any are told of.
abbrev pub recalled : Option (List Event) → Sitting → Sitting
recalled None s = s
recalled (Some events) s =
    if knows_none s.past then record s { past = past_of events no_past } else s

-- Where nothing is known that was taken back, these events were, if any are told of, which led to this place.
abbrev pub foreseen : StorePlace → Option (List Event) → Sitting → Sitting
foreseen place None s = s
foreseen place (Some events) s =
    if has_again place s.again then s
    else record s { again = again_of events place; kept = true }

-- ---- and what becomes of the sitting

-- nothing is asked for any more, and what only moved goes with the press before it
abbrev pub settled : Sitting → Sitting
settled s = record s { travels = None; past = gathered s.past }

-- how many events are taken back
abbrev pub step_count : Sitting → ℕ
step_count s = back_count (settled s).past

-- Nothing is taken back, where this place is left: nothing was done before it, or more than can be taken back.
abbrev pub none_back : StorePlace → Saying
none_back place = if is_first place then NothingBack else NoFurtherBack

-- Events were taken back that did this, which led from one place to another. What was refused did nothing.
abbrev pub took_deed : Option Deed → List Event → StorePlace → StorePlace → Sitting → Sitting
took_deed None events from to s =
    refused (none_back to) (record s { again = carried_again from to s.again })
took_deed (Some deed) events from to s = record s {
  saying = TookBack deed;
  follows = true;
  again = kept_at (taken_press events deed) from to s.again;
}

-- Whether a past has all that can be done again, once events were taken back: these, and what could be done again before.
abbrev pub still_kept : StorePlace → StorePlace → Sitting → Bool
still_kept from to s = is_turn from to && (s.kept || not (has_again from s.again))

-- the sitting after these events were taken back, which led from one place to another
abbrev pub took_back : List Event → StorePlace → StorePlace → Sitting → Sitting
took_back events from to s = if length events == 0 then refused (none_back to) s
    else took_deed (back_deed events s.past) events from to
    (record s { past = left_past (length events) s.past; kept = still_kept from to s })

-- So many documents came by an import.
abbrev pub import_deed : Documents → Deed
import_deed documents = Import (counted (length documents))

-- The sitting after an import was taken back, which led from one place to another. What was done before it the past is asked
-- for, and of the import it is kept that it comes next: no event is.
abbrev pub took_import : Documents → StorePlace → StorePlace → Sitting → Sitting
took_import documents from to s = took_deed (Some (import_deed documents)) [] from to
    (record s { past = no_past; kept = still_kept from to s })

-- what is asked for once the next event is done again: the other events of its press, if any are left
abbrev pub on_to : Option NextEvent → Option Travel
on_to None = None
on_to (Some event) = if event.is_last then None else Some Again

-- the sitting from which the next event is done again
abbrev pub goes_again : StorePlace → Sitting → Sitting
goes_again place s = record s {
  travels = on_to (next_event place s.again);
  again = rest_at place s.again;
}

-- The sitting after an event was done again, of a press that did this. Where the store took it, that is said, and known.
abbrev pub did_again : Deed → StorePlace → StorePlace → Sitting → Sitting
did_again deed from to s =
    if is_unmoved from to then s else record s {
      saying = DidAgain deed;
      rings = false;
      changed = true;
      again = record s.again { place = to };
      past = named deed s.past;
    }

-- and from the one before it
abbrev pub done_again : NextEvent → Session → StorePlace → StorePlace → Sitting → Sitting
done_again event session from to s = did_again event.deed from to
    (after_post event.event (record { sitting = goes_again from s; session = session })).sitting

-- the sitting after an import was done again, which led to this place
abbrev pub did_import : Documents → StorePlace → Sitting → Sitting
did_import documents to s = record s {
  saying = DidAgain (import_deed documents);
  follows = true;
  again = record s.again { place = to };
  past = no_past;
}

-- where there is nothing to do again
abbrev pub ended_there : Sitting → Sitting
ended_there s = refused NothingAgain (record s { again = no_again })

abbrev pub none_again : StorePlace → Sitting → Sitting
none_again place s = ended_there (goes_again place s)

module _ {D : Type 0} (d : Ghosts D) where
  -- Over any disk: the events of the last press were taken back, or an import, or nothing was done, and that is said. Nothing
  -- more is asked for. Of which presses they were a past may have told.
  pub data ComesBack (s s' : Sitting) (old new : StoreView D) : Type 0 where
    taken : (told : Option (List Event)) (events : List Event)
        → IsSteppedBack d (step_count (recalled told s)) (all_posted events) old new
        → s' ≡ took_back events (store_place old) (store_place new) (settled (recalled told s))
        → ComesBack s s' old new
    import_taken : (told : Option (List Event)) (documents : Documents)
        → IsSteppedBack d (step_count (recalled told s)) (brought documents ∷ []) old new
        → s' ≡ took_import documents (store_place old) (store_place new) (settled (recalled told s))
        → ComesBack s s' old new
    not_taken : (told : Option (List Event)) → IsLeft d old new
        → s' ≡ refused NotBack (settled (recalled told s)) → ComesBack s s' old new

module _ (desk : Desk) {D : Type 0} (d : Ghosts D) where
  -- What was asked for beside the presses is done. Where nothing was known of that, a past may have told.
  pub data Travelled (s s' : Sitting) (old new : StoreView D) : Type 0 where
    -- nothing was asked for
    none : s.travels ≡ None → s' ≡ s → new ≡ old → Travelled s s' old new
    -- the events of the last press were taken back, as far as there were any
    back : (told : Option (List Event)) (events : List Event) → s.travels ≡ Some Back
        → IsSteppedBack d (desk.counts (desk.recalls told s)) (all_posted events) old new
        → s' ≡ desk.takes_back events (store_place old) (store_place new) (desk.recalls told s)
        → Travelled s s' old new
    -- an import was, which came last
    import_back : (told : Option (List Event)) (documents : Documents) → s.travels ≡ Some Back
        → IsSteppedBack d (desk.counts (desk.recalls told s)) (brought documents ∷ []) old new
        → s' ≡ desk.takes_import documents (store_place old) (store_place new)
        (desk.recalls told s)
        → Travelled s s' old new
    -- there was nothing to do again
    nothing : (told : Option (List Event)) → s.travels ≡ Some Again
        → desk.follows (store_place old) (desk.foresees (store_place old) told s) ≡ None
        → s' ≡ desk.ends_there (store_place old) (desk.foresees (store_place old) told s)
        → IsLeft d old new → Travelled s s' old new
    -- the next event of the press that was taken back last was done again
    again : (told : Option (List Event)) (event : NextEvent) → s.travels ≡ Some Again
        → desk.follows (store_place old) (desk.foresees (store_place old) told s) ≡ Some event
        → session_of new ≡ meant_by (session_of old) event.event
        → PostsOn d (accepted_one (session_of old) event.event) old new
        → s' ≡ desk.repeats event (session_of old) (store_place old) (store_place new)
        (desk.foresees (store_place old) told s)
        → Travelled s s' old new
    -- no event was next, but an import, of which the past told, and its documents came again
    import_again : (told : Option (List Event)) (documents : Documents) → s.travels ≡ Some Again
        → desk.follows (store_place old) (desk.foresees (store_place old) told s) ≡ None
        → IsBroughtAgain d documents old new
        → s' ≡ desk.brings_again documents (store_place old) (store_place new)
        (desk.foresees (store_place old) told s)
        → Travelled s s' old new

  -- At every moment between a crash leaves the desktop before it or the one after it, and from then on the one after it.
  pub record IsTravelled (s s' : Sitting) (old new : StoreView D) : Type 0 where
    pub what : Travelled s s' old new
    pub any_moment : LeavesOnly (d.trail old.disk) (d.trail new.disk)
        (MeansEither (d.size old.disk) old.desktop new.desktop)
    pub durable : IsDurable d new

  -- It fails. A crash leaves what was shown, or what was asked for.
  pub data IsStuck (error : Error) (s : Sitting) (old new : StoreView D) : Type 0 where
    -- nothing was written
    unread : IsOnlyRead d old.disk new.disk → IsStuck error s old new
    back : (told : Option (List Event)) → s.travels ≡ Some Back
        → LeavesSteppedBack d (desk.counts (desk.recalls told s)) old new → IsStuck error s old new
    again : (told : Option (List Event)) (event : NextEvent) → s.travels ≡ Some Again
        → desk.follows (store_place old) (desk.foresees (store_place old) told s) ≡ Some event
        → IsUndone d error (meant_by (session_of old) event.event).desktop old new
        → PostsUpTo d [] (accepted_one (session_of old) event.event) old new
        → IsStuck error s old new
    import_again : (told : Option (List Event)) → s.travels ≡ Some Again
        → desk.follows (store_place old) (desk.foresees (store_place old) told s) ≡ None
        → LeavesBroughtAgain d old new → IsStuck error s old new

  -- All that a call promises that is to do what was asked for.
  pub record Travels {T : Type 0} (result : Result T Error) (s s' : Sitting) (old new : StoreView D)
      : Type 0 where
    pub done : OnOk result (d.honest old.disk → IsDurable d old → IsTravelled s s' old new)
    pub stuck : IfErr result (λ error. d.honest old.disk → IsDurable d old
        → IsStuck error s old new)
    pub told : OnOk result (s.travels ≡ Some Back → ComesBack d s s' old new)
    pub usable : OnOk result (new.must_reopen ≡ false)
    pub faults : FailsAs Fault OfPresses result (d.failures old.disk) (d.failures new.disk)
    pub device : IsSameDevice d old.disk new.disk
