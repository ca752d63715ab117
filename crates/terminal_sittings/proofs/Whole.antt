-- A sitting from its first turn to its end.
use Rattle.std.proofs.Common.{◌≡◌, ◌∙◌, inl, inr, ◌+◌, ℕ, true, false, is_none, List, [], ◌++◌, Ok, Err, refl, subst}
use Rattle.std.proofs.Common.{arith}
use Rattle.store_layout.proofs.Bits.{true_or_false}
use Rattle.sector_disk.specs.declared.disk.Disk.{Ghosts}
use Rattle.event_bytes.specs.declared.event.Event.{Event}
use Rattle.desk_journal.specs.Device.{IsSameDevice}
use Rattle.desk_journal.specs.View.{IsDurable}
use Rattle.terminal_sittings.specs.declared.ending.SittingEnd.{SittingEnd}
use Rattle.terminal_sittings.specs.declared.ending.SittingEnd.TheVariants.{TooLong}
use Rattle.desk_sitting.specs.declared.sitting.TheConstants.{MOST_TURNS}
use Rattle.terminal_sittings.specs.Serving.{TurnState, IsTurnRun, Ends, TakesTurn, HasStopped, none, one_more}
use Rattle.terminal_sittings.specs.Serving.{IsSeenUnlessDue, exchange_at, stopped, too_long}
use Rattle.terminal_sittings.specs.Surviving.{TurnsSurvive, EndsSurvive}
use Rattle.terminal_sittings.specs.Sitting.{Comes, IsStretchOfTurns, Sits, TakesEitherTurn, here, again}
use Rattle.terminal_sittings.specs.Travelling.{TakesBetween}
use Rattle.terminal_sittings.proofs.Seen.{between_seen, turn_seen}
use Rattle.desk_sitting.proofs.Looked.{same_device}
use Rattle.desk_sitting.specs.TheDesk.{the_desk}

module _ {D : Type 0} (d : Ghosts D) where
  -- so many turns have led to a place of a stretch
  pub record HasRun (first : TurnState D) (count : ℕ) (place : TurnState D) : Type 0 where
    pub before : ℕ
    pub start : TurnState D
    pub comes : Comes the_desk d first before start
    pub within : ℕ
    pub counts : before + within ≡ count
    pub still : d.honest start.store.disk
    pub started : IsDurable d start.store
    pub events : List Event
    pub run : IsTurnRun the_desk d start within events place
    pub seen : IsSeenUnlessDue the_desk place

  -- after so many turns
  pub record HasCome (first : TurnState D) (count : ℕ) (place : TurnState D) : Type 0 where
    pub run : d.honest first.store.disk → HasRun first count place
    pub usable : place.store.must_reopen ≡ false
    pub calm : d.failures place.store.disk ≡ d.failures first.store.disk
    pub device : IsSameDevice d first.store.disk place.store.disk

  pub come_none : {first : TurnState D} → IsDurable d first.store → first.store.must_reopen ≡ false
      → IsSeenUnlessDue the_desk first → HasCome first 0 first
  come_none {first = first} durable usable seen = record {
    run = λ honest. record {
      before = 0;
      start = first;
      comes = here;
      within = 0;
      counts = refl;
      still = honest;
      started = durable;
      events = [];
      run = none;
      seen = seen;
    };
    usable = usable;
    calm = refl;
    device = record { as_large = refl; still = λ honest. honest; already = λ honest. honest };
  }

  module _ (turns : TurnsSurvive the_desk d) (ends : EndsSurvive the_desk d) {first : TurnState D} {count : ℕ}
      {place : TurnState D}
      (come : HasCome first count place) where
    stretch : (run : HasRun first count place) → IsStretchOfTurns the_desk d run.start run.within place
    stretch run = record {
      durable = run.started;
      events = run.events;
      run = run.run;
      goes = turns run.within run.events run.start place run.run run.still run.started;
    }

    -- a turn more
    turn_more : {T : Type 0} {new : TurnState D} (value : T) → is_none place.sitting.travels ≡ true
        → TakesTurn the_desk d (Ok value) place new → HasCome first (count + 1) new
    turn_more {new = new} value none_asked turn = record {
      run = λ honest.
          let run = come.run honest in
          let more = turn.goes_on (come.device.still honest) (stretch run).goes.durable run.seen in
          record {
            before = run.before;
            start = run.start;
            comes = run.comes;
            within = run.within + 1;
            counts = omega (arith, run.counts);
            still = run.still;
            started = run.started;
            events = run.events ++ more.0;
            run = one_more run.run none_asked more.1 turn.stays;
            seen = turn_seen d more.1;
          };
      usable = turn.usable;
      calm = turn.counts ∙ come.calm;
      device = same_device d first.store.disk place.store.disk new.store.disk come.device turn.device;
    }

    -- what was asked for beside the presses
    between_more : {T : Type 0} {new : TurnState D} (value : T) → is_none place.sitting.travels ≡ false
        → TakesBetween the_desk d (Ok value) place new → HasCome first (count + 1) new
    between_more {new = new} value asked turn = record {
      run = λ honest.
          let run = come.run honest in
          let between = turn.goes_on (come.device.still honest) (stretch run).goes.durable in
          record {
            before = run.before + run.within + 1;
            start = new;
            comes = again run.comes (stretch run) asked between;
            within = 0;
            counts = omega (arith, run.counts);
            still = turn.device.still (come.device.still honest);
            started = between.travelled.durable;
            events = [];
            run = none;
            seen = between_seen d between run.seen;
          };
      usable = turn.usable;
      calm = turn.counts ∙ come.calm;
      device = same_device d first.store.disk place.store.disk new.store.disk come.device turn.device;
    }

    pub come_more : {T : Type 0} {new : TurnState D} (value : T) → TakesEitherTurn the_desk d (Ok value) place new
        → HasCome first (count + 1) new
    come_more value either = elim (true_or_false (is_none place.sitting.travels)) [
      | inl none_asked ↦ turn_more value none_asked (either.shows none_asked)
      | inr asked ↦ between_more value asked (either.goes asked)
    ]

    sat_with : (end : SittingEnd) (more begun : List Event) (last : TurnState D) (run : HasRun first count place)
        → Ends the_desk d end (run.before + run.within) more begun place last
        → Sits the_desk d end place.sitting.holds first last.store (exchange_at last)
    sat_with end more begun last run why = record {
      before = run.before;
      start = run.start;
      comes = run.comes;
      ends = inl (record {
        durable = run.started;
        count = run.within;
        turned = run.events;
        place = place;
        run = run.run;
        held = refl;
        more = more;
        begun = begun;
        last = last;
        ends = why;
        stands = refl;
        exchanged = refl;
        events = run.events ++ more;
        are = refl;
        survives = ends end run.within (run.before + run.within) run.events more begun run.start place last run.run why
            run.still run.started;
      });
    }

    -- a turn in which the sitting ends
    turn_to_end : {T : Type 0} {last : TurnState D} (end : SittingEnd) → is_none place.sitting.travels ≡ true
        → TakesTurn the_desk d {T = T} (Err end) place last → d.honest first.store.disk
        → Sits the_desk d end place.sitting.holds first last.store (exchange_at last)
    turn_to_end {last = last} end none_asked turn honest =
        let run = come.run honest in
        let why : HasStopped the_desk d end place last =
        turn.stops (come.device.still honest) (stretch run).goes.durable run.seen in
        sat_with end why.0 why.1 last run (stopped none_asked why.2)

    lost_to_end : {T : Type 0} {last : TurnState D} (end : SittingEnd) → TakesBetween the_desk d {T = T} (Err end) place last
        → d.honest first.store.disk → Sits the_desk d end place.sitting.holds first last.store (exchange_at last)
    lost_to_end {last = last} end turn honest =
        let run = come.run honest in
        record {
          before = run.before;
          start = run.start;
          comes = run.comes;
          ends = inr (record {
            count = run.within;
            place = place;
            stretch = stretch run;
            held = refl;
            last = last;
            broken = turn.stops (come.device.still honest) (stretch run).goes.durable;
            stands = refl;
            exchanged = refl;
          });
        }

    pub sat_to_end : {T : Type 0} {last : TurnState D} (end : SittingEnd) → TakesEitherTurn the_desk d {T = T} (Err end) place last
        → d.honest first.store.disk → Sits the_desk d end place.sitting.holds first last.store (exchange_at last)
    sat_to_end {last = last} end either honest = elim (true_or_false (is_none place.sitting.travels)) [
      | inl none_asked ↦ turn_to_end end none_asked (either.shows none_asked) honest
      | inr asked ↦ lost_to_end end (either.goes asked) honest
    ]

    -- as many turns as there may be
    pub sat_too_long : count ≡ MOST_TURNS → d.honest first.store.disk
        → Sits the_desk d TooLong place.sitting.holds first place.store (exchange_at place)
    sat_too_long most honest =
        let run = come.run honest in
        sat_with TooLong [] [] place run
        (subst (λ n. Ends the_desk d TooLong n [] [] place place) (omega (arith, most, run.counts)) too_long)
