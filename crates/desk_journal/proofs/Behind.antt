-- Events that were posted one after another, and taken back one after another. `d` is what is known of a disk.
use Rattle.std.proofs.Common.{◌≡◌, inl, inr, ◌+◌, ◌-◌, ◌<◌, ◌≤◌, ℕ, List, [], ◌∷◌, ◌++◌, length, take}
use Rattle.std.proofs.Common.{refl, sym, ◌∙◌, ap, subst, arith, length-append, append_assoc}
use Rattle.std.specs.Prelude.{get_or, OnOk, Result}
use Rattle.std.proofs.lemmas.List.{append-nil, length-take-le, take_more}
use Rattle.std.proofs.lemmas.Result.{on_ok_weaker}
use Rattle.std.proofs.Math.Seq.{take-append-add}
use Rattle.sector_disk.specs.declared.disk.Disk.{Ghosts}
use Rattle.sector_disk.specs.Trail.{Content, now}
use Rattle.sector_disk.proofs.Touching.{read_is_an_image}
use Rattle.event_bytes.specs.declared.event.Event.{Event}
use Rattle.desktop_definitions.specs.declared.reply.Reply.{Reply}
use Rattle.desktop_definitions.specs.Desktop.{Desktop}
use Rattle.desktop_definitions.specs.Step.{step, step_in, steps, steps_in, Outcome}
use Rattle.store_layout.specs.declared.layout.TheConstants.{JOURNAL_EVENTS, LAYOUT}
use Rattle.store_layout.specs.Finding.{StandingLaw}
use Rattle.store_layout.specs.Meaning.{Standing, Shows, desktop_of, and_all}
use Rattle.store_slots.proofs.Recording.{in_newest, steps_in_on}
use Rattle.store_slots.specs.Beside.{IsRest, across, within}
use Rattle.desk_journal.proofs.BackAgain.{last_of, rest_is}
use Rattle.desk_journal.proofs.Passing.{steps_on}
use Rattle.store_slots.specs.Device.{IsSameDevice}
use Rattle.desk_journal.specs.Posting.{IsAcknowledged}
use Rattle.desk_journal.proofs.Stepped.{stepped_newest}
use Rattle.desk_journal.specs.Undoing.{IsAdded, ShowsStanding, IsBehind, IsLedOn, IsTakenBack}
use Rattle.desk_journal.specs.View.{StoreView, IsDurable}

-- ---- lists

-- all but the last of some behind others
last_behind : (some more : List Event) (n : ℕ) → n ≤ length more
    → take (length (some ++ more) - n) (some ++ more) ≡ some ++ take (length more - n) more
last_behind some more n low =
    let long : length (some ++ more) - n ≡ length some + (length more - n) =
    omega (arith, length-append some more, low) in
    ap (λ m. take m (some ++ more)) long ∙ take-append-add some more (length more - n)

-- ---- one call

module _ {D : Type 0} (d : Ghosts D) (old : StoreView D) where
  -- what the disk shows is what the store shows
  shows_now : IsDurable d old → d.honest old.disk
      → Shows (d.size old.disk) old.layout old.epoch old.events old.desktop (now (d.trail old.disk)).reads
  shows_now durable honest = durable honest (now (d.trail old.disk)).reads (read_is_an_image (now (d.trail old.disk)))

  same_standing : StandingLaw → (durable : IsDurable d old) (honest : d.honest old.disk) (s : Standing) → ShowsStanding d old s
      → (shows_now durable honest).standing ≡ s
  same_standing law durable honest s at = law (d.size old.disk) (now (d.trail old.disk)).reads
      (shows_now durable honest).standing s (shows_now durable honest).stands at

  pub none_behind : StandingLaw → IsDurable d old → old.layout ≡ LAYOUT → IsBehind d [] old old
  none_behind law durable newest = record {
    still = λ h. h;
    layout = newest;
    count = omega arith;
    versions = λ honest s at. sym (ap (λ x. x.version) (same_standing law durable honest s at))
        ∙ (shows_now durable honest).version_is ∙ newest;
    at = λ honest s at. subst (λ l. ShowsStanding d old (record {
      slot = s.slot;
      version = s.version;
      epoch = s.epoch;
      past = s.past;
      start = s.start;
      events = l;
    })) (sym (append-nil s.events)) at;
    desktop = λ honest s at. sym (shows_now durable honest).is
        ∙ ap desktop_of (same_standing law durable honest s at)
        ∙ ap (steps_in s.version s.start) (sym (append-nil s.events));
  }

  module _ {mid new : StoreView D} {events : List Event} (was : IsBehind d events old mid)
      (device : IsSameDevice d mid.disk new.disk) where
    pub one_behind : {event : Event} {reply : Reply} → mid.events < JOURNAL_EVENTS
        → IsAcknowledged d event reply mid new → IsAdded d event mid new → IsBehind d (events ++ event ∷ []) old new
    one_behind {event = event} {reply = reply} room ok added = record {
      still = λ h. device.still (was.still h);
      layout = ok.layout;
      count = omega (arith, (ok.more (room, was.layout)).1, was.count, length-append events (event ∷ []));
      versions = was.versions;
      at = λ honest s at. subst (λ l. ShowsStanding d new (record {
        slot = s.slot;
        version = s.version;
        epoch = s.epoch;
        past = s.past;
        start = s.start;
        events = l;
      })) (append_assoc s.events events (event ∷ []))
          (added.more (was.still honest) (room, was.layout) (and_all s events) (was.at honest s at));
      desktop = λ honest s at.
          ap (λ (o : Outcome). o.desktop) (stepped_newest d ok (was.still honest))
          ∙ ap (λ x. (step x event).desktop) (was.desktop honest s at)
          ∙ sym (ap (λ (o : Outcome). o.desktop) (in_newest (desktop_of (and_all s events)) event))
          ∙ ap (λ v. (step_in v (desktop_of (and_all s events)) event).desktop) (sym (was.versions honest s at))
          ∙ sym (steps_in_on s.version s.start (s.events ++ events) event)
          ∙ ap (steps_in s.version s.start) (append_assoc s.events events (event ∷ []));
    }

    pub some_fewer : {count : ℕ} {undone : List Event} → IsTakenBack d count undone mid new → count ≤ length events
        → IsBehind d (take (length events - length undone) events) old new
    some_fewer {count = count} {undone = undone} back room = record {
      still = λ h. device.still (was.still h);
      layout = back.layout ∙ was.layout;
      count = omega (
        arith,
        (back.own few).1,
        was.count,
        low,
        length-take-le (length events - length undone) events (omega arith),
      );
      versions = was.versions;
      at = λ honest s at.
          let w = back.back (was.still honest) (and_all s events) (was.at honest s at) in
          subst (ShowsStanding d new) (rest honest s w.0 w.1.leaves.is_rest) w.1.left;
      desktop = λ honest s at.
          let w = back.back (was.still honest) (and_all s events) (was.at honest s at) in
          w.1.desktop ∙ ap desktop_of (rest honest s w.0 w.1.leaves.is_rest);
    }
      where
        low : length undone ≤ length events
        low = omega (arith, back.few, room)

        few : count ≤ mid.events
        few = omega (arith, was.count, room)

        rest : d.honest old.disk → {c : Content} (s t : Standing) → IsRest c undone (and_all s events) t
            → t ≡ and_all s (take (length events - length undone) events)
        rest honest s t is =
            rest_is undone (and_all s events) t
            (last_of undone (and_all s events) t (omega (arith, low, length-append s.events events)) is)
            ∙ (λ i. record {
              slot = s.slot;
              version = s.version;
              epoch = s.epoch;
              past = s.past;
              start = s.start;
              events = last_behind s.events events (length undone) low i;
            })

-- ---- the first of a list of events

module _ {D : Type 0} (d : Ghosts D) {old mid new : StoreView D} (events : List Event) where
  pub next_behind : (k : ℕ) {event : Event} {reply : Reply} → IsBehind d (take k events) old mid
      → IsSameDevice d mid.disk new.disk → k < length events → event ≡ get_or events k event
      → old.events + length events ≤ JOURNAL_EVENTS → IsAcknowledged d event reply mid new
      → IsAdded d event mid new → IsBehind d (take (k + 1) events) old new
  next_behind k {event = event} was device low here room ok added =
      subst (λ l. IsBehind d l old new)
      (sym (take_more events k event low ∙ ap (λ e. take k events ++ e ∷ []) (sym here)))
      (one_behind d old was device
      (omega (arith, was.count, length-take-le k events (omega (arith, low)), room, low)) ok added)

-- posted whole, and so many taken back
pub all_but : {D : Type 0} (d : Ghosts D) {old mid new : StoreView D} (events : List Event) (count : ℕ)
    {undone : List Event} → IsBehind d events old mid → IsSameDevice d mid.disk new.disk → count ≤ length events
    → IsTakenBack d count undone mid new → IsBehind d (take (length events - count) events) old new
all_but d {old = old} {mid = mid} {new = new} events count {undone = undone} was device low back =
    let few : count ≤ mid.events = omega (arith, was.count, low) in
    let many : length undone ≡ count = elim back.as_many [
      | inl all ↦ all
      | inr none ↦ omega (arith, (back.own few).1, none, back.few, few)
    ] in
    subst (λ n. IsBehind d (take (length events - n) events) old new) many (some_fewer d old was device back low)

-- the desktop after events behind others
steps_both : (version : ℕ) (d : Desktop) (some more : List Event)
    → steps_in version d (some ++ more) ≡ steps_in version (steps_in version d some) more
steps_both version d [] more = refl
steps_both version d (event ∷ some) more = steps_both version (step_in version d event).desktop some more

all_newest : (d : Desktop) (events : List Event) → steps_in LAYOUT d events ≡ steps d events
all_newest d [] = refl
all_newest d (event ∷ events) =
    ap (λ (o : Outcome). steps_in LAYOUT o.desktop events) (in_newest d event)
    ∙ all_newest (step d event).desktop events

pub shown_behind : {D : Type 0} (d : Ghosts D) {old new : StoreView D} {events : List Event}
    → IsBehind d events old new → IsDurable d old → d.honest old.disk → new.desktop ≡ steps old.desktop events
shown_behind d {old = old} {events = events} was durable honest =
    let shows = shows_now d old durable honest in
    let s = shows.standing in
    was.desktop honest s shows.stands
    ∙ steps_both s.version s.start s.events events
    ∙ ap (λ x. steps_in s.version x events) shows.is
    ∙ ap (λ v. steps_in v old.desktop events) (was.versions honest s shows.stands)
    ∙ all_newest old.desktop events

-- ---- what was taken back leads to what was shown

-- the rest, and then the events that were taken back
pub led_back : {c : Content} (events : List Event) (s rest : Standing) → IsRest c events s rest
    → desktop_of s ≡ steps_in s.version (desktop_of rest) events
led_back events s rest (within is) =
    ap desktop_of is ∙ steps_both rest.version rest.start rest.events events
    ∙ ap (λ v. steps_in v (desktop_of rest) events) (sym (ap (λ x. x.version) is))
led_back events s rest (across t event more before is all) =
    let version : rest.version ≡ s.version = sym (ap (λ x. x.version) is) ∙ before.version in
    let start : s.start ≡ steps_in s.version (desktop_of rest) (event ∷ more) =
    before.goes_on ∙ ap desktop_of is ∙ steps_both rest.version rest.start rest.events (event ∷ more)
    ∙ ap (λ v. steps_in v (desktop_of rest) (event ∷ more)) version in
    ap (λ x. steps_in s.version x s.events) start
    ∙ sym (steps_both s.version (desktop_of rest) (event ∷ more) s.events)
    ∙ ap (steps_in s.version (desktop_of rest)) (sym all)

-- the same of stores in the newest version
pub leads_there : {D : Type 0} (d : Ghosts D) {old new : StoreView D} {count : ℕ} {events : List Event} → IsDurable d old
    → old.layout ≡ LAYOUT → IsTakenBack d count events old new → d.honest old.disk
    → old.desktop ≡ steps new.desktop events
leads_there d {old = old} {new = new} {events = events} durable newest back honest =
    let shows = shows_now d old durable honest in
    let s = shows.standing in
    let w = back.back honest s shows.stands in
    sym shows.is ∙ led_back events s w.0 w.1.leaves.is_rest
    ∙ ap (λ v. steps_in v (desktop_of w.0) events) (shows.version_is ∙ newest)
    ∙ all_newest (desktop_of w.0) events
    ∙ ap (λ x. steps x events) (sym w.1.desktop)

-- ---- posts alone

pub none_led : {D : Type 0} (d : Ghosts D) (store : StoreView D) → IsLedOn d [] store store
none_led d store = record { still = λ h. h; desktop = λ h. refl }

pub next_led : {D : Type 0} (d : Ghosts D) {old mid new : StoreView D} (events : List Event) (k : ℕ) {event : Event}
    {reply : Reply} → IsLedOn d (take k events) old mid → IsSameDevice d mid.disk new.disk → k < length events
    → event ≡ get_or events k event → IsAcknowledged d event reply mid new → IsLedOn d (take (k + 1) events) old new
next_led d {old = old} events k {event = event} was device low here ok = record {
  still = λ h. device.still (was.still h);
  desktop = λ h.
      ap (λ (o : Outcome). o.desktop) (stepped_newest d ok (was.still h))
      ∙ ap (λ x. (step x event).desktop) (was.desktop h)
      ∙ sym (steps_on old.desktop (take k events) event)
      ∙ ap (steps old.desktop) (sym (take_more events k event low ∙ ap (λ e. take k events ++ e ∷ []) (sym here)));
}

-- what was taken back is posted again
pub redone : {D : Type 0} (d : Ghosts D) {old mid : StoreView D} (new : StoreView D) {count : ℕ}
    {events posted : List Event} {T E : Type 0} (result : Result T E) → IsDurable d old → old.layout ≡ LAYOUT
    → IsTakenBack d count events old mid → IsSameDevice d old.disk mid.disk → events ≡ posted
    → OnOk result (IsLedOn d posted mid new) → OnOk result (d.honest old.disk → new.desktop ≡ old.desktop)
redone d {old = old} {mid = mid} new {count = count} {posted = posted} result durable newest back device same =
    on_ok_weaker result (λ led honest. led.desktop (device.still honest)
    ∙ sym (leads_there d durable newest (subst (λ l. IsTakenBack d count l old mid) same back) honest))
