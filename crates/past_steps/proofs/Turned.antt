-- A turn behind calls that only read, to a desktop that was tried. `d` is what is known of a disk.
use Rattle.std.proofs.Common.{◌≡◌, ◌≢◌, ◌≤◌, ◌∙◌, ◌∷◌, [], inl, inr, ℕ, List, length, true, false, refl, sym, ap, arith, subst}
use Rattle.std.specs.Prelude.{Option, Some, None, IfSome, IsSomeAnd, Result, Ok, Err, IfErr, IsErrOf}
use Rattle.std.proofs.lemmas.Bool.{false≢true}
use Rattle.sector_disk.specs.declared.disk.Disk.{Ghosts}
use Rattle.sector_disk.specs.Faults.{FailsAs}
use Rattle.sector_disk.specs.Trail.{LeavesOnly, now}
use Rattle.event_bytes.specs.declared.event.Event.{Event}
use Rattle.desktop_definitions.specs.Desktop.{Desktop}
use Rattle.desktop_definitions.specs.Step.{Outcome}
use Rattle.desktop_definitions.specs.declared.reply.Reply.{Reply}
use Rattle.document_filing.specs.Bringing.{Documents}
use Rattle.store_layout.specs.Meaning.{MeansEither}
use Rattle.desk_journal.specs.Bringing.{AreBrought}
use Rattle.desk_journal.specs.Errors.{Error, NoMemory, Fault, MustReopen, OfLook}
use Rattle.desk_journal.specs.Gathering.{GatheredView}
use Rattle.desk_journal.specs.Looking.{OnlyLooks}
use Rattle.desk_journal.specs.Posting.{AnswersMustReopen}
use Rattle.desk_journal.specs.Turning.{LeavesThisOrThat}
use Rattle.desk_journal.specs.Undoing.{IsLedOn, IsLeft, LeavesUndone, OfUndo}
use Rattle.desk_journal.specs.View.{StoreView}
use Rattle.past_pages.specs.Reading.{IsOnlyReadFrom, IsQuiet}
use Rattle.past_pages.proofs.Failing.{error_from, failing_on, looks_closed, none_failed}
use Rattle.past_pages.proofs.StillReads.{still_both}
use Rattle.desk_past.specs.Deeds.{PastDeed, after_deeds, all_posted, brought}
use Rattle.desk_past.specs.Going.{LiesInPart}
use Rattle.desk_past.specs.Keeping.{UsesDevice}
use Rattle.desk_past.specs.Past.{HasMoment, KeepsAll, Start, moment}
use Rattle.desk_past.specs.Turning.{ComesToMoment, KeepsTurned, LeavesTurned, PastOf, TurnsTo, WasAt}
use Rattle.desk_past.proofs.Before.{part_before, past_before}
use Rattle.desk_past.proofs.Begun.{same_both}
use Rattle.desk_past.proofs.InMemory.{fails_none}
use Rattle.desk_past.proofs.Looks.{left_twice, only_read}
use Rattle.desk_past.proofs.Moments.{after_posted, many_posted}
use Rattle.past_steps.specs.Steps.{BreaksOff, IsPartInUse, IsMomentOf, IsSteppedBack, IsTurnedBack, LeavesSteppedBack}
use Rattle.past_steps.specs.Steps.{LeavesBack, LeavesTurnedBack, TakesBack, goes_back, turned, turns, undoes, undone}
use Rattle.past_steps.specs.Steps.{step_deeds, only_read as nothing_done}
use Rattle.past_steps.specs.declared.steps.Step.{Step}

-- A turn to a desktop that was tried: what it leaves. The events were read first, then the desktop was tried.
module _ {D : Type 0} (d : Ghosts D) {old mid late : StoreView D} (usable : old.must_reopen ≡ false)
    (first : IsOnlyReadFrom d old mid) (second : IsOnlyReadFrom d mid late)
    (quiet : old.must_reopen ≡ false → d.honest old.disk → IsQuiet d old)
    (still : mid.must_reopen ≡ false → d.honest mid.disk → IsQuiet d mid) (base k : ℕ) (deeds : List PastDeed)
    (to : GatheredView) (part : IsPartInUse d base old) (was : IsMomentOf d base k to.desktop mid)
    (leads : d.honest mid.disk → after_deeds to.desktop deeds ≡ mid.desktop) where
  was_at : (past : PastOf d late) → LiesInPart d past.keeps → WasAt d k to.desktop past
  was_at past lies =
      let at_mid : PastOf d mid = past_before d second first.usable (still first.usable) past in
      let at_old : PastOf d old = past_before d first usable (quiet usable) at_mid in
      let w = was at_mid (part at_old (part_before d first usable (quiet usable) at_mid
      (part_before d second first.usable (still first.usable) past lies))) in
      record { there = w.there; is = w.is }

  led : d.honest late.disk → after_deeds to.desktop deeds ≡ late.desktop
  led honest = let before = second.left.disk.device.already honest in
      leads before ∙ sym (second.left.desktop before)

  module _ {new : StoreView D} (count : ℕ) (few : length deeds ≤ count)
      (store_leaves : LeavesThisOrThat d to.desktop late new) (past_leaves : TurnsTo d k to.desktop late new) where
    leaves : LeavesTurnedBack d count deeds to.desktop k late new
    leaves = record {
      back = record { few = few; leads = led };
      any_moment = store_leaves second.usable;
      past = λ past lies.
          let w = was_at past lies in
          subst (λ x. LeavesTurned d x past new) w.is (past_leaves past w);
    }

    pub turn_made : length deeds ≢ 0 → ComesToMoment d k to late new → IsSteppedBack d count deeds old new
    turn_made some came = let made = came.shows in record {
      between = late;
      read = still_both d first second;
      takes = turned (record {
        k = k;
        some = some;
        leaves = record {
          back = record {
            few = few;
            leads = λ honest. ap (λ x. after_deeds x deeds) (made.desktop honest) ∙ led honest;
          };
          any_moment = λ honest. subst
              (λ x. LeavesOnly (d.trail late.disk) (d.trail new.disk) (MeansEither (d.size late.disk) late.desktop x))
              (sym (made.desktop honest)) (store_leaves second.usable honest);
          past = leaves.past;
        };
        durable = made.durable;
        next = made.next;
        usable = made.usable;
        past = λ past lies.
            let w = was_at past lies in
            (w.there, subst (λ x. KeepsTurned d x past new) w.is (came.past past w));
      });
    }

    -- it fails
    pub turn_broken : (error : Error) → (error ≡ NoMemory → IsOnlyReadFrom d late new)
        → (new.must_reopen ≡ false → IsLeft d late new) → (error ≡ MustReopen → late.must_reopen ≡ true) → OfLook error
        → BreaksOff d count error old new
    turn_broken error memory left reopen named = record {
      any_moment = goes_back late (still_both d first second) (turns deeds to.desktop k leaves);
      left = λ in_use. left_twice d (left_twice d first.left second.left) (left in_use);
      in_use = λ no_fault. elim named [
        | inl is ↦ (memory is).usable
        | inr (inl is) ↦ absurd (no_fault is)
        | inr (inr is) ↦ absurd (false≢true (sym second.usable ∙ reopen is))
      ];
      named = named;
      other = λ is. false≢true (sym second.usable ∙ reopen is);
    }

-- what is handed out of a moment
pub moment_was : {D E : Type 0} (d : Ghosts D) (base k : ℕ) (store : StoreView D) (found : Option (StoreView E))
    → (d.honest store.disk → (start : Start) (deeds : List PastDeed) (desktop : Desktop) → KeepsAll d start deeds desktop store
    → start.base ≡ base → HasMoment start deeds k → IsSomeAnd found (λ shown. shown.desktop ≡ moment start deeds k))
    → IfSome found (λ shown. d.honest store.disk → (start : Start) (deeds : List PastDeed) (desktop : Desktop)
    → KeepsAll d start deeds desktop store → start.base ≡ base → HasMoment start deeds k)
    → IfSome found (λ shown. IsMomentOf d base k shown.desktop store)
moment_was d base k store None comes there = tt
moment_was d base k store (Some shown) comes there = λ past at.
    let has = there past.honest past.start past.deeds past.desktop past.keeps at in
    record { there = has; is = comes past.honest past.start past.deeds past.desktop past.keeps at has }

-- a desktop from which the deeds lead to what the store shows
pub tried : (deeds : List PastDeed) {one two shown old mid : Desktop} → one ≡ shown → two ≡ after_deeds shown deeds
    → mid ≡ two → mid ≡ old → after_deeds one deeds ≡ old
tried deeds same after is still = ap (λ x. after_deeds x deeds) same ∙ sym after ∙ sym is ∙ still

-- how many deeds a step of events has
pub as_few : (step : Step) (events : List Event) → step_deeds step ≡ all_posted events
    → length events ≤ length (step_deeds step)
as_few step events is =
    let one : length (step_deeds step) ≡ length (all_posted events) = ap length is in
    omega (arith, one, many_posted events)

pub few_posted : (events : List Event) (most : ℕ) → length events ≤ most → length (all_posted events) ≤ most
few_posted events most few = omega (arith, few, many_posted events)

pub some_posted : (events : List Event) → (length events ≡ 0 → ⊥) → length (all_posted events) ≢ 0
some_posted events some none = some (sym (many_posted events) ∙ none)

-- a step that is done
pub did_events : {D : Type 0} (d : Ghosts D) (step : Step) (events : List Event) {old new : StoreView D}
    → step_deeds step ≡ all_posted events → d.honest old.disk → IsLedOn d events old new
    → new.desktop ≡ after_deeds old.desktop (step_deeds step)
did_events d step events {old = old} are honest led = led.desktop honest ∙ sym (after_posted old.desktop events)
    ∙ ap (λ deeds. after_deeds old.desktop deeds) (sym are)

pub did_import : {D : Type 0} (d : Ghosts D) (step : Step) (documents : Documents) {reply : Reply} {old new : StoreView D}
    → step_deeds step ≡ brought documents ∷ [] → d.honest old.disk → AreBrought d documents reply old new
    → new.desktop ≡ after_deeds old.desktop (step_deeds step)
did_import d step documents {old = old} are honest came = ap (λ (o : Outcome). o.desktop) (came.brought.done honest)
    ∙ ap (λ deeds. after_deeds old.desktop deeds) (sym are)

-- ---- exits of a turn that is tried

module _ {D : Type 0} (d : Ghosts D) {old new : StoreView D} where
  -- a look fails
  pub look_broken : {T : Type 0} (count : ℕ) (error : Error) → old.must_reopen ≡ false
      → OnlyLooks {T = T} d (Err error) old new → BreaksOff d count error old new
  look_broken count error usable looks =
      let still = only_read d (Err error) old new usable looks in
      record {
        any_moment = nothing_done still.left.disk;
        left = λ in_use. still.left;
        in_use = λ no_fault. still.usable;
        named = looks.faults.errors;
        other = λ is. false≢true (sym usable ∙ looks.reopen.0 (ap Err is));
      }

  pub look_fails : {T U : Type 0} {error : Error} {result : Result U Error} → result ≡ Err error
      → OnlyLooks {T = T} d (Err error) old new → UsesDevice d OfLook result old new
  look_fails is looks = record {
    same = looks.disk.device;
    faults = error_from looks.faults (λ e look. look) refl refl is;
  }

  -- looks from which nothing follows
  pub looks_end : {T U : Type 0} {value : T} (other : U) → OnlyLooks d (Ok value) old new
      → UsesDevice d OfLook (Ok other) old new
  looks_end other looks = record { same = looks.disk.device; faults = fails_none (none_failed looks.faults) }

-- looks, and a call behind them that may write
module _ {D : Type 0} (d : Ghosts D) {old mid new : StoreView D} {T U V : Type 0} {value : T} (answer : Result U Error)
    (looks : OnlyLooks d (Ok value) old mid) (uses : UsesDevice d OfLook answer mid new) where
  pub then_done : {done : U} (other : V) → answer ≡ Ok done → UsesDevice d OfLook (Ok other) old new
  then_done other is = record {
    same = same_both d looks.disk.device uses.same;
    faults = fails_none (uses.faults.calm (λ fault. let wrong : ⊥ = cc (is, fault) in wrong) ∙ none_failed looks.faults);
  }

  pub then_fails : {error : Error} {result : Result V Error} → answer ≡ Err error → result ≡ Err error
      → UsesDevice d OfLook result old new
  then_fails failed is = record {
    same = same_both d looks.disk.device uses.same;
    faults = error_from uses.faults (λ e look. look) (none_failed looks.faults) failed is;
  }

-- ---- a step back

-- the store must be opened again
pub closed_device : {D T : Type 0} (d : Ghosts D) (store : StoreView D) → store.must_reopen ≡ true
    → UsesDevice d {T = T} OfUndo (Err MustReopen) store store
closed_device {T = T} d store must =
    let looks = looks_closed d {T = T} store must in record {
      same = looks.disk.device;
      faults = failing_on looks.faults (λ e look. inl look) refl;
    }

pub closed_reopen : {D T : Type 0} (store : StoreView D) → store.must_reopen ≡ true
    → AnswersMustReopen {T = T} (Err MustReopen) store store
closed_reopen store must = record { only = λ refused. must; always = λ when. refl; unchanged = λ refused. refl }

-- it is in use
pub no_reopen : {D T : Type 0} {old : StoreView D} (new : StoreView D) (answer : Result T Error)
    → old.must_reopen ≡ false → (IsErrOf answer MustReopen → ⊥) → AnswersMustReopen answer old new
no_reopen new answer usable other = record {
  only = λ refused. absurd (other refused);
  always = λ must. absurd (false≢true (sym usable ∙ must));
  unchanged = λ refused. absurd (other refused);
}

-- a turn that was tried is all that was done
pub turn_ends : {D T : Type 0} (d : Ghosts D) {old new : StoreView D} {answer : Result T Error}
    → UsesDevice d OfLook answer old new → UsesDevice d OfUndo answer old new
turn_ends d uses = record { same = uses.same; faults = failing_on uses.faults (λ e look. inl look) refl }

-- what is taken back behind what was read
pub taken_after : {D : Type 0} (d : Ghosts D) (count : ℕ) (deeds : List PastDeed) {old mid new : StoreView D}
    → IsOnlyReadFrom d old mid → TakesBack d count deeds mid new → IsSteppedBack d count deeds old new
taken_after d count deeds {mid = mid} still taken = record { between = mid; read = still; takes = taken }

pub leaves_after : {D : Type 0} (d : Ghosts D) (count : ℕ) {old mid new : StoreView D} → IsOnlyReadFrom d old mid
    → LeavesUndone d count mid new → LeavesSteppedBack d count old new
leaves_after d count {mid = mid} still leaves = goes_back mid still (undoes leaves)

-- what a step back leaves that succeeds
leaves_taken : {D : Type 0} (d : Ghosts D) (count : ℕ) (deeds : List PastDeed) (old new : StoreView D)
    → TakesBack d count deeds old new → LeavesBack d count old new
leaves_taken d count deeds old new (turned made) = turns deeds new.desktop made.k made.leaves
leaves_taken d count deeds old new (undone events are taken) = undoes (λ usable honest s shows.
    let w = taken.back honest s shows in (events, w.0, taken.few, w.1.leaves))

pub leaves_stepped : {D : Type 0} (d : Ghosts D) (count : ℕ) (deeds : List PastDeed) {old new : StoreView D}
    → IsSteppedBack d count deeds old new → LeavesSteppedBack d count old new
leaves_stepped d count deeds {new = new} stepped =
    goes_back stepped.between stepped.read (leaves_taken d count deeds stepped.between new stepped.takes)
