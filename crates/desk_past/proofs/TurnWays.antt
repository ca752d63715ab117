-- A turn behind calls that only read. `d` is what is known of a disk.
use Rattle.std.proofs.Common.{◌≡◌, ◌≢◌, inl, inr, ◌+◌, ◌^◌, ◌<◌, ℕ, List, length, refl, subst, arith, ap}
use Rattle.std.proofs.Common.{false, sym, ◌∙◌}
use Rattle.std.specs.Int.{w64, to_be_bytes}
use Rattle.std.specs.Prelude.{Result, Ok, Err, IfErr, IsErrOf}
use Rattle.std.proofs.lemmas.Bool.{false≢true}
use Rattle.sector_disk.specs.declared.disk.Disk.{Ghosts}
use Rattle.sector_disk.specs.Faults.{FailsAs}
use Rattle.sector_disk.specs.Trail.{LeavesOnly}
use Rattle.sector_disk.proofs.Touching.{chained, weakened}
use Rattle.desktop_definitions.specs.Desktop.{Desktop}
use Rattle.store_layout.specs.declared.head.PastEnd.{PastEnd}
use Rattle.store_layout.specs.declared.layout.TheConstants.{LAST_EPOCH, STORE_SECTORS}
use Rattle.store_layout.specs.Meaning.{MeansEither}
use Rattle.store_slots.specs.Device.{IsOnlyRead}
use Rattle.store_slots.specs.Errors.{OfCheckpoint, OfDesktop, OfLook}
use Rattle.store_slots.specs.declared.error.Error.{Error}
use Rattle.store_slots.specs.declared.error.Error.TheVariants.{Fault, MustReopen, NoMemory, Worn}
use Rattle.desk_journal.specs.Behind.{GoesToNextWith, LeavesNextWith, StaysBehind, turned_from}
use Rattle.desk_journal.specs.Gathering.{GatheredView}
use Rattle.desk_journal.specs.Posting.{AnswersMustReopen, IsLast, TurnsAway}
use Rattle.desk_journal.specs.Turning.{IsTurnedTo, LeavesThisOrThat}
use Rattle.desk_journal.specs.View.{StoreView, IsDurable}
use Rattle.past_pages.specs.Page.{IsGoodPage, turn_of}
use Rattle.past_pages.specs.Reading.{IsOnlyReadFrom, IsQuiet}
use Rattle.desk_past.specs.Ahead.{IsAhead}
use Rattle.desk_past.specs.Deeds.{turned}
use Rattle.desk_past.specs.Turning.{HasTurnedTo, PastOf, TurnsTo}
use Rattle.desk_past.proofs.Begun.{desktop_spared, spared_read}
use Rattle.desk_past.proofs.OverPages.{keeps_over, moments_over}
use Rattle.desk_past.proofs.Remembering.{read_moments}

-- its page can be spelled
eight : (k : ℕ) → length (to_be_bytes w64 k) ≡ 8
eight k = refl

pub turn_good : (k : ℕ) (to : Desktop) → k < 2 ^ 64 → IsGoodPage (turn_of k to)
turn_good k to few = record {
  newest = refl;
  few = omega arith;
  short = let long = eight k in omega (arith, long);
  valid = few;
}

-- ---- at each moment

-- nothing was written, whatever was returned
pub none_left : {D : Type 0} (d : Ghosts D) (old new : StoreView D)
    → (old.must_reopen ≡ false → IsDurable d old) → (old.must_reopen ≡ false → d.honest old.disk → IsQuiet d old)
    → IsOnlyRead d old.disk new.disk → (to : Desktop) → LeavesThisOrThat d to old new
none_left d old new durable quiet run to usable honest =
    weakened (desktop_spared d STORE_SECTORS 0 old new (omega arith) durable
    (spared_read d STORE_SECTORS 0 run quiet) usable honest) (λ c means. inl means)

module _ {D : Type 0} (d : Ghosts D) {old mid : StoreView D} (still : IsOnlyReadFrom d old mid)
    (durable : old.must_reopen ≡ false → IsDurable d old)
    (quiet : old.must_reopen ≡ false → d.honest old.disk → IsQuiet d old) where
  -- nothing was written
  pub none_turned : (k : ℕ) (to : Desktop) → TurnsTo d k to old mid
  none_turned k to past was =
      weakened (read_moments d past.keeps past.honest (quiet past.keeps.usable past.honest) mid still.left.disk)
      (λ c r. inl r)

  pub none_shown : (to : Desktop) → LeavesThisOrThat d to old mid
  none_shown = none_left d old mid durable quiet still.left.disk

  -- another desktop comes then
  pub shown_behind : (to : Desktop) (new : StoreView D) → LeavesThisOrThat d to mid new
      → LeavesThisOrThat d to old new
  shown_behind to new second usable honest =
      chained (none_shown to usable honest)
      (subst (λ (x : ℕ × Desktop). LeavesOnly (d.trail mid.disk) (d.trail new.disk) (MeansEither x.0 x.1 to))
      (λ i. (still.left.disk.device.as_large i, still.left.desktop honest i))
      (second still.usable (still.left.disk.device.still honest)))

  -- whose page was written ahead of it
  module _ (k : ℕ) (to : Desktop) (told : PastEnd) (from limit : ℕ) {bytes made : List ℕ} (new : StoreView D)
      (second : mid.must_reopen ≡ false → d.honest mid.disk → IsQuiet d mid)
      (within : StaysBehind d from limit mid.disk new.disk) (same : bytes ≡ made)
      (pages : (to : Desktop) (past : PastOf d old) → IsAhead d (turn_of k to) told from limit made past.keeps) where
    ahead : (past : PastOf d old) → IsAhead d (turn_of k to) told from limit bytes past.keeps
    ahead past = subst (λ l. IsAhead d (turn_of k to) told from limit l past.keeps) (sym same) (pages to past)

    pub turns_behind : LeavesNextWith d (turned_from told to) from bytes mid new → TurnsTo d k to old new
    turns_behind next past was =
        moments_over d (turn_of k to) (turned to) refl past.keeps (was.there, was.is) past.honest
        (quiet past.keeps.usable past.honest) still
        (second still.usable (still.left.disk.device.still past.honest)) told from limit bytes (ahead past) new within
        next

    pub turned_behind : new.must_reopen ≡ false → GoesToNextWith d (turned_from told to) from bytes mid new
        → HasTurnedTo d k to old new
    turned_behind usable goes past was =
        keeps_over d (turn_of k to) (turned to) refl past.keeps (was.there, was.is) past.honest
        (quiet past.keeps.usable past.honest) still
        (second still.usable (still.left.disk.device.still past.honest)) told from limit bytes (ahead past) new within
        usable goes

pub turned_then : {D : Type 0} (d : Ghosts D) {old mid : StoreView D} (still : IsOnlyReadFrom d old mid)
    (to : GatheredView) {new : StoreView D} → IsTurnedTo d to mid new → IsTurnedTo d to old new
turned_then d still to came = record {
  desktop = λ honest. came.desktop (still.left.disk.device.still honest);
  kept = came.kept;
  next = record {
    layout = came.next.layout;
    epoch = came.next.epoch ∙ ap (λ n. n + 1) still.left.epoch;
    events = came.next.events;
  };
  durable = came.durable;
  usable = came.usable;
}

-- ---- errors

-- An error of the exchange, behind a read of a store that is in use and has another epoch to come, is a fault.
only_fault : {D T : Type 0} (answer : Result T Error) {mid new : StoreView D} → mid.must_reopen ≡ false
    → ¬ (mid.epoch ≡ LAST_EPOCH) → IfErr answer OfCheckpoint → AnswersMustReopen answer mid new
    → TurnsAway (IsErrOf answer Worn) (IsLast mid) mid new → IfErr answer (λ e. e ≡ Fault)
only_fault (Ok x) usable later errors reopen worn = tt
only_fault (Err e) usable later (inl is) reopen worn = is
only_fault (Err e) usable later (inr (inl is)) reopen worn =
    absurd (false≢true (sym usable ∙ reopen.only (ap Err is)))
only_fault (Err e) usable later (inr (inr is)) reopen worn = absurd (later (worn.only (ap Err is)).1)

module _ {D : Type 0} (d : Ghosts D) {old mid new : StoreView D} (still : IsOnlyReadFrom d old mid)
    (later : ¬ (old.epoch ≡ LAST_EPOCH)) {T : Type 0} (answer : Result T Error) (e : Error) (is : answer ≡ Err e) where
  pub is_fault : IfErr answer OfCheckpoint → AnswersMustReopen answer mid new
      → TurnsAway (IsErrOf answer Worn) (IsLast mid) mid new → e ≡ Fault
  is_fault errors reopen worn = subst (λ r. IfErr r (λ x. x ≡ Fault)) is
      (only_fault answer still.usable (λ last. later (sym still.left.epoch ∙ last)) errors reopen worn)

-- Fault is passed on, and was counted behind a read that failed not.
pub fault_on : {T U X : Type 0} (first : Result X Error) (x : X) (answer : Result T Error) {last : Result U Error}
    {before mid after : ℕ} → first ≡ Ok x → FailsAs Fault OfDesktop first before mid
    → FailsAs Fault OfCheckpoint answer mid after → answer ≡ Err Fault → last ≡ Err Fault
    → FailsAs Fault OfLook last before after
fault_on first x answer {before = before} {mid = mid} {after = after} ok look faults fault ends = record {
  rose = λ _. subst (λ n. n < after)
      (look.calm (λ wrong. let no : ⊥ = cc (ok, wrong) in no)) (faults.rose fault);
  calm = λ other. absurd (other ends);
  errors = subst (λ r. IfErr r OfLook) (sym ends) (inr (inl refl));
}

-- whatever error it was
pub err_then : {T : Type 0} (answer : Result T Error) {P : Type 0} → P → IfErr answer (λ e. P)
err_then (Ok x) p = tt
err_then (Err e) p = p
