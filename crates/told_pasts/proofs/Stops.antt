-- Which errors come of calls, one after another. `d` is what is known of a disk.
use Rattle.std.proofs.Common.{◌≡◌, inl, inr, ◌≤◌, ◌∙◌, ℕ, List, Result, Ok, Err, ap, refl, subst, sym, true, false}
use Rattle.std.specs.Prelude.{Bool, IfErr, IsErrOf, OnOk, is_err}
use Rattle.std.proofs.lemmas.Bool.{false≢true}
use Rattle.std.proofs.lemmas.Result.{IfErr-at_err, IfErr-weaker, on_ok_weaker}
use Rattle.sector_disk.specs.declared.disk.Disk.{Ghosts}
use Rattle.sector_disk.specs.Faults.{FailsAs}
use Rattle.desktop_definitions.specs.Desktop.{Desktop}
use Rattle.store_slots.specs.declared.error.Error.{Error}
use Rattle.store_slots.specs.declared.error.Error.TheVariants.{Damaged, Fault, MustReopen, NoMemory}
use Rattle.store_slots.specs.declared.error.Error.TheVariants.{NotAStore, TooSmall, Worn}
use Rattle.store_slots.specs.Errors.{OfLook, OfPost}
use Rattle.desk_journal.specs.Looking.{OnlyLooks}
use Rattle.desk_journal.specs.Undoing.{OfUndo}
use Rattle.desk_journal.specs.View.{StoreView}
use Rattle.past_pages.proofs.Failing.{calm_answer, error_from, closed_of, failing_on}
use Rattle.desk_past.specs.Deeds.{PastDeed}
use Rattle.desk_past.specs.Errors.{OfDoing, OfMoment, OfSteps}
use Rattle.desk_past.specs.Going.{LiesInPart}
use Rattle.desk_past.specs.Past.{KeepsAll, Start}
use Rattle.desk_past.specs.Turning.{PastOf}
use Rattle.desk_past.proofs.InMemory.{doing_no_fault, fails_none, moment_of_doing, moment_of_look}
use Rattle.desk_past.proofs.InMemory.{of_post, steps_of_doing, steps_of_look, stop_from}
use Rattle.told_pasts.specs.Stopping.{StopsAs, as_in_memory}

-- ---- errors of calls over a store in memory

ok_in_memory : {T : Type 0} (P : Type 0) (done : Result T Error) → OnOk done P → OnOk (as_in_memory done) P
ok_in_memory P (Ok x) fact = fact
ok_in_memory P (Err NoMemory) fact = tt
ok_in_memory P (Err Fault) fact = tt
ok_in_memory P (Err MustReopen) fact = tt
ok_in_memory P (Err NotAStore) fact = tt
ok_in_memory P (Err (Damaged n)) fact = tt
ok_in_memory P (Err TooSmall) fact = tt
ok_in_memory P (Err Worn) fact = tt

errors_in_memory : {T : Type 0} (done : Result T Error) → IfErr done OfPost → IfErr (as_in_memory done) OfDoing
errors_in_memory (Ok x) errors = tt
errors_in_memory (Err NoMemory) errors = of_post NoMemory errors
errors_in_memory (Err Fault) errors = of_post Fault errors
errors_in_memory (Err MustReopen) errors = of_post MustReopen errors
errors_in_memory (Err NotAStore) errors = of_post NotAStore errors
errors_in_memory (Err (Damaged n)) errors = of_post (Damaged n) errors
errors_in_memory (Err TooSmall) errors = of_post TooSmall errors
errors_in_memory (Err Worn) errors = of_post Worn errors

-- what such a call gave where it returned Ok, and its errors
pub ok_then : {T P Q : Type 0} (done result : Result T Error) → result ≡ as_in_memory done → OnOk done P → (P → Q)
    → OnOk result Q
ok_then {Q = Q} done result is fact f = subst (λ r. OnOk r Q) (sym is) (ok_in_memory Q done (on_ok_weaker done f fact))

pub doing_then : {T : Type 0} (done result : Result T Error) → result ≡ as_in_memory done → IfErr done OfPost
    → IfErr result OfDoing
doing_then done result is errors = subst (λ r. IfErr r OfDoing) (sym is) (errors_in_memory done errors)

doing_no_reopen : (e : Error) → OfDoing e → e ≡ MustReopen → ⊥
doing_no_reopen e (inl is) reopen = let wrong : ⊥ = cc (is, reopen) in wrong
doing_no_reopen e (inr is) reopen = let wrong : ⊥ = cc (is, reopen) in wrong

-- a look at a store in use
usable_stops : {T : Type 0} (answer : Result T Error) {must : Bool} → IfErr answer OfLook
    → (IsErrOf answer MustReopen → must ≡ true) → IfErr answer (λ e. must ≡ false → OfSteps e)
usable_stops (Ok x) errors reopen = tt
usable_stops (Err e) errors reopen = λ usable. steps_of_look e errors
    (λ is. false≢true (sym usable ∙ reopen (ap (λ x. Err x) is)))

-- events that can be taken back
moment_of_undo : (e : Error) → OfUndo e → OfMoment e
moment_of_undo e (inl look) = moment_of_look e look
moment_of_undo e (inr (inl (inl is))) = inr (inl (inl is))
moment_of_undo e (inr (inl (inr (inl is)))) = inr (inl (inr (inl is)))
moment_of_undo e (inr (inl (inr (inr is)))) = inr (inr (inl is))
moment_of_undo e (inr (inr damaged)) = inr (inr (inr damaged))

honest_stops : {T : Type 0} (answer : Result T Error) {must : Bool} {Honest : Type 0} → (Honest → IfErr answer OfLook)
    → (IsErrOf answer MustReopen → must ≡ true) → IfErr answer (λ e. Honest × (must ≡ false) → OfSteps e)
honest_stops (Ok x) errors reopen = tt
honest_stops (Err e) errors reopen = λ known. steps_of_look e (errors known.0)
    (λ is. false≢true (sym known.1 ∙ reopen (ap (λ x. Err x) is)))

-- a store that must be opened again
pub closed_stops : {D X U : Type 0} (d : Ghosts D) (store : StoreView D) (answer : Result X Error) {x : X}
    → (store.must_reopen ≡ false → answer ≡ Ok x) → is_err answer ≡ true
    → StopsAs {T = U} d (store.must_reopen ≡ false) (Err MustReopen) store store
closed_stops d store answer value failed =
    let must = closed_of store.must_reopen answer value failed in record {
      faults = record {
        rose = λ fault. let wrong : ⊥ = cc fault in absurd wrong;
        calm = λ fine. refl;
        errors = inl refl;
      };
      reopen = λ is. must;
      stops = λ usable. absurd (false≢true (sym usable ∙ must));
    }

module _ {D : Type 0} (d : Ghosts D) {old : StoreView D} where
  -- ---- what returned Ok

  pub stops_none : {T : Type 0} {x : T} {K : Type 0} {new : StoreView D}
      → d.failures new.disk ≡ d.failures old.disk → StopsAs d K (Ok x) old new
  stops_none same = record {
    faults = fails_none same;
    reopen = λ is. let wrong : ⊥ = cc is in absurd wrong;
    stops = tt;
  }

  -- ---- an error that a call returned, and that is passed on

  pub stops_from : {T U : Type 0} {answer : Result T Error} {result : Result U Error} {e : Error} {K L : Type 0}
      {mid new : StoreView D} → StopsAs d L answer mid new → d.failures mid.disk ≡ d.failures old.disk
      → (mid.must_reopen ≡ true → old.must_reopen ≡ true) → (K → L) → answer ≡ Err e → result ≡ Err e
      → StopsAs d K result old new
  stops_from {answer = answer} fails same closed knows failed is = record {
    faults = error_from fails.faults (λ x named. named) same failed is;
    reopen = λ wrong. (let there : answer ≡ Err MustReopen = cc (failed, is, wrong) in closed (fails.reopen there));
    stops = stop_from fails.stops (λ x named known. named (knows known)) failed is;
  }

  -- of the first call
  pub stops_first : {T U : Type 0} {answer : Result T Error} {result : Result U Error} {e : Error} {K L : Type 0}
      {new : StoreView D} → StopsAs d L answer old new → (K → L) → answer ≡ Err e → result ≡ Err e
      → StopsAs d K result old new
  stops_first fails knows failed is = stops_from fails refl (λ must. must) knows failed is

  -- of a call behind others
  pub stops_later : {T U : Type 0} {answer : Result T Error} {result : Result U Error} {e : Error} {K L : Type 0}
      {mid new : StoreView D} → mid.must_reopen ≡ false → d.failures mid.disk ≡ d.failures old.disk
      → StopsAs d L answer mid new → (K → L) → answer ≡ Err e → result ≡ Err e → StopsAs d K result old new
  stops_later usable same fails knows failed is =
      stops_from fails same (λ must. absurd (false≢true (sym usable ∙ must))) knows failed is

  -- and what the last call returned
  pub stops_on : {T : Type 0} (answer : Result T Error) {K L : Type 0} {mid new : StoreView D}
      → mid.must_reopen ≡ false → d.failures mid.disk ≡ d.failures old.disk → StopsAs d L answer mid new → (K → L)
      → StopsAs d K answer old new
  stops_on answer usable same fails knows = record {
    faults = failing_on fails.faults (λ x named. named) same;
    reopen = λ wrong. absurd (false≢true (sym usable ∙ fails.reopen wrong));
    stops = IfErr-weaker answer _ _ (λ e named known. named (knows known)) fails.stops;
  }

  -- ---- what is done in memory fails no device

  pub stops_doing : {T : Type 0} (answer : Result T Error) {K : Type 0} {new : StoreView D} → IfErr answer OfDoing
      → d.failures new.disk ≡ d.failures old.disk → StopsAs d K answer old new
  stops_doing answer errors same = record {
    faults = calm_answer answer errors moment_of_doing doing_no_fault same;
    reopen = λ wrong. absurd (doing_no_reopen MustReopen (IfErr-at_err OfDoing wrong errors) refl);
    stops = IfErr-weaker answer _ _ (λ e named known. steps_of_doing e named) errors;
  }

  pub stops_memory : {U : Type 0} {result : Result U Error} {e : Error} {K : Type 0} {new : StoreView D}
      → e ≡ NoMemory → d.failures new.disk ≡ d.failures old.disk → result ≡ Err e → StopsAs d K result old new
  stops_memory {U = U} {result = result} {e = e} {K = K} {new = new} memory same is =
      subst (λ r. StopsAs d K r old new) (sym is) (stops_doing {T = U} (Err e) (inl memory) same)

  -- ---- what can't be where that much is known

  pub stops_missing : {U : Type 0} {n : ℕ} {K : Type 0} {new : StoreView D}
      → d.failures new.disk ≡ d.failures old.disk → (K → ⊥) → StopsAs {T = U} d K (Err (Damaged n)) old new
  stops_missing {n = n} same never = record {
    faults = record {
      rose = λ fault. let wrong : ⊥ = cc fault in absurd wrong;
      calm = λ fine. same;
      errors = inr (inr (inr (n, refl)));
    };
    reopen = λ is. let wrong : ⊥ = cc is in absurd wrong;
    stops = λ known. absurd (never known);
  }

  -- ---- what lower calls say

  pub looks_stop : {T : Type 0} (answer : Result T Error) {new : StoreView D} → OnlyLooks d answer old new
      → StopsAs d (old.must_reopen ≡ false) answer old new
  looks_stop answer looks = record {
    faults = failing_on looks.faults moment_of_look refl;
    reopen = looks.reopen.0;
    stops = usable_stops answer looks.faults.errors looks.reopen.0;
  }

  pub moment_stops : {T : Type 0} (answer : Result T Error) {new : StoreView D} {base : ℕ}
      → FailsAs Fault OfMoment answer (d.failures old.disk) (d.failures new.disk)
      → (IsErrOf answer MustReopen → old.must_reopen ≡ true)
      → IfErr answer (λ e. d.honest old.disk → (start : Start) (deeds : List PastDeed) (desktop : Desktop)
      → KeepsAll d start deeds desktop old → start.base ≡ base → OfSteps e)
      → StopsAs d ((past : PastOf d old) × (past.start.base ≡ base)) answer old new
  moment_stops answer faults reopen stops = record {
    faults = faults;
    reopen = reopen;
    stops = IfErr-weaker answer _ _
        (λ e named known. named known.0.honest known.0.start known.0.deeds known.0.desktop known.0.keeps known.1) stops;
  }

  pub any_stops : {T : Type 0} (answer : Result T Error) {new : StoreView D} {k : ℕ}
      → FailsAs Fault OfMoment answer (d.failures old.disk) (d.failures new.disk)
      → (IsErrOf answer MustReopen → old.must_reopen ≡ true)
      → IfErr answer (λ e. d.honest old.disk → (start : Start) (deeds : List PastDeed) (desktop : Desktop)
      → (keeps : KeepsAll d start deeds desktop old) → LiesInPart d keeps → start.before ≤ k → OfSteps e)
      → StopsAs d ((past : PastOf d old) × LiesInPart d past.keeps × (past.start.before ≤ k)) answer old new
  any_stops answer faults reopen stops = record {
    faults = faults;
    reopen = reopen;
    stops = IfErr-weaker answer _ _
        (λ e named known. named known.0.honest known.0.start known.0.deeds known.0.desktop known.0.keeps known.1
        known.2) stops;
  }

  pub history_stops : {T : Type 0} (answer : Result T Error) {new : StoreView D}
      → FailsAs Fault OfUndo answer (d.failures old.disk) (d.failures new.disk)
      → (IsErrOf answer MustReopen → old.must_reopen ≡ true) → (d.honest old.disk → IfErr answer OfLook)
      → StopsAs d (d.honest old.disk × (old.must_reopen ≡ false)) answer old new
  history_stops answer faults reopen errors = record {
    faults = failing_on faults moment_of_undo refl;
    reopen = reopen;
    stops = honest_stops answer errors reopen;
  }
