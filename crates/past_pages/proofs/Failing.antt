-- Failures that are counted, and what a look leaves. `d` is what is known of a disk.
use Rattle.std.proofs.Common.{◌≡◌, ◌<◌, ℕ, inl, inr, Result, Ok, Err, refl, sym, ◌∙◌, ap, subst, true, false}
use Rattle.std.specs.Prelude.{Bool, IfErr, is_err}
use Rattle.std.proofs.lemmas.Result.{IfErr-at_err}
use Rattle.std.proofs.lemmas.Bool.{false≢true}
use Rattle.sector_disk.specs.Faults.{FailsAs}
use Rattle.sector_disk.specs.declared.disk.Disk.{Ghosts}
use Rattle.store_layout.proofs.Bits.{true_or_false}
use Rattle.store_slots.specs.declared.error.Error.{Error}
use Rattle.store_slots.specs.declared.error.Error.TheVariants.{Fault, MustReopen}
use Rattle.store_slots.specs.Device.{IsOnlyRead}
use Rattle.store_slots.specs.Errors.{OfDesktop, OfLook}
use Rattle.desk_journal.specs.Looking.{OnlyLooks}
use Rattle.desk_journal.specs.View.{StoreView}
use Rattle.past_pages.specs.Reading.{IsOnlyReadFrom}
use Rattle.past_pages.proofs.StillReads.{nothing_written}

-- ---- failures that are counted

-- an answer whose errors are none of the device
pub calm_answer : {T : Type 0} (answer : Result T Error) {P Q : Error → Type 0} {old new : ℕ} → IfErr answer P
    → ((e : Error) → P e → Q e) → ((e : Error) → P e → e ≡ Fault → ⊥) → new ≡ old → FailsAs Fault Q answer old new
calm_answer (Ok x) errors wider never same = record {
  rose = λ fault. let wrong : ⊥ = cc fault in absurd wrong;
  calm = λ fine. same;
  errors = tt;
}
calm_answer (Err e) errors wider never same = record {
  rose = λ fault. absurd (never e errors (cc fault));
  calm = λ fine. same;
  errors = wider e errors;
}

-- an answer behind what counted none
pub failing_on : {T : Type 0} {answer : Result T Error} {P Q : Error → Type 0} {old mid new : ℕ}
    → FailsAs Fault P answer mid new → ((e : Error) → P e → Q e) → mid ≡ old → FailsAs Fault Q answer old new
failing_on {answer = Ok x} {new = new} fails wider same = record {
  rose = λ fault. subst (λ n. n < new) same (fails.rose fault);
  calm = λ fine. fails.calm fine ∙ same;
  errors = tt;
}
failing_on {answer = Err e} {new = new} fails wider same = record {
  rose = λ fault. subst (λ n. n < new) same (fails.rose fault);
  calm = λ fine. fails.calm fine ∙ same;
  errors = wider e fails.errors;
}

-- an error that is passed on
pub error_on : {T U : Type 0} {result : Result U Error} {e : Error} {P Q : Error → Type 0} {old mid new : ℕ}
    → FailsAs {T = T} Fault P (Err e) mid new → ((x : Error) → P x → Q x) → mid ≡ old → result ≡ Err e
    → FailsAs Fault Q result old new
error_on {U = U} {e = e} {Q = Q} {old = old} {new = new} fails wider same is =
    subst (λ r. FailsAs Fault Q r old new) (sym is) (record {
      rose = λ fault. subst (λ n. n < new) same (fails.rose (cc fault));
      calm = λ fine. fails.calm (λ fault. fine (cc fault)) ∙ same;
      errors = wider e fails.errors;
    })

-- what returned Ok counted none
pub none_failed : {T : Type 0} {x : T} {P : Error → Type 0} {old new : ℕ} → FailsAs {T = T} Fault P (Ok x) old new
    → new ≡ old
none_failed fails = fails.calm (λ fault. let wrong : ⊥ = cc fault in wrong)

-- ---- exits at which an error is passed on

pub error_from : {T U : Type 0} {answer : Result T Error} {result : Result U Error} {e : Error} {P Q : Error → Type 0}
    {old mid new : ℕ} → FailsAs Fault P answer mid new → ((x : Error) → P x → Q x) → mid ≡ old → answer ≡ Err e
    → result ≡ Err e → FailsAs Fault Q result old new
error_from {P = P} {mid = mid} {new = new} fails wider same failed is =
    error_on (subst (λ r. FailsAs Fault P r mid new) failed fails) wider same is

look_of_reads : (e : Error) → OfDesktop e → OfLook e
look_of_reads e (inl is) = inl is
look_of_reads e (inr is) = inr (inl is)

reads_no_reopen : (e : Error) → OfDesktop e → e ≡ MustReopen → ⊥
reads_no_reopen e (inl is) reopen = let wrong : ⊥ = cc (is, reopen) in wrong
reads_no_reopen e (inr is) reopen = let wrong : ⊥ = cc (is, reopen) in wrong

never_closed : {T : Type 0} (answer : Result T Error) → IfErr answer OfDesktop → answer ≡ Err MustReopen → ⊥
never_closed answer errors is = reads_no_reopen MustReopen (IfErr-at_err OfDesktop is errors) refl

-- whether a store is in use, as an answer tells
pub closed_of : {X : Type 0} (must : Bool) (answer : Result X Error) {y : X} → (must ≡ false → answer ≡ Ok y)
    → is_err answer ≡ true → must ≡ true
closed_of must answer value err = elim (true_or_false must) [
  | inl is ↦ is
  | inr is ↦ absurd (false≢true (sym (ap is_err (value is)) ∙ err))
]

module _ {D : Type 0} (d : Ghosts D) where
  pub read_none : (disk : D) → IsOnlyRead d disk disk
  read_none disk = record {
    device = record { as_large = refl; still = λ h. h; already = λ h. h };
    unwritten = λ honest. nothing_written (d.trail disk);
  }

  -- a look that finds that the store must be opened again, and one that reads nothing
  pub looks_closed : {T : Type 0} (store : StoreView D) → store.must_reopen ≡ true
      → OnlyLooks {T = T} d (Err MustReopen) store store
  looks_closed store must = record {
    desktop = λ honest. refl;
    kept = refl;
    layout = refl;
    epoch = refl;
    events = refl;
    usable = refl;
    disk = read_none store.disk;
    reopen = (λ is. must, λ is. refl);
    faults = calm_answer (Err MustReopen) {P = λ e. e ≡ MustReopen} refl (λ e is. inr (inr is))
        (λ e is fault. let wrong : ⊥ = cc (is, fault) in wrong) refl;
  }

  pub looks_none : {T : Type 0} (x : T) (store : StoreView D) → store.must_reopen ≡ false
      → OnlyLooks d (Ok x) store store
  looks_none x store usable = record {
    desktop = λ honest. refl;
    kept = refl;
    layout = refl;
    epoch = refl;
    events = refl;
    usable = refl;
    disk = read_none store.disk;
    reopen = (λ is. let wrong : ⊥ = cc is in absurd wrong, λ is. absurd (false≢true (sym usable ∙ is)));
    faults = record { rose = λ fault. let wrong : ⊥ = cc fault in absurd wrong; calm = λ fine. refl; errors = tt };
  }

  -- pages that were read of a store in use
  pub looks_read : {T : Type 0} (answer : Result T Error) {old new : StoreView D} → old.must_reopen ≡ false
      → IsOnlyReadFrom d old new → FailsAs Fault OfDesktop answer (d.failures old.disk) (d.failures new.disk)
      → OnlyLooks d answer old new
  looks_read answer usable still faults = record {
    desktop = still.left.desktop;
    kept = still.left.kept;
    layout = still.left.layout;
    epoch = still.left.epoch;
    events = still.left.events;
    usable = still.usable ∙ sym usable;
    disk = still.left.disk;
    reopen = (λ is. absurd (never_closed answer faults.errors is), λ is. absurd (false≢true (sym usable ∙ is)));
    faults = failing_on faults look_of_reads refl;
  }
