-- Errors of what is worked out in memory, and the failures that are counted then.
use Rattle.std.proofs.Common.{◌≡◌, ◌∙◌, ℕ, inl, inr, Result, Ok, Err, refl, sym, ap, subst, true, false}
use Rattle.std.specs.Prelude.{IfErr, OnOk, replicate}
use Rattle.std.proofs.lemmas.Result.{IfErr-at_err}
use Rattle.sector_disk.specs.declared.disk.Disk.{Ghosts}
use Rattle.sector_disk.specs.declared.disk.TheConstants.{SECTOR_BYTES}
use Rattle.sector_disk.specs.Memory.{zeros}
use Rattle.sector_disk.specs.Faults.{FailsAs}
use Rattle.sector_disk.specs.Trail.{Content}
use Rattle.store_layout.specs.Finding.{FindingLaw, IsDamagedAt, IsForeign}
use Rattle.store_layout.specs.Meaning.{Standing, Stands}
use Rattle.store_slots.specs.declared.error.Error.{Error}
use Rattle.store_slots.specs.declared.error.Error.TheVariants.{Damaged, Fault, MustReopen, NoMemory, NotAStore}
use Rattle.store_slots.specs.Errors.{OfDesktop, OfLook, OfOpen, OfPost}
use Rattle.store_slots.proofs.TakingBack.{stops_there}
use Rattle.store_layout.proofs.Bits.{true_or_false}
use Rattle.desk_journal.specs.Looking.{OnlyLooks}
use Rattle.desk_journal.specs.Undoing.{IsLeft, OfUndo}
use Rattle.desk_journal.specs.View.{StoreView}
use Rattle.past_pages.proofs.Failing.{calm_answer, error_from, looks_closed, looks_none, read_none}
use Rattle.desk_past.specs.Keeping.{UsesDevice}
use Rattle.desk_past.specs.Errors.{OfDoing, OfFound, OfGoingBack, OfLaying, OfMoment, OfSteps, in_memory}

-- a sector that was never written
pub zeros_are : zeros ≡ replicate SECTOR_BYTES 0
unfolding zeros
zeros_are = refl

-- ---- what an error of a store in memory is

pub of_post : (e : Error) → OfPost e → OfDoing (in_memory e)
of_post e (inl is) = inl (ap in_memory is)
of_post e (inr (inl is)) = inl (ap in_memory is)
of_post e (inr (inr (inl is))) = inl (ap in_memory is)
of_post e (inr (inr (inr is))) = inr (ap in_memory is)

pub of_look : (e : Error) → OfLook e → in_memory e ≡ NoMemory
of_look e (inl is) = ap in_memory is
of_look e (inr (inl is)) = ap in_memory is
of_look e (inr (inr is)) = ap in_memory is

pub of_desktop : (e : Error) → OfDesktop e → in_memory e ≡ NoMemory
of_desktop e (inl is) = ap in_memory is
of_desktop e (inr is) = ap in_memory is

pub of_open : (e : Error) → OfOpen e → OfFound (in_memory e)
of_open e (inl (inl is)) = inl (ap in_memory is)
of_open e (inl (inr (inl is))) = inl (ap in_memory is)
of_open e (inl (inr (inr is))) = inr (inl (ap in_memory is))
of_open e (inr (n, is)) = inr (inr (n, ap in_memory is))

pub of_undo : (e : Error) → OfUndo e → OfFound (in_memory e)
of_undo e (inl look) = inl (of_look e look)
of_undo e (inr opening) = of_open e opening

-- where a store stands one is found
pub of_standing : (size : ℕ) (c : Content) (s : Standing) → FindingLaw → Stands size c s → (e : Error) → OfOpen e
    → (e ≡ NotAStore → IsForeign size c) → ((n : ℕ) → e ≡ Damaged n → IsDamagedAt size c n) → OfDoing (in_memory e)
of_standing size c s law stands e opening foreign damaged =
    inl (of_desktop e (stops_there size c s law stands e opening foreign damaged))

-- ---- from less to more

pub steps_of_reads : (e : Error) → OfDesktop e → OfSteps e
steps_of_reads e (inl is) = inl is
steps_of_reads e (inr is) = inr (inl is)

pub steps_of_doing : (e : Error) → OfDoing e → OfSteps e
steps_of_doing e (inl is) = inl is
steps_of_doing e (inr is) = inr (inr is)

pub laying_of_reads : (e : Error) → OfDesktop e → OfLaying e
laying_of_reads e is = inl (steps_of_reads e is)

pub laying_of_doing : (e : Error) → OfDoing e → OfLaying e
laying_of_doing e is = inl (steps_of_doing e is)

pub laying_of_steps : (e : Error) → OfSteps e → OfLaying e
laying_of_steps e is = inl is

pub laying_of_found : (e : Error) → OfFound e → OfLaying e
laying_of_found e (inl is) = inl (inl is)
laying_of_found e (inr none) = inr none

pub laying_of_back : (e : Error) → OfGoingBack e → OfLaying e
laying_of_back e (inl done) = laying_of_doing e done
laying_of_back e (inr found) = laying_of_found e found

pub moment_of_laying : (e : Error) → OfLaying e → OfMoment e
moment_of_laying e is = inr is

pub moment_of_doing : (e : Error) → OfDoing e → OfMoment e
moment_of_doing e is = inr (laying_of_doing e is)

pub moment_of_look : (e : Error) → OfLook e → OfMoment e
moment_of_look e (inl is) = inr (inl (inl is))
moment_of_look e (inr (inl is)) = inr (inl (inr (inl is)))
moment_of_look e (inr (inr is)) = inl is

-- ---- in memory no disk fails, and no store need be opened again

pub doing_no_fault : (e : Error) → OfDoing e → e ≡ Fault → ⊥
doing_no_fault e (inl is) fault = let wrong : ⊥ = cc (is, fault) in wrong
doing_no_fault e (inr is) fault = let wrong : ⊥ = cc (is, fault) in wrong

pub found_no_fault : (e : Error) → OfFound e → e ≡ Fault → ⊥
found_no_fault e (inl is) fault = let wrong : ⊥ = cc (is, fault) in wrong
found_no_fault e (inr (inl is)) fault = let wrong : ⊥ = cc (is, fault) in wrong
found_no_fault e (inr (inr (n, is))) fault = let wrong : ⊥ = cc (is, fault) in wrong

pub back_no_fault : (e : Error) → OfGoingBack e → e ≡ Fault → ⊥
back_no_fault e (inl done) = doing_no_fault e done
back_no_fault e (inr found) = found_no_fault e found

pub laying_no_reopen : (e : Error) → OfLaying e → e ≡ MustReopen → ⊥
laying_no_reopen e (inl (inl is)) reopen = let wrong : ⊥ = cc (is, reopen) in wrong
laying_no_reopen e (inl (inr (inl is))) reopen = let wrong : ⊥ = cc (is, reopen) in wrong
laying_no_reopen e (inl (inr (inr is))) reopen = let wrong : ⊥ = cc (is, reopen) in wrong
laying_no_reopen e (inr (inl is)) reopen = let wrong : ⊥ = cc (is, reopen) in wrong
laying_no_reopen e (inr (inr (n, is))) reopen = let wrong : ⊥ = cc (is, reopen) in wrong

-- ---- failures that are counted

-- an error that is none of the device, passed on
pub error_calm : {U : Type 0} {result : Result U Error} {e : Error} {P Q : Error → Type 0} {old new : ℕ} → P e
    → ((x : Error) → P x → Q x) → ((x : Error) → P x → x ≡ Fault → ⊥) → new ≡ old → result ≡ Err e
    → FailsAs Fault Q result old new
error_calm {e = e} {P = P} {Q = Q} {old = old} {new = new} has wider never same is =
    subst (λ r. FailsAs Fault Q r old new) (sym is)
    (calm_answer (Err e) {P = P} has wider never same)

-- what counted none
pub fails_none : {T : Type 0} {x : T} {Q : Error → Type 0} {old new : ℕ} → new ≡ old
    → FailsAs {T = T} Fault Q (Ok x) old new
fails_none same = record {
  rose = λ fault. let wrong : ⊥ = cc fault in absurd wrong;
  calm = λ fine. same;
  errors = tt;
}

-- ---- exits at which an error is passed on

pub calm_from : {T U : Type 0} {answer : Result T Error} {result : Result U Error} {e : Error} {P Q : Error → Type 0}
    {old new : ℕ} → IfErr answer P → ((x : Error) → P x → Q x) → ((x : Error) → P x → x ≡ Fault → ⊥) → new ≡ old
    → answer ≡ Err e → result ≡ Err e → FailsAs Fault Q result old new
calm_from {P = P} errors wider never same failed is = error_calm (IfErr-at_err P failed errors) wider never same is

pub stop_from : {T U : Type 0} {answer : Result T Error} {result : Result U Error} {e : Error} {P Q : Error → Type 0}
    → IfErr answer P → ((x : Error) → P x → Q x) → answer ≡ Err e → result ≡ Err e → IfErr result Q
stop_from {e = e} {P = P} {Q = Q} errors wider failed is =
    subst (λ r. IfErr r Q) (sym is) (wider e (IfErr-at_err P failed errors))

pub stop_at : (Q : Error → Type 0) {U : Type 0} {result : Result U Error} {e : Error} → Q e → result ≡ Err e
    → IfErr result Q
stop_at Q has is = subst (λ r. IfErr r Q) (sym is) has

-- what is known whatever was returned
pub whatever : {T : Type 0} (answer : Result T Error) {P : Type 0} → P → OnOk answer P
whatever (Ok x) p = p
whatever (Err e) p = tt

pub steps_of_look : (e : Error) → OfLook e → (e ≡ MustReopen → ⊥) → OfSteps e
steps_of_look e (inl is) usable = inl is
steps_of_look e (inr (inl is)) usable = inr (inl is)
steps_of_look e (inr (inr is)) usable = absurd (usable is)

pub never_reopened : {T : Type 0} (answer : Result T Error) → IfErr answer OfLaying → answer ≡ Err MustReopen → ⊥
never_reopened answer errors is = laying_no_reopen MustReopen (IfErr-at_err OfLaying is errors) refl

module _ {D : Type 0} (d : Ghosts D) where
  pub left_none : (store : StoreView D) → IsLeft d store store
  left_none store = record {
    desktop = λ honest. refl;
    kept = refl;
    layout = refl;
    epoch = refl;
    events = refl;
    disk = read_none d store.disk;
  }

  pub left_looked : {T : Type 0} {result : Result T Error} {old new : StoreView D} → OnlyLooks d result old new
      → IsLeft d old new
  left_looked look = record {
    desktop = look.desktop;
    kept = look.kept;
    layout = look.layout;
    epoch = look.epoch;
    events = look.events;
    disk = look.disk;
  }

  -- an undo that finds that the store must be opened again
  pub undo_refused : {T U : Type 0} {told : Result U Error} {x : U} {e : Error} {answer : Result T Error}
      (store : StoreView D) → (store.must_reopen ≡ false → told ≡ Ok x)
      → (store.must_reopen ≡ true → told ≡ Err MustReopen)
      → told ≡ Err e → answer ≡ Err e → UsesDevice d OfUndo answer store store
  undo_refused {T = T} {e = e} {answer = answer} store value closed failed is = elim (true_or_false store.must_reopen) [
    | inl must ↦ let looks = looks_closed d {T = T} store must in
        let e_is : e ≡ MustReopen = cc (failed, closed must) in record {
          same = looks.disk.device;
          faults = error_from looks.faults (λ e look. inl look) refl refl (is ∙ ap (λ x. Err x) e_is);
        }
    | inr usable ↦ absurd (let wrong : ⊥ = cc (failed, value usable) in wrong)
  ]

  -- one that takes nothing back
  pub undo_none : {T : Type 0} (x : T) (store : StoreView D) → store.must_reopen ≡ false
      → UsesDevice d OfUndo (Ok x) store store
  undo_none x store usable = let looks = looks_none d x store usable in
      record { same = looks.disk.device; faults = fails_none refl }
