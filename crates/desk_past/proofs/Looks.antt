-- Looks at a store, one after another. `d` is what is known of a disk.
use Rattle.std.proofs.Common.{◌≡◌, ◌<◌, ◌∙◌, ℕ, true, false, Ok, Err, inl, refl, sym, ap, subst}
use Rattle.std.specs.Prelude.{Bool, IsErrAnd, Result}
use Rattle.std.proofs.lemmas.Result.{err_from_is_err_and}
use Rattle.sector_disk.specs.declared.disk.Disk.{Ghosts}
use Rattle.desk_journal.specs.Errors.{Error, NoMemory}
use Rattle.desk_journal.specs.Looking.{OnlyLooks}
use Rattle.desk_journal.specs.Undoing.{IsLeft}
use Rattle.desk_journal.specs.View.{StoreView}
use Rattle.past_pages.specs.Reading.{IsOnlyReadFrom}
use Rattle.past_pages.proofs.StillReads.{read_twice}

-- what isn't true is false
never_true : (b : Bool) → (b ≡ true → ⊥) → b ≡ false
never_true true never = absurd (never refl)
never_true false never = refl

module _ {D : Type 0} (d : Ghosts D) where
  -- one look after another
  module _ {A T : Type 0} (value : A) (result : Result T Error) (old mid new : StoreView D)
      (first : OnlyLooks d (Ok value) old mid) (second : OnlyLooks d result mid new) where
    calm : d.failures mid.disk ≡ d.failures old.disk
    calm = first.faults.calm (λ wrong. absurd (cc wrong))

    pub looks_then : OnlyLooks d result old new
    looks_then = record {
      desktop = λ honest. second.desktop (first.disk.device.still honest) ∙ first.desktop honest;
      kept = second.kept ∙ first.kept;
      layout = second.layout ∙ first.layout;
      epoch = second.epoch ∙ first.epoch;
      events = second.events ∙ first.events;
      usable = second.usable ∙ first.usable;
      disk = read_twice d first.disk second.disk;
      reopen = (λ is. sym first.usable ∙ second.reopen.0 is, λ is. second.reopen.1 (first.usable ∙ is));
      faults = record {
        rose = λ fault. subst (λ (n : ℕ). n < d.failures new.disk) calm (second.faults.rose fault);
        calm = λ fine. second.faults.calm fine ∙ calm;
        errors = second.faults.errors;
      };
    }

  -- a look from which something follows
  pub looks_so : {A T : Type 0} (value : A) (other : T) (old new : StoreView D) → OnlyLooks d (Ok value) old new
      → OnlyLooks d (Ok other) old new
  looks_so value other old new looks = record {
    desktop = looks.desktop;
    kept = looks.kept;
    layout = looks.layout;
    epoch = looks.epoch;
    events = looks.events;
    usable = looks.usable;
    disk = looks.disk;
    reopen = (λ wrong. absurd (cc wrong), λ is. absurd (cc (looks.reopen.1 is)));
    faults = record {
      rose = λ wrong. absurd (cc wrong);
      calm = λ other. looks.faults.calm (λ wrong. absurd (cc wrong));
      errors = tt;
    };
  }

  -- and one behind which memory runs out
  pub looks_starved : {A T : Type 0} (value : A) (old new : StoreView D) → OnlyLooks d (Ok value) old new
      → OnlyLooks {T = T} d (Err NoMemory) old new
  looks_starved value old new looks = record {
    desktop = looks.desktop;
    kept = looks.kept;
    layout = looks.layout;
    epoch = looks.epoch;
    events = looks.events;
    usable = looks.usable;
    disk = looks.disk;
    reopen = (λ wrong. absurd (cc wrong), λ is. absurd (cc (looks.reopen.1 is)));
    faults = record {
      rose = λ wrong. absurd (cc wrong);
      calm = λ other. looks.faults.calm (λ wrong. absurd (cc wrong));
      errors = inl refl;
    };
  }

  -- one that fails
  pub looks_failed : {A T : Type 0} (error : Error) (old new : StoreView D) → OnlyLooks {T = A} d (Err error) old new
      → OnlyLooks {T = T} d (Err error) old new
  looks_failed error old new looks = record {
    desktop = looks.desktop;
    kept = looks.kept;
    layout = looks.layout;
    epoch = looks.epoch;
    events = looks.events;
    usable = looks.usable;
    disk = looks.disk;
    reopen = (λ is. looks.reopen.0 (cc is), λ is. cc (looks.reopen.1 is));
    faults = record {
      rose = λ is. looks.faults.rose (cc is);
      calm = λ fine. looks.faults.calm (λ is. fine (cc is));
      errors = looks.faults.errors;
    };
  }

  pub looks_passed : {A T : Type 0} (error : Error) (result : Result T Error) (old new : StoreView D)
      → result ≡ Err error
      → OnlyLooks {T = A} d (Err error) old new → OnlyLooks d result old new
  looks_passed {A = A} {T = T} error result old new is looks =
      subst (λ (r : Result T Error). OnlyLooks d r old new) (sym is) (looks_failed {A = A} {T = T} error old new looks)

  -- what a look leaves of a store in use
  pub only_read : {T : Type 0} (result : Result T Error) (old new : StoreView D) → old.must_reopen ≡ false
      → OnlyLooks d result old new → IsOnlyReadFrom d old new
  only_read result old new usable looks = record {
    left = record {
      desktop = looks.desktop;
      kept = looks.kept;
      layout = looks.layout;
      epoch = looks.epoch;
      events = looks.events;
      disk = looks.disk;
    };
    usable = looks.usable ∙ usable;
  }

  pub left_twice : {old mid new : StoreView D} → IsLeft d old mid → IsLeft d mid new → IsLeft d old new
  left_twice first second = record {
    desktop = λ honest. second.desktop (first.disk.device.still honest) ∙ first.desktop honest;
    kept = second.kept ∙ first.kept;
    layout = second.layout ∙ first.layout;
    epoch = second.epoch ∙ first.epoch;
    events = second.events ∙ first.events;
    disk = read_twice d first.disk second.disk;
  }

  -- ---- exits of calls that look

  -- a store at which a look succeeded is in use
  pub usable_before : {A : Type 0} {value : A} {old new : StoreView D} → OnlyLooks d (Ok value) old new
      → old.must_reopen ≡ false
  usable_before {old = old} looks = never_true old.must_reopen (λ is. cc (looks.reopen.1 is))

  pub usable_after : {A : Type 0} {value : A} {old new : StoreView D} → OnlyLooks d (Ok value) old new
      → new.must_reopen ≡ false
  usable_after looks = looks.usable ∙ usable_before looks

  -- what else is returned behind one look, or behind two
  pub looked : {A T : Type 0} {value : A} {other : T} {old new : StoreView D} → OnlyLooks d (Ok value) old new
      → OnlyLooks d (Ok other) old new
  looked {value = value} {other = other} {old = old} {new = new} looks = looks_so value other old new looks

  pub looked_on : {A T : Type 0} {value : A} {result : Result T Error} {old mid new : StoreView D}
      → OnlyLooks d (Ok value) old mid → OnlyLooks d result mid new → OnlyLooks d result old new
  looked_on {value = value} {result = result} {old = old} {mid = mid} {new = new} first second =
      looks_then value result old mid new first second

  pub looked_twice : {A B T : Type 0} {value : A} {more : B} {other : T} {old mid new : StoreView D}
      → OnlyLooks d (Ok value) old mid → OnlyLooks d (Ok more) mid new → OnlyLooks d (Ok other) old new
  looked_twice first second = looked (looked_on first second)

  -- a `?` passes its error on
  pub broken : {A T : Type 0} {answer : Result A Error} {result : Result T Error} {error : Error}
      {old new : StoreView D}
      → OnlyLooks d answer old new → answer ≡ Err error → IsErrAnd result (λ e. e ≡ error) → OnlyLooks d result old new
  broken {A = A} {result = result} {error = error} {old = old} {new = new} looks failed is =
      let p = err_from_is_err_and result is in
      looks_passed {A = A} error result old new (p.1 ∙ ap (λ e. Err e) p.2)
      (subst (λ r. OnlyLooks d r old new) failed looks)

  -- and one behind which memory runs out
  pub starved : {A T : Type 0} {value : A} {result : Result T Error} {old new : StoreView D}
      → OnlyLooks d (Ok value) old new → IsErrAnd result (λ e. e ≡ NoMemory) → OnlyLooks d result old new
  starved {T = T} {value = value} {result = result} {old = old} {new = new} looks is =
      let p = err_from_is_err_and result is in
      subst (λ (r : Result T Error). OnlyLooks d r old new) (sym (p.1 ∙ ap (λ e. Err e) p.2))
      (looks_starved value old new looks)
