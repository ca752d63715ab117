-- A turn in which nothing is shown and heard.
use Rattle.std.proofs.Common.{◌≡◌, Bool, true, false, is_none, Option, Some, None, Ok, Err, refl, sym, subst}
use Rattle.std.proofs.lemmas.Bool.{true≢false, false≢true}
use Rattle.std.specs.Prelude.{Result, is_some, not}
use Rattle.sector_disk.specs.declared.disk.Disk.{Ghosts}
use Rattle.desk_journal.specs.Errors.{Error}
use Rattle.desk_sitting.specs.Travels.{Travels}
use Rattle.terminal_sittings.specs.declared.ending.SittingEnd.{SittingEnd}
use Rattle.terminal_sittings.specs.Endings.{sitting_end_of}
use Rattle.terminal_sittings.specs.Serving.{TurnState}
use Rattle.terminal_sittings.specs.Travelling.{IsStill, TakesBetween}
use Rattle.terminal_sittings.proofs.Turning.{calm_presses, counts_presses, unusable}
use Rattle.desk_sitting.specs.TheDesk.{the_desk}

-- whether there is none is the opposite of whether there is one
pub none_so : {A : Type 0} (o : Option A) (is : Bool) → is_some o ≡ not is → is_none o ≡ is
none_so None true opposite = refl
none_so None false opposite = absurd (false≢true opposite)
none_so (Some x) true opposite = absurd (true≢false opposite)
none_so (Some x) false opposite = refl

module _ {D : Type 0} (d : Ghosts D) (old new : TurnState D) (still : IsStill old new) where
  pub between : {T U : Type 0} (value : T) (x : U)
      → Travels the_desk d (Ok x) old.sitting new.sitting old.store new.store → TakesBetween the_desk d (Ok value) old new
  between value x travels = record {
    goes_on = λ honest durable. record {
      travelled = travels.done honest durable;
      device = travels.device;
      still = still;
    };
    stops = tt;
    told = travels.told;
    usable = travels.usable;
    still_usable = tt;
    counts = calm_presses x (d.failures old.store.disk) (d.failures old.store.disk) (d.failures new.store.disk) refl
        travels.faults;
    device = travels.device;
  }

  pub broken_off : {T U : Type 0} (result : Result T SittingEnd) (error : Error) → result ≡ Err (sitting_end_of error)
      → Travels the_desk d {T = U} (Err error) old.sitting new.sitting old.store new.store → TakesBetween the_desk d result old new
  broken_off result error is travels = subst (λ r. TakesBetween the_desk d r old new) (sym is) (record {
    goes_on = tt;
    stops = λ honest durable. record {
      error = error;
      ends = refl;
      stuck = travels.stuck honest durable;
      still = still;
    };
    told = tt;
    usable = tt;
    still_usable = unusable error new.store travels.faults.errors;
    counts = counts_presses error (d.failures old.store.disk) (d.failures old.store.disk) (d.failures new.store.disk)
        refl travels.faults;
    device = travels.device;
  })
