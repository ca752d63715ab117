-- A turn in which nothing is shown and heard: what was asked for beside the presses is done. `d` is what is known of a disk.
use Rattle.std.specs.Prelude.{◌≡◌, Result, OnOk, IfErr, Some, false}
use Rattle.sector_disk.specs.declared.disk.Disk.{Ghosts}
use Rattle.desk_journal.specs.Device.{IsSameDevice}
use Rattle.desk_journal.specs.Errors.{Error}
use Rattle.desk_journal.specs.View.{IsDurable}
use Rattle.desk_sitting.specs.Desk.{Desk}
use Rattle.desk_sitting.specs.Travels.{ComesBack, IsStuck, IsTravelled}
use Rattle.terminal_sittings.specs.declared.ending.SittingEnd.{SittingEnd}
use Rattle.desk_sitting.specs.declared.sitting.Travel.TheVariants.{Back}
use Rattle.terminal_sittings.specs.Endings.{sitting_end_of}
use Rattle.terminal_sittings.specs.Serving.{CountsTurn, IsUsableAt, TurnState, exchange_at}

-- nothing is shown and heard, and the keyboard is asked for nothing
pub record IsStill {D : Type 0} (old new : TurnState D) : Type 0 where
  pub parser : new.parser ≡ old.parser
  pub out : exchange_at new ≡ exchange_at old
  pub known : new.known ≡ old.known

module _ (desk : Desk) {D : Type 0} (d : Ghosts D) where
  -- a press was taken back, or an event done again
  pub record IsBetween (old new : TurnState D) : Type 0 where
    pub travelled : IsTravelled desk d old.sitting new.sitting old.store new.store
    pub device : IsSameDevice d old.store.disk new.store.disk
    pub still : IsStill old new

  -- it fails, and the sitting ends so
  pub record IsBrokenOff (end : SittingEnd) (old new : TurnState D) : Type 0 where
    pub error : Error
    pub ends : end ≡ sitting_end_of error
    pub stuck : IsStuck desk d error old.sitting old.store new.store
    pub still : IsStill old new

  -- All that such a turn promises that returns this.
  pub record TakesBetween {T : Type 0} (result : Result T SittingEnd) (old new : TurnState D)
      : Type 0 where
    pub goes_on : OnOk result (d.honest old.store.disk → IsDurable d old.store → IsBetween old new)
    pub stops : IfErr result (λ end. d.honest old.store.disk → IsDurable d old.store
        → IsBrokenOff end old new)
    pub told : OnOk result (old.sitting.travels ≡ Some Back
        → ComesBack d old.sitting new.sitting old.store new.store)
    pub usable : OnOk result (new.store.must_reopen ≡ false)
    pub still_usable : IfErr result (λ end. IsUsableAt end new.store)
    pub counts : CountsTurn result (d.failures old.store.disk) (d.failures new.store.disk)
    pub device : IsSameDevice d old.store.disk new.store.disk
