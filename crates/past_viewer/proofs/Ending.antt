-- How a look at a past ends, and what of that a writer is the cause of.
use Rattle.std.proofs.Common.{◌≡◌, ◌≢◌, ◌∙◌, ◌<◌, ℕ, Bool, Ok, Err, false, refl, sym, subst}
use Rattle.std.specs.Prelude.{IfErr, MatchResult, Result}
use Rattle.byte_streams.specs.Counting.{RisesWhere}
use Rattle.terminal_keyboard.specs.declared.keyboard.KeyboardEnd.{KeyboardEnd}
use Rattle.terminal_keyboard.specs.declared.keyboard.KeyboardEnd.TheVariants as keyboard
use Rattle.desk_journal.specs.Errors.{Error, NotAStore, Damaged, TooSmall, Worn, NoMemory, MustReopen}
use Rattle.desk_journal.specs.Errors.{Fault as DiskFault}
use Rattle.past_viewer.specs.declared.viewer.ViewEnd.{ViewEnd}
use Rattle.past_viewer.specs.declared.viewer.ViewEnd.TheVariants.{Closed, Input, TooLong, Output, Fault, Memory}
use Rattle.past_viewer.specs.Viewing.{CountsViewOutput, EndsViewBy, IsOfStore, heard_end, view_end_of}

-- ---- what the keyboard is the cause of

pub not_of_keyboard : (ended : KeyboardEnd → Type 0) (end : ViewEnd) → EndsViewBy (λ why. ⊥) end → EndsViewBy ended end
not_of_keyboard ended Closed is = absurd is
not_of_keyboard ended Input is = absurd is
not_of_keyboard ended TooLong is = tt
not_of_keyboard ended Output is = tt
not_of_keyboard ended Fault is = tt
not_of_keyboard ended Memory is = tt

pub of_keyboard : (ended : KeyboardEnd → Type 0) (why : KeyboardEnd) → ended why → EndsViewBy ended (heard_end why)
of_keyboard ended keyboard.Closed is = is
of_keyboard ended keyboard.Fault is = is

-- ---- what the writer is the cause of

fault_other : Fault ≢ Output
fault_other = λ is. cc

memory_other : Memory ≢ Output
memory_other = λ is. cc

closed_other : Closed ≢ Output
closed_other = λ is. cc

input_other : Input ≢ Output
input_other = λ is. cc

pub too_long_other : TooLong ≢ Output
too_long_other = λ is. cc

pub keyboard_other : (why : KeyboardEnd) → heard_end why ≢ Output
keyboard_other keyboard.Closed = closed_other
keyboard_other keyboard.Fault = input_other

pub of_memory_alone : IsOfStore Memory
of_memory_alone = (tt, memory_other)

pub of_store : (error : Error) → IsOfStore (view_end_of error)
of_store NotAStore = (tt, fault_other)
of_store (Damaged sector) = (tt, fault_other)
of_store TooSmall = (tt, fault_other)
of_store Worn = (tt, fault_other)
of_store DiskFault = (tt, fault_other)
of_store NoMemory = (tt, memory_other)
of_store MustReopen = (tt, fault_other)

-- ---- failures of a writer

-- it ends, and the writer isn't the cause
pub output_calm : (end : ViewEnd) (failed failed' : ℕ) → end ≢ Output → failed' ≡ failed
    → RisesWhere (end ≡ Output) failed failed'
output_calm end failed failed' other same = record { rose = λ is. absurd (other is); calm = λ _. same }

-- it is
pub output_rose : (end : ViewEnd) (failed failed' : ℕ) → end ≡ Output → failed < failed'
    → RisesWhere (end ≡ Output) failed failed'
output_rose end failed failed' is rose = record { rose = λ _. rose; calm = λ other. absurd (other is) }

-- nothing is sent
pub output_unsent : {T : Type 0} (result : Result T ViewEnd) (failed : ℕ) → IfErr result IsOfStore
    → CountsViewOutput result failed failed
output_unsent (Ok value) failed of = refl
output_unsent (Err end) failed of = output_calm end failed failed of.1 refl

-- nothing failed before
pub output_behind : {T : Type 0} (result : Result T ViewEnd) (first failed failed' : ℕ) → failed ≡ first
    → CountsViewOutput result failed failed' → CountsViewOutput result first failed'
output_behind (Ok value) first failed failed' same counts = counts ∙ same
output_behind (Err end) first failed failed' same counts =
    subst (λ n. RisesWhere (end ≡ Output) n failed') same counts

pub rises_behind : (end : ViewEnd) (first failed failed' : ℕ) → failed ≡ first → RisesWhere (end ≡ Output) failed failed'
    → RisesWhere (end ≡ Output) first failed'
rises_behind end first failed failed' same rises = subst (λ n. RisesWhere (end ≡ Output) n failed') same rises

-- ---- whether the store must be opened again

pub in_use : {T : Type 0} (result : Result T ViewEnd) (must : Bool) → must ≡ false
    → MatchResult result (λ _. must ≡ false) (λ end. end ≢ Fault → end ≢ Memory → must ≡ false)
in_use (Ok value) must usable = usable
in_use (Err end) must usable = λ _ _. usable

-- a call of the store failed
pub not_in_use : {T : Type 0} {result : Result T ViewEnd} (error : Error) (must : Bool) → result ≡ Err (view_end_of error)
    → MatchResult result (λ _. must ≡ false) (λ end. end ≢ Fault → end ≢ Memory → must ≡ false)
not_in_use {T = T} error must is =
    subst (λ (r : Result T ViewEnd). MatchResult r (λ _. must ≡ false) (λ end. end ≢ Fault → end ≢ Memory → must ≡ false))
    (sym is) (fails error) where
      fails : (e : Error) → view_end_of e ≢ Fault → view_end_of e ≢ Memory → must ≡ false
      fails NotAStore = λ fault memory. absurd (fault refl)
      fails (Damaged sector) = λ fault memory. absurd (fault refl)
      fails TooSmall = λ fault memory. absurd (fault refl)
      fails Worn = λ fault memory. absurd (fault refl)
      fails DiskFault = λ fault memory. absurd (fault refl)
      fails NoMemory = λ fault memory. absurd (memory refl)
      fails MustReopen = λ fault memory. absurd (fault refl)
