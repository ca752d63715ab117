-- Why a sitting ends.
use Rattle.std.specs.Prelude.{⊤}
use Rattle.desk_journal.specs.Errors.{Error, NoMemory}
use Rattle.terminal_keyboard.specs.declared.keyboard.KeyboardEnd.{KeyboardEnd}
use Rattle.terminal_keyboard.specs.declared.keyboard.KeyboardEnd.TheVariants as keyboard
use Rattle.terminal_sittings.specs.declared.ending.SittingEnd.{SittingEnd}
use Rattle.terminal_sittings.specs.declared.ending.SittingEnd.TheVariants.{Left, Closed, Input, TooLong, Output, Fault}
use Rattle.terminal_sittings.specs.declared.ending.SittingEnd.TheVariants.{Memory}

-- where a call of the store fails
abbrev pub sitting_end_of : Error → SittingEnd
sitting_end_of NoMemory = Memory
sitting_end_of _ = Fault

-- where the keyboard tells no more
abbrev pub end_of_keyboard : KeyboardEnd → SittingEnd
end_of_keyboard keyboard.Closed = Closed
end_of_keyboard keyboard.Fault = Input

-- It ends by `Closed` and `Input` only where the keyboard has ended so.
abbrev pub EndsBy : (KeyboardEnd → Type 0) → SittingEnd → Type 0
EndsBy ended Left = ⊤
EndsBy ended Closed = ended keyboard.Closed
EndsBy ended Input = ended keyboard.Fault
EndsBy ended TooLong = ⊤
EndsBy ended Output = ⊤
EndsBy ended Fault = ⊤
EndsBy ended Memory = ⊤

-- before anything is heard the keyboard is no cause
abbrev pub IsOfNoKeyboard : SittingEnd → Type 0
IsOfNoKeyboard end = EndsBy (λ why. ⊥) end
