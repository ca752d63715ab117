-- What is heard at one time.
use Rattle.std.specs.Prelude.{◌≡◌, ◌≤◌, ◌<◌, ◌-◌, ◌^◌, ◌⊎◌, ℕ, suc, Bool, true, false, ◌==◌, ◌||◌, ◌&&◌}
use Rattle.std.specs.Prelude.{if◌then◌else◌, List, [], ◌∷◌, ◌++◌, length}
use Rattle.std.specs.Prelude.{Option, Some, None, Result, Ok, Err, ⊤}
use Rattle.std.specs.Io.KnownBytes.{IsAtEnd}
use Rattle.host_files.specs.declared.HostFault.{HostFault}
use Rattle.host_files.specs.Faults.{fault_number}
use Rattle.terminal_presses.specs.declared.press.Heard.{Heard}
use Rattle.terminal_presses.specs.declared.press.Heard.TheVariants.{Byte, Quiet}
use Rattle.terminal_keyboard.specs.declared.completion.Completion.{Completion}
use Rattle.terminal_keyboard.specs.declared.keyboard.KeyboardEnd.{KeyboardEnd}
use Rattle.terminal_keyboard.specs.declared.keyboard.KeyboardEnd.TheVariants.{Closed, Fault}
use Rattle.terminal_keyboard.specs.declared.terminal.ReadCounts.{ReadCounts}

-- the bytes of what is heard
abbrev pub heard_bytes : List Heard → List ℕ
heard_bytes [] = []
heard_bytes (Byte b ∷ more) = b ∷ heard_bytes more
heard_bytes (Quiet ∷ more) = heard_bytes more

-- whether it begins with a quiet while
abbrev pub is_quiet : List Heard → Bool
is_quiet [] = false
is_quiet (Byte b ∷ more) = false
is_quiet (Quiet ∷ more) = true

-- a carriage return or a line feed, with which a line ends, and the name of a host file that is typed; a tabulator, by which
-- it is asked how that goes on; and the bytes of Ctrl-Y and Ctrl-Z, and behind an escape byte that of Alt-Z
abbrev pub is_line_end : Bool → Heard → Bool
is_line_end after_escape (Byte b) =
    (b == 13) || (b == 10) || (b == 9) || (b == 25) || (b == 26) || (after_escape && (b == 122))
is_line_end after_escape Quiet = false

abbrev pub is_escape : Heard → Bool
is_escape (Byte b) = b == 27
is_escape Quiet = false

-- how much is heard to the end of the first line, and with it
unfoldable pub line_from : Bool → List Heard → ℕ
line_from after_escape [] = 0
line_from after_escape (heard ∷ more) =
    suc (if is_line_end after_escape heard then 0 else line_from (is_escape heard) more)

abbrev pub line_length : List Heard → ℕ
line_length heard = line_from false heard

-- no line ends in it but at its end
abbrev pub IsWithinLine : List Heard → Type 0
IsWithinLine heard = line_length heard ≡ length heard

-- what is kept for later, if anything is
abbrev pub kept_for_later : Option (List Heard) → List Heard
kept_for_later None = []
kept_for_later (Some heard) = heard

-- what is answered where a name is asked for, as a number: its text will be heard, or why it won't be
abbrev pub answer_number : Result ⊤ HostFault → ℕ
answer_number (Ok done) = 0
answer_number (Err why) = fault_number why

-- a name that is asked for, and behind it what is answered
abbrev pub asked_for : List ℕ → Result ⊤ HostFault → List ℕ
asked_for name answer = name ++ answer_number answer ∷ []

-- a name of which it is asked how it goes on, and behind it what is answered
abbrev pub asked_rest : List ℕ → Completion → List ℕ
asked_rest name told = name ++ told.rest ++ told.count ∷ []

-- A reader, with these bytes left, has come to this end: it gives no more, and the host says that it is no terminal; or a
-- read has failed. After as many reads as can be counted that gave nothing to tell it counts as failed too.
abbrev pub HasEnded : Option (List ℕ) → ReadCounts → KeyboardEnd → Type 0
HasEnded left counts Closed = IsAtEnd left × (0 < counts.foreign)
HasEnded left counts Fault = (0 < counts.failed) ⊎ (2 ^ 64 - 1 ≤ counts.idle)
