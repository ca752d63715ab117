-- The status of the program after a sitting.
use Rattle.std.specs.Prelude.{ℕ, Bool, if◌then◌else◌}
use Rattle.terminal_sittings.specs.declared.ending.SittingEnd.{SittingEnd}
use Rattle.terminal_sittings.specs.declared.ending.SittingEnd.TheVariants.{Left, Closed, Input, TooLong, Output, Fault, Memory}

-- over a store in a file that has its name still
abbrev pub named_status : SittingEnd → ℕ
named_status Left = 0
named_status Closed = 0
named_status Input = 4
named_status TooLong = 4
named_status Output = 4
named_status Fault = 4
named_status Memory = 5

-- over a store in a file, which may have lost its name meanwhile
abbrev pub kept_status : Bool → SittingEnd → ℕ
kept_status gone ending = if gone then 4 else named_status ending

-- over a store in memory, whose disk fails for want of memory alone
abbrev pub lost_status : SittingEnd → ℕ
lost_status Left = 0
lost_status Closed = 0
lost_status Input = 4
lost_status TooLong = 4
lost_status Output = 4
lost_status Fault = 5
lost_status Memory = 5
