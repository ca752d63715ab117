-- The bytes of an operation, and the operation with which bytes begin.
--
-- Each kind has a fixed length, and numbers have a fixed number of digits: so no spelling begins another one.
use Rattle.std.specs.Prelude.{ℕ, ◌+◌, ◌-◌, ◌*◌, ◌/◌, ◌%◌, ◌<◌, ◌≤◌, ◌==◌, if◌then◌else◌, List, [], ◌∷◌, ◌++◌, codes}
use Rattle.std.specs.Prelude.{Option, Some, None, slice_index, drop}
use Rattle.screen_drawing.specs.declared.pen.Pen.{Pen}
use Rattle.screen_drawing.specs.declared.pen.Weight.{Weight}
use Rattle.screen_drawing.specs.declared.pen.Weight.TheVariants.{Regular, Bold, Faint}
use Rattle.screen_drawing.specs.declared.pen.Rule.{Rule}
use Rattle.screen_drawing.specs.declared.pen.Rule.TheVariants.{Plain, Under, Over}
use Rattle.screen_drawing.specs.declared.operation.Operation.{Operation}
use Rattle.screen_drawing.specs.declared.operation.Operation.TheVariants.{Hold, Release, Hide, Show, Ring, Go}
use Rattle.screen_drawing.specs.declared.operation.Operation.TheVariants.{Take, Put}
use Rattle.screen_drawing.specs.declared.operation.Operation.TheVariants.{Clear, Wipe}
use Rattle.screen_drawing.specs.Pen.{weight_code, slant_code, rule_code}

abbrev pub bell : ℕ
bell = 7

abbrev pub escape : ℕ
escape = 27

abbrev pub semicolon : ℕ
semicolon = 59

-- a number in two digits, and in three
abbrev pub two_digits : ℕ → List ℕ
two_digits n = (48 + n / 10) ∷ (48 + n % 10) ∷ []

abbrev pub three_digits : ℕ → List ℕ
three_digits n = (48 + n / 100) ∷ (48 + n / 10 % 10) ∷ (48 + n % 10) ∷ []

-- what begins by `ESC [`
abbrev pub control_sequence : List ℕ → List ℕ
control_sequence rest = escape ∷ 91 ∷ rest

abbrev pub spelled_pen : Pen → List ℕ
spelled_pen pen =
    codes "0;" ++ two_digits (weight_code pen.weight) ++ codes ";"
    ++ two_digits (slant_code pen.is_italic) ++ codes ";"
    ++ two_digits (rule_code pen.rule) ++ codes ";38;5;" ++ three_digits pen.ink ++ codes ";48;5;"
    ++ three_digits pen.paper ++ codes "m"

abbrev pub operation_bytes : Operation → List ℕ
operation_bytes Hold = control_sequence (codes "?2026h")
operation_bytes Release = control_sequence (codes "?2026l")
operation_bytes Hide = control_sequence (codes "?25l")
operation_bytes Show = control_sequence (codes "?25h")
operation_bytes Ring = bell ∷ []
operation_bytes (Go column row) =
    control_sequence (three_digits row ++ codes ";" ++ three_digits column ++ codes "H")
operation_bytes (Take pen) = control_sequence (spelled_pen pen)
operation_bytes (Put byte) = byte ∷ []
operation_bytes Clear = control_sequence (codes "K")
operation_bytes Wipe = control_sequence (codes "2J")

-- an operation that can be sent: a place of three digits, a byte that is printable
abbrev pub IsSendable : Operation → Type 0
IsSendable Hold = Unit {0}
IsSendable Release = Unit {0}
IsSendable Hide = Unit {0}
IsSendable Show = Unit {0}
IsSendable Ring = Unit {0}
IsSendable (Go column row) = (column < 256) × (row < 256)
IsSendable (Take pen) = Unit {0}
IsSendable (Put byte) = (32 ≤ byte) × (byte < 127)
IsSendable Clear = Unit {0}
IsSendable Wipe = Unit {0}

-- the number of two digits, and of three
abbrev pub number_of_two : ℕ → ℕ → ℕ
number_of_two a b = 10 * (a - 48) + (b - 48)

abbrev pub number_of_three : ℕ → ℕ → ℕ → ℕ
number_of_three a b c = 100 * (a - 48) + (10 * (b - 48) + (c - 48))

-- the number at a place of bytes
abbrev pub two_at : List ℕ → ℕ → ℕ
two_at bytes i = number_of_two (slice_index bytes i) (slice_index bytes (i + 1))

abbrev pub number_of_three_at : List ℕ → ℕ → ℕ
number_of_three_at bytes i = number_of_three (slice_index bytes i) (slice_index bytes (i + 1))
    (slice_index bytes (i + 2))

abbrev pub weight_told : ℕ → Weight
weight_told code = if code == 1 then Bold else (if code == 2 then Faint else Regular)

abbrev pub rule_told : ℕ → Rule
rule_told code = if code == 4 then Under else (if code == 53 then Over else Plain)

-- the pen with which bytes begin after `ESC [`
abbrev pub pen_told : List ℕ → Pen
pen_told bytes = record {
  ink = number_of_three_at bytes 16;
  paper = number_of_three_at bytes 25;
  weight = weight_told (two_at bytes 2);
  is_italic = two_at bytes 5 == 3;
  rule = rule_told (two_at bytes 8);
}

-- of bytes that follow `ESC [ ?`
abbrev pub private_told : List ℕ → Operation × List ℕ
private_told bytes =
    if slice_index bytes 1 == 48
    then (if slice_index bytes 4 == 104 then Hold else Release, drop 5 bytes)
    else (if slice_index bytes 2 == 104 then Show else Hide, drop 3 bytes)

-- of bytes that follow `ESC [`
abbrev pub sequence_told : List ℕ → Operation × List ℕ
sequence_told bytes =
    if slice_index bytes 0 == 75 then (Clear, drop 1 bytes)
    else (if slice_index bytes 0 == 63 then private_told (drop 1 bytes)
    else (if slice_index bytes 1 == 74 then (Wipe, drop 2 bytes)
    else (if slice_index bytes 1 == semicolon then (Take (pen_told bytes), drop 29 bytes)
    else (Go (number_of_three_at bytes 4) (number_of_three_at bytes 0), drop 8 bytes))))

-- the operation with which bytes begin, and the bytes after it
abbrev pub operation_told : List ℕ → Option (Operation × List ℕ)
operation_told [] = None
operation_told (b ∷ rest) =
    if b == escape then Some (sequence_told (drop 1 rest))
    else Some (if b == bell then Ring else Put b, rest)

-- the bytes of operations, one after another
abbrev pub spelled_all : List Operation → List ℕ
spelled_all [] = []
spelled_all (o ∷ os) = operation_bytes o ++ spelled_all os

abbrev pub AreSendable : List Operation → Type 0
AreSendable [] = Unit {0}
AreSendable (o ∷ os) = IsSendable o × AreSendable os
