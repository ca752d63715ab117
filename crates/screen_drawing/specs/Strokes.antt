-- How colours, places and characters are spelled in a drawing.
use Rattle.std.specs.Prelude.{ℕ, ◌+◌, ◌-◌, ◌*◌, ◌/◌, ◌%◌, ◌==◌, nat_le, if◌then◌else◌, List, [], ◌∷◌, ◌++◌}
use Rattle.std.specs.Prelude.{codes}
use denote.Bor.{Bor}
use Rattle.std.specs.List.{flat_map}
use Rattle.byte_streams.specs.Digits.{hex_digit}

-- the width and the height of a cell, how far below its upper edge its characters stand, and the width of a caret, in
-- units of the drawing
abbrev pub cell_width : ℕ
cell_width = 9

abbrev pub cell_height : ℕ
cell_height = 19

abbrev pub baseline : ℕ
baseline = 14

abbrev pub caret_width : ℕ
caret_width = 2

-- pieces, one after another
abbrev pub joined_pieces : List (Bor (List ℕ)) → List ℕ
joined_pieces pieces = flat_map (λ piece. piece.now) pieces

-- of the terminal's 256 colours those from 232 on are greys. Those before them, from 16 on, are a cube of six steps of
-- red, six of green and six of blue, of which a step of blue is 1, one of green 6 and one of red 36. (No pen has one of
-- the first sixteen.)
abbrev pub step_strength : ℕ → ℕ
step_strength step = if step == 0 then 0 else 55 + 40 * step

-- how strong the part of a colour is of which a step is this
abbrev pub strength : ℕ → ℕ → ℕ
strength one_step colour =
    if nat_le 232 colour then 8 + 10 * (colour - 232)
    else step_strength ((colour - 16) / one_step % 6)

abbrev pub colour_text : ℕ → ℕ → ℕ → List ℕ
colour_text red green blue =
    codes "#" ++ (hex_digit (red / 16) ∷ hex_digit (red % 16) ∷ hex_digit (green / 16)
    ∷ hex_digit (green % 16)
    ∷ hex_digit (blue / 16) ∷ hex_digit (blue % 16) ∷ [])

-- a colour of the terminal as a number sign and two hexadecimal digits for each of red, green and blue
unfoldable pub colour_code : ℕ → List ℕ
colour_code colour = colour_text (strength 36 colour) (strength 6 colour) (strength 1 colour)

-- a character of a text
unfoldable pub escaped_byte : ℕ → List ℕ
escaped_byte byte =
    if byte == 38 then codes "&amp;"
    else (if byte == 60 then codes "&lt;" else (if byte == 62 then codes "&gt;" else byte ∷ []))
