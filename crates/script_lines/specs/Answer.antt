-- The lines of an answer.
use Rattle.std.specs.Prelude.{ℕ, ◌/◌, ◌%◌, Bool, ◌==◌, ◌&&◌, not, if◌then◌else◌, List, [], ◌∷◌, ◌++◌}
use Rattle.std.specs.Prelude.{Option, Some, None, codes}
use Rattle.std.specs.List.{flat_map}
use Rattle.std.specs.Fmt.{decimal, signed_decimal}
use Rattle.std.specs.Ordering.{int_eq}
use Rattle.byte_streams.specs.Digits.{hex_digit}
use Rattle.piece_ring.specs.declared.piece.Look.{Look}
use Rattle.piece_ring.specs.Text.{Text}
use Rattle.desktop_definitions.specs.declared.reply.Reply.{Reply}
use Rattle.desktop_definitions.specs.declared.reply.Reply.TheVariants.{Done, No}
use Rattle.desktop_definitions.specs.declared.entry.Entry.{Entry}
use Rattle.desktop_definitions.specs.declared.entry.Entry.TheVariants.{File, Viewer, Over, Written}
use Rattle.screen_pictures.specs.Bytes.{line_feed, is_printable}
use Rattle.screen_pictures.specs.Printed.{ended_line}

abbrev pub reply_line : Reply → List ℕ
reply_line Done = ended_line (codes "ok")
reply_line (No code) = ended_line (codes "no " ++ decimal code)

abbrev pub end_line : List ℕ
end_line = ended_line (codes "end")

-- a byte from the space to the tilde but the percent sign as itself, any other as a percent sign and two digits
abbrev pub answer_byte : ℕ → List ℕ
answer_byte b =
    if is_printable b && not (b == 37) then b ∷ []
    else 37 ∷ hex_digit (b / 16) ∷ hex_digit (b % 16) ∷ []

abbrev pub escaped_answer : List ℕ → List ℕ
escaped_answer bytes = flat_map answer_byte bytes

-- the two looks are one
abbrev pub is_same_look : Look → Look → Bool
is_same_look a b = (a.font == b.font) && ((a.colour == b.colour) && int_eq a.voff b.voff)

-- font, colour and offset, each with a space after it
abbrev pub look_words : Look → List ℕ
look_words look = decimal look.font ++ 32 ∷ decimal look.colour ++ 32 ∷ signed_decimal look.voff
    ++ 32 ∷ []

-- What follows a character in this look, where these come behind it: the next one in the same line, if it is in the same
-- look, or else in a line of its own, behind the words of its look.
abbrev pub behind_look : Look → Text ℕ → List ℕ
behind_look look [] = line_feed ∷ end_line
behind_look look (c ∷ text) = (if is_same_look look c.1 then [] else line_feed ∷ look_words c.1)
    ++ answer_byte c.0 ++ behind_look c.1 text

-- A file's text: a line for each longest stretch of one look, and `end`. Or that there is no such file.
abbrev pub show_lines : Option (Text ℕ) → List ℕ
show_lines None = reply_line (No 5)
show_lines (Some []) = end_line
show_lines (Some (c ∷ text)) = look_words c.1 ++ answer_byte c.0 ++ behind_look c.1 text

abbrev pub entry_line : Entry → List ℕ
entry_line (File name len) = ended_line (codes "file " ++ name ++ 32 ∷ decimal len)
entry_line (Viewer x bottom top name len) =
    ended_line (codes "viewer " ++ decimal x ++ 32 ∷ decimal bottom
    ++ 32 ∷ decimal top ++ 32 ∷ escaped_answer name ++ 32 ∷ decimal len)
entry_line (Over x depth) = ended_line (codes "over " ++ decimal x ++ 32 ∷ decimal depth)
entry_line (Written n) = ended_line (codes "written " ++ decimal n)

abbrev pub list_lines : List Entry → List ℕ
list_lines entries = flat_map entry_line entries ++ end_line
