-- A document as HTML: its characters one after another, each in its look.
use Rattle.std.specs.Prelude.{ℕ, ℤ, Bool, ◌==◌, ◌&&◌, if◌then◌else◌, List, [], ◌∷◌, ◌++◌, codes}
use Rattle.std.specs.Prelude.{Option, Some, None}
use Rattle.std.specs.Fmt.{decimal, signed_decimal}
use Rattle.std.specs.List.{flat_map}
use Rattle.std.specs.Ordering.{int_eq}
use Rattle.piece_ring.specs.declared.piece.Look.{Look}
use Rattle.piece_ring.specs.Look.{default_look}
use Rattle.piece_ring.specs.Text.{Text}
use Rattle.store_documents.specs.HostText.{host_byte, printed_byte}

-- one look is the other
abbrev pub is_that_look : Look → Look → Bool
is_that_look a b = (a.font == b.font) && ((a.colour == b.colour) && int_eq a.voff b.voff)

-- a look, if it isn't the one before it
abbrev pub turned_look : Look → Look → Option Look
turned_look before look = if is_that_look before look then None else Some look

-- each character with its look, if that isn't the look of the character before it
abbrev pub turned_text : Look → Text ℕ → List (Option Look × ℕ)
turned_text before [] = []
turned_text before (c ∷ text) = (turned_look before c.1, c.0) ∷ turned_text c.1 text

-- the text of such characters: each is in the last look that is told
abbrev pub look_told : Look → Option Look → Look
look_told before None = before
look_told before (Some look) = look

abbrev pub text_told : Look → List (Option Look × ℕ) → Text ℕ
text_told before [] = []
text_told before (t ∷ rest) = (t.1, look_told before t.0) ∷ text_told (look_told before t.0) rest

-- Oberon's sixteen colours, as the screen has them; any other is black
unfoldable pub web_colour : ℕ → List ℕ
web_colour colour =
    if colour == 0 then codes "#ffffff"
    else if colour == 1 then codes "#ff0000"
    else if colour == 2 then codes "#00ff00"
    else if colour == 3 then codes "#0000ff"
    else if colour == 4 then codes "#ff00ff"
    else if colour == 5 then codes "#ffff00"
    else if colour == 6 then codes "#00ffff"
    else if colour == 7 then codes "#af0000"
    else if colour == 8 then codes "#008700"
    else if colour == 9 then codes "#000087"
    else if colour == 10 then codes "#00afff"
    else if colour == 11 then codes "#008787"
    else if colour == 12 then codes "#8a8a8a"
    else if colour == 13 then codes "#bcbcbc"
    else if colour == 14 then codes "#e4e4e4"
    else codes "#000000"

-- of the fonts, 1 is italic, 2 bold, 3 small and 4 large
unfoldable pub web_font : ℕ → List ℕ
web_font font =
    if font == 1 then codes ";font-style:italic"
    else (if font == 2 then codes ";font-weight:bold"
    else (if font == 3 then codes ";font-size:smaller" else
    (if font == 4 then codes ";font-size:larger" else [])))

-- where characters in a look begin: its font, colour and offset, and how a browser shows them
unfoldable pub look_numbers : Look → List ℕ
look_numbers look = decimal look.font
    ++ (codes " " ++ (decimal look.colour ++ (codes " " ++ signed_decimal look.voff)))

unfoldable pub raised_style : ℤ → List ℕ
raised_style voff = codes ";vertical-align:" ++ (signed_decimal voff ++ codes "px")

unfoldable pub look_style : Look → List ℕ
look_style look = codes "color:" ++
    (web_colour look.colour ++ (web_font look.font ++ raised_style look.voff))

unfoldable pub look_tag : Look → List ℕ
look_tag look = codes "<span data-look='"
    ++ (look_numbers look ++ (codes "' style='" ++ (look_style look ++ codes "'>")))

-- where those before them end too
abbrev pub turn_tags : Option Look → List ℕ
turn_tags None = []
turn_tags (Some look) = codes "</span>" ++ look_tag look

-- a byte as HTML has it
abbrev pub web_byte : ℕ → List ℕ
web_byte byte =
    if byte == 38 then codes "&amp;"
    else (if byte == 60 then codes "&lt;" else (if byte == 62 then codes "&gt;" else byte ∷ []))

-- a character: as a terminal gets it, and behind its look
abbrev pub marked_character : Option Look × ℕ → List ℕ
marked_character t = turn_tags t.0 ++ web_byte (printed_byte (host_byte t.1))

-- a text behind a character of this look
abbrev pub marked_text : Look → Text ℕ → List ℕ
marked_text before text = flat_map marked_character (turned_text before text)

unfoldable pub html_start : List ℕ
html_start =
    codes "<!DOCTYPE html>\n<html><head><meta charset='utf-8'><title>A document</title></head>\n"
    ++ codes "<body><pre style='font:15px/1.5 DejaVu Sans Mono,Menlo,Consolas,monospace;tab-size:4'>"

unfoldable pub html_end : List ℕ
html_end = codes "</span></pre></body></html>\n"

unfoldable pub html_of : Text ℕ → List ℕ
html_of text = html_start ++ (look_tag default_look ++ (marked_text default_look text ++ html_end))
