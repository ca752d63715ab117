-- The pieces of which the elements of a drawing are put together.
use Rattle.std.specs.Prelude.{◌≡◌, ℕ, ◌+◌, ◌*◌, List, [], ◌∷◌, codes, length}
use Rattle.std.specs.Fmt.{decimal}
use Rattle.std.specs.List.{concat}
use Rattle.screen_drawing.specs.declared.face.Face.{Face}
use Rattle.screen_drawing.specs.declared.pen.Pen.{Pen}
use Rattle.screen_drawing.specs.Drawn.{escaped_text, heading, rectangle, rule_text, slant_text, text_cells, weight_text}
use Rattle.screen_drawing.specs.Strokes.{baseline, cell_height, cell_width, colour_code}

pub rectangle_pieces : (x y width height colour : ℕ) (xs ys widths heights colours : List ℕ) → xs ≡ decimal x
    → ys ≡ decimal y → widths ≡ decimal width → heights ≡ decimal height → colours ≡ colour_code colour
    → concat (codes "<rect x='" ∷ xs ∷ codes "' y='" ∷ ys ∷ codes "' width='" ∷ widths ∷ codes "' height='" ∷ heights
    ∷ codes "' fill='" ∷ colours ∷ codes "'/>\n" ∷ []) ≡ rectangle x y width height colour
rectangle_pieces x y width height colour xs ys widths heights colours a b c d e k =
    concat (codes "<rect x='" ∷ a k ∷ codes "' y='" ∷ b k ∷ codes "' width='" ∷ c k ∷ codes "' height='" ∷ d k
    ∷ codes "' fill='" ∷ e k ∷ codes "'/>\n" ∷ [])

pub text_pieces : (x y : ℕ) (faces : List Face) (pen : Pen) (xs ys widths inks weights slants rules bytes : List ℕ)
    → xs ≡ decimal (cell_width * x) → ys ≡ decimal (cell_height * y + baseline)
    → widths ≡ decimal (cell_width * length faces) → inks ≡ colour_code pen.ink → weights ≡ weight_text pen.weight
    → slants ≡ slant_text pen.is_italic → rules ≡ rule_text pen.rule → bytes ≡ escaped_text faces
    → concat (codes "<text x='" ∷ xs ∷ codes "' y='" ∷ ys ∷ codes "' textLength='" ∷ widths ∷ codes "' fill='" ∷ inks
    ∷ codes "'" ∷ weights ∷ slants ∷ rules ∷ codes ">" ∷ bytes ∷ codes "</text>\n" ∷ []) ≡ text_cells x y faces pen
text_pieces x y faces pen xs ys widths inks weights slants rules bytes a b c d e f g h k =
    concat (codes "<text x='" ∷ a k ∷ codes "' y='" ∷ b k ∷ codes "' textLength='" ∷ c k ∷ codes "' fill='" ∷ d k
    ∷ codes "'" ∷ e k ∷ f k ∷ g k ∷ codes ">" ∷ h k ∷ codes "</text>\n" ∷ [])

pub heading_pieces : (ws hs ws' hs' : List ℕ) → ws ≡ decimal 720 → hs ≡ decimal 608 → ws' ≡ decimal 720
    → hs' ≡ decimal 608
    → concat (codes "<svg xmlns='http://www.w3.org/2000/svg' width='" ∷ ws ∷ codes "' height='" ∷ hs
    ∷ codes "' viewBox='0 0 " ∷ ws' ∷ codes " " ∷ hs'
    ∷ codes "' font-family='DejaVu Sans Mono,Menlo,Consolas,monospace' font-size='15' xml:space='preserve'>\n"
    ∷ codes "<style>text{white-space:pre}</style>\n" ∷ [])
    ≡ heading
heading_pieces ws hs ws' hs' a b c d k =
    concat (codes "<svg xmlns='http://www.w3.org/2000/svg' width='" ∷ a k ∷ codes "' height='" ∷ b k
    ∷ codes "' viewBox='0 0 " ∷ c k ∷ codes " " ∷ d k
    ∷ codes "' font-family='DejaVu Sans Mono,Menlo,Consolas,monospace' font-size='15' xml:space='preserve'>\n"
    ∷ codes "<style>text{white-space:pre}</style>\n" ∷ [])
