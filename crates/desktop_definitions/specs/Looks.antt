-- What commands set in looks: the fields that a selector names (1 the font, 2 the colour, 4 the vertical offset), as a
-- look has them.
use Rattle.std.specs.Prelude.{ℕ, ◌<◌, ℤ, pos, int_le, int_lt, nat_abs, ◌&&◌, if◌then◌else◌, List, [], ◌∷◌, All, IsTrue}
use Rattle.std.specs.Prelude.{codes, Option, Some, None, option_map}
use Rattle.std.specs.Option.{ForSome}
use Rattle.std.specs.List.{position}
use Rattle.std.specs.Str.{bytes_eq}
use Rattle.desktop_definitions.specs.Words.{Look, LookChange, default_look, Text}
use Rattle.desktop_definitions.specs.Limits.{number_of_fonts, number_of_colours, least_offset, greatest_offset}

-- the names of the fonts, by their numbers
abbrev pub fonts : List (List ℕ)
fonts =
    codes "Oberon10.Scn.Fnt" ∷ codes "Oberon10i.Scn.Fnt" ∷ codes "Oberon10b.Scn.Fnt" ∷
    codes "Oberon8.Scn.Fnt" ∷ codes "Oberon12.Scn.Fnt" ∷ []

-- the font of a name, where there is one
abbrev pub font_set : List ℕ → Option LookChange
font_set name =
    option_map (λ n. record { selector = 1; look = record default_look { font = n } })
    (position (bytes_eq name) fonts)

-- the colour of a number
abbrev pub colour_set : ℤ → Option LookChange
colour_set z =
    if int_le (pos 0) z && int_lt z (pos number_of_colours)
    then Some (record { selector = 2; look = record default_look { colour = nat_abs z } })
    else None

-- that vertical offset
abbrev pub offset_set : ℤ → Option LookChange
offset_set z =
    if int_le least_offset z && int_le z greatest_offset
    then Some (record { selector = 4; look = record default_look { voff = z } })
    else None

-- the selector of the whole look
abbrev pub whole_look : ℕ
whole_look = 7

-- a look that characters may have: a font and a colour that there are, and a vertical offset within its range
pub record IsLook (l : Look) : Type 0 where
  pub font : l.font < number_of_fonts
  pub colour : l.colour < number_of_colours
  pub least : IsTrue (int_le least_offset l.voff)
  pub greatest : IsTrue (int_le l.voff greatest_offset)

-- what is set is one, if anything is
abbrev pub SetsLook : Option LookChange → Type 0
SetsLook new = ForSome new (λ set. IsLook set.look)

-- each character of a text has one
abbrev pub AreLooks : {X : Type 0} → Text X → Type 0
AreLooks text = All (λ c. IsLook c.1) text
