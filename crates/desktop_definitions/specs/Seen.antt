-- A desktop that is kept, as it is seen among its characters.
use Rattle.std.specs.Prelude.{ℕ, List}
use Rattle.readers_scanners.specs.Reading.{contents}
use Rattle.desktop_definitions.specs.Words.{Piece, Text, flat}
use Rattle.desktop_definitions.specs.Tables.{with_values}
use Rattle.desktop_definitions.specs.Desktop.{Desktop, KeptDesktop, with_texts}

-- the bytes of pieces, in their looks
abbrev pub seen_text : List ℕ → List Piece → Text ℕ
seen_text characters pieces = contents characters (flat pieces)

abbrev pub seen_table : {K : Type 0} → List ℕ → List (K × List Piece) → List (K × Text ℕ)
seen_table characters table = with_values (seen_text characters) table

unfoldable pub seen : List ℕ → KeptDesktop → Desktop
seen characters d = with_texts (seen_text characters) d
