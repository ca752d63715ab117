-- A desktop as its shape and its characters.
use Rattle.std.specs.Prelude.{◌≡◌, ◌↔◌, ℕ, List, ◌++◌, length}
use Rattle.std.specs.List.{flat_map}
use Rattle.std.specs.Map.{values_of}
use Rattle.piece_ring.specs.Text.{Text}
use Rattle.piece_ring.specs.declared.piece.Piece.{Piece}
use Rattle.piece_ring.specs.Flat.{flat}
use Rattle.desktop_definitions.specs.Tables.{with_values}
use Rattle.desktop_definitions.specs.Desktop.{Desktop, DesktopOf, KeptDesktop, with_texts}
use Rattle.desktop_definitions.specs.Seen.{seen}

-- each text stands for how many characters it has
unfoldable pub shape_of : {X : Type 0} → DesktopOf (List X) → DesktopOf ℕ
shape_of d = with_texts length d

-- two desktops that are kept have one shape, whatever characters they are seen among
abbrev pub HaveOneShape : KeptDesktop → KeptDesktop → Type 0
HaveOneShape one other = shape_of (with_texts flat one) ≡ shape_of (with_texts flat other)

-- the characters of the texts of a table
abbrev pub characters_in : {K : Type 0} → List (K × Text ℕ) → Text ℕ
characters_in table = flat_map (λ text. text) (values_of table)

-- those of all texts, the ones by number first, then the files, what was copied and what was deleted
unfoldable pub all_characters_of : Desktop → Text ℕ
all_characters_of d = characters_in d.texts ++ (characters_in d.files ++ (d.copied ++ d.deleted))

-- Two desktops that are kept are seen as one, each among characters of its own, exactly if they have one shape and are
-- seen to have the same characters.
abbrev pub ShapeLaw : Type 0
ShapeLaw = (one other : KeptDesktop) (characters others : List ℕ)
    → (seen characters one ≡ seen others other)
    ↔ (HaveOneShape one other
    × (all_characters_of (seen characters one) ≡ all_characters_of (seen others other)))

-- ---- the parts of a shape

-- what is marked beside selections
abbrev pub HaveSameMarks : KeptDesktop → KeptDesktop → Type 0
HaveSameMarks one other = (one.caret ≡ other.caret) × (one.marker ≡ other.marker)
    × (one.closed ≡ other.closed)

-- the look of what is typed, and how many characters were written and are in the buffers
abbrev pub HaveSameCounts : KeptDesktop → KeptDesktop → Type 0
HaveSameCounts one other = (one.look ≡ other.look) × (one.written ≡ other.written)
    × (length (flat one.copied) ≡ length (flat other.copied))
    × (length (flat one.deleted) ≡ length (flat other.deleted))

-- the viewers, what is selected in them, and the pattern
abbrev pub HaveSameLists : KeptDesktop → KeptDesktop → Type 0
HaveSameLists one other = (one.viewers ≡ other.viewers) × (one.selections ≡ other.selections)
    × (one.pattern ≡ other.pattern)

-- how many characters each text of a table has that is kept
abbrev pub kept_sizes : {K : Type 0} → List (K × List Piece) → List (K × ℕ)
kept_sizes table = with_values length (with_values flat table)
