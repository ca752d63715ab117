-- Lines of the log that are made one from each file.
use Rattle.std.proofs.Common.{◌≡◌, ℕ, length, map, refl}
use Rattle.std.proofs.Common.{List, [], ◌∷◌}
use Rattle.piece_ring.specs.declared.piece.Piece.{Piece}
use Rattle.piece_ring.specs.Flat.{flat}
use Rattle.desktop_definitions.specs.Tables.{Files}
use Rattle.desktop_definitions.proofs.TableLaws.{length_seen_text}
use Rattle.desktop_definitions.specs.Effects.{size_line}
use Rattle.desktop_definitions.specs.Seen.{seen_table}

-- the line of a file that is kept
abbrev pub kept_line : List ℕ × List Piece → List ℕ
kept_line file = size_line file.0 (length (flat file.1))

pub lines_seen : (characters : List ℕ) (files : Files (List Piece))
    → map (λ file. size_line file.0 (length file.1)) (seen_table characters files) ≡ map kept_line files
lines_seen characters [] = refl
lines_seen characters (e ∷ es) = λ k.
    size_line e.0 (length_seen_text characters e.1 k) ∷ lines_seen characters es k
