-- Whether there is room for a file of a name.
use Rattle.std.specs.Prelude.{◌≡◌, ℕ, ◌||◌, nat_lt, List, length, Option, is_some}
use Rattle.std.specs.Option.{option_map}
use Rattle.std.proofs.Common.{refl}
use Rattle.piece_ring.specs.declared.piece.Piece.{Piece}
use Rattle.desktop_definitions.specs.Limits.{most_files}
use Rattle.desktop_definitions.specs.Rewriting.{kept_length}
use Rattle.desktop_definitions.specs.Tables.{Files, file_named, has_file_room}
use Rattle.desktop_definitions.specs.Seen.{seen_text, seen_table}
use Rattle.desktop_definitions.proofs.TableLaws.{lookup_seen, is_some_map, length_seen}

module _ (characters : List ℕ) (files : Files (List Piece)) (name : List ℕ) (found : Option ℕ)
    (is : found ≡ option_map kept_length (file_named files name)) where
  pub room_found : has_file_room (seen_table characters files) name ≡ (is_some found || nat_lt (length files) most_files)
  room_found = rw
      (lookup_seen (seen_text characters), is_some_map, length_seen (seen_text characters), is, is_some_map) refl
