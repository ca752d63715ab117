-- How many bytes there are.
use Rattle.std.proofs.Common.{◌≡◌, ℕ, ◌+◌, ◌*◌, List, [], ◌∷◌, ◌++◌, length, ap, arith, length-append}
use Rattle.std.specs.List.{flat_map}
use Rattle.piece_ring.specs.declared.piece.Piece.{Piece}
use Rattle.viewer_tracks.specs.Viewers.{Entry}
use Rattle.command_table.specs.Versions.{newest_version}
use Rattle.image_format.specs.Image.{Image, piece_bytes, entry_bytes, look_bytes, optional, cell_bytes, listed_bytes}
use Rattle.image_format.specs.Image.{text_bytes, file_bytes, pieces_bytes, viewers_bytes, stack_bytes, closed_bytes}
use Rattle.image_format.specs.Image.{image_bytes}
use Rattle.event_bytes.specs.Parts.{byte, word_bytes, counted_bytes}

pub long_pieces : (pieces : List Piece) → length (flat_map piece_bytes pieces) ≡ 12 * length pieces
long_pieces [] = omega arith
long_pieces (p ∷ pieces) =
    let rest = long_pieces pieces in
    let both = length-append (piece_bytes p) (flat_map piece_bytes pieces) in
    omega (arith, rest, both)

pub long_entries : (entries : List Entry)
    → length (flat_map (entry_bytes newest_version) entries) ≡ 3 * length entries
long_entries [] = omega arith
long_entries (e ∷ entries) =
    let rest = long_entries entries in
    let both = length-append (entry_bytes newest_version e) (flat_map (entry_bytes newest_version) entries) in
    omega (arith, rest, both)

-- ---- a sum over items: what was counted, and what is to come

module _ {A : Type 0} (bytes : A → List ℕ) where
  pub one_counted : (sum more all : ℕ) (items : List A) (item : A) (later : List A) → items ≡ item ∷ later
      → more ≡ length (bytes item) → sum + length (flat_map bytes items) ≡ all
      → sum + more + length (flat_map bytes later) ≡ all
  one_counted sum more all items item later front long so_far =
      let both = length-append (bytes item) (flat_map bytes later) in
      let here : length (flat_map bytes items) ≡ length (bytes item ++ flat_map bytes later) =
      ap (λ (left : List A). length (flat_map bytes left)) front in
      omega (arith, both, here, long, so_far)

  pub all_counted : (sum all : ℕ) (items : List A) → items ≡ [] → sum + length (flat_map bytes items) ≡ all → sum ≡ all
  all_counted sum all items none so_far =
      let here : length (flat_map bytes items) ≡ 0 = ap (λ (left : List A). length (flat_map bytes left)) none in
      omega (arith, here, so_far)

  -- before the first item only their number was counted
  pub number_counted : (number : ℕ → List ℕ) (n : ℕ) (items : List A) → n ≡ length (number (length items))
      → n + length (flat_map bytes items) ≡ length (listed_bytes number bytes items)
  number_counted number n items long =
      let both = length-append (number (length items)) (flat_map bytes items) in
      omega (arith, both, long)

-- ---- the whole

long_parts : (a b c d e f g h k l m : List ℕ)
    → length (a ++ (b ++ (c ++ (d ++ (e ++ (f ++ (g ++ (h ++ (k ++ (l ++ m))))))))))
    ≡ length a + (length b + (length c + (length d + (length e + (length f + (length g + (length h + (length k
    + (length l + length m)))))))))
long_parts a b c d e f g h k l m = simp length-append

pub long_image : (version : ℕ) (i : Image) → length (image_bytes version i)
    ≡ length (look_bytes i.look) + (length (counted_bytes byte i.pattern)
    + (length (optional cell_bytes i.marker) + (length (listed_bytes word_bytes text_bytes i.texts)
    + (length (listed_bytes word_bytes file_bytes i.files) + (length (pieces_bytes i.copied) + (length (pieces_bytes i.deleted)
    + (length (viewers_bytes version i.viewers) + (length (stack_bytes version i.user)
    + (length (stack_bytes version i.system) + length (optional (closed_bytes version) i.closed))))))))))
unfolding image_bytes
long_image version i =
    long_parts (look_bytes i.look) (counted_bytes byte i.pattern) (optional cell_bytes i.marker)
    (listed_bytes word_bytes text_bytes i.texts) (listed_bytes word_bytes file_bytes i.files)
    (pieces_bytes i.copied) (pieces_bytes i.deleted)
    (viewers_bytes version i.viewers) (stack_bytes version i.user) (stack_bytes version i.system)
    (optional (closed_bytes version) i.closed)
