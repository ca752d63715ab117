-- What a loop keeps that reads a text character after character.
use Rattle.std.specs.Prelude.{◌≡◌, ℕ, ◌+◌, ◌-◌, ◌<◌, List, length, Some, slice_get}
use Rattle.std.proofs.Common.{refl, sym, ap, ◌∙◌, arith}
use Rattle.std.specs.Option.{option_map}
use Rattle.std.proofs.lemmas.Option.{slice_get-map}
use Rattle.char_file.specs.Source.{OnlyReads}
use Rattle.char_file.proofs.Reading.{no_read, read_on}
use Rattle.piece_ring.specs.declared.piece.Look.{Look}
use Rattle.piece_ring.specs.Text.{Text, AreWithin}
use Rattle.readers_scanners.specs.Reading.{contents, bytes_of_text, Reading}

module _ {S : Type 0} (characters : S → List ℕ) (failures : S → ℕ) (honest : S → Type 0) (same_ground : S → S
    → Type 0) where
  -- The reader stands before the character `at` of the text, and since the state `start` nothing failed.
  pub record IsAt (start now : S) (text : Text ℕ) (reader : Reading) (at : ℕ) : Type 0 where
    pub place : reader.position ≡ at
    pub same : reader.text ≡ text
    pub reads : OnlyReads characters failures honest same_ground start now
    pub calm : failures now ≡ failures start

  module _ (ground_self : (s : S) → same_ground s s) (ground_through : (a b c : S) → same_ground a b → same_ground b c
      → same_ground a c) where
    pub at_first : (start : S) (text : Text ℕ) (reader : Reading) (at : ℕ) → reader.position ≡ at → reader.text ≡ text
        → IsAt start start text reader at
    at_first start text reader at p t =
        record {
          place = p;
          same = t;
          reads = no_read characters failures honest same_ground ground_self start;
          calm = refl;
        }

    module _ (start now : S) (text : Text ℕ) (reader : Reading) (at : ℕ) (is : IsAt start now text reader at) where
      pub more : at < length text → reader.position < length reader.text
      more h = omega (arith, h, is.place, ap length is.same)

      pub offsets : AreWithin (length (characters start)) text → AreWithin (length (characters now)) reader.text
      offsets h = rw (is.reads.as_long, is.same) h

      pub onward : (later : S) (next : Reading) → next.position ≡ reader.position + 1 → next.text ≡ reader.text
          → OnlyReads characters failures honest same_ground now later → failures later ≡ failures now
          → IsAt start later text next (at + 1)
      onward later next p t reads calm = record {
        place = omega (arith, p, is.place);
        same = t ∙ is.same;
        reads = read_on characters failures honest same_ground ground_through start now later is.reads reads;
        calm = calm ∙ is.calm;
      }

      pub backward : (later : S) (next : Reading) → reader.position ≡ next.position + 1 → next.text ≡ reader.text
          → OnlyReads characters failures honest same_ground now later → failures later ≡ failures now
          → IsAt start later text next (at - 1)
      backward later next p t reads calm = record {
        place = omega (arith, p, is.place);
        same = t ∙ is.same;
        reads = read_on characters failures honest same_ground ground_through start now later is.reads reads;
        calm = calm ∙ is.calm;
      }

      -- what was read before it
      pub seen_before : (byte p : ℕ) → reader.position ≡ p + 1
          → (honest now → slice_get (bytes_of_text (characters now) reader.text) p ≡ Some byte)
          → honest start → slice_get (bytes_of_text (characters start) text) (at - 1) ≡ Some byte
      seen_before byte p q there h =
          let same : p ≡ at - 1 = omega (arith, q, is.place) in
          sym (λ k. slice_get (bytes_of_text (is.reads.same h k) (is.same k)) (same k)) ∙ there (is.reads.still h)

      -- what was read there
      pub seen_character : (c : ℕ × Look)
          → (honest now → slice_get (contents (characters now) reader.text) reader.position ≡ Some c)
          → honest start → slice_get (contents (characters start) text) at ≡ Some c
      seen_character c there h =
          sym (λ k. slice_get (contents (is.reads.same h k) (is.same k)) (is.place k)) ∙ there (is.reads.still h)

      pub seen : (byte : ℕ) → (honest now → slice_get (bytes_of_text (characters now) reader.text) reader.position ≡ Some byte)
          → honest start
          → slice_get (bytes_of_text (characters start) text) at ≡ Some byte
      seen byte there h = sym (λ k. slice_get (bytes_of_text (is.reads.same h k) (is.same k)) (is.place k))
          ∙ there (is.reads.still h)

-- the byte of a character that was read
pub byte_there : (characters : List ℕ) (text : Text ℕ) (at : ℕ) (c : ℕ × Look)
    → slice_get (contents characters text) at ≡ Some c
    → slice_get (bytes_of_text characters text) at ≡ Some c.0
byte_there characters text at c there = slice_get-map _ (contents characters text) at ∙ ap (option_map _) there
