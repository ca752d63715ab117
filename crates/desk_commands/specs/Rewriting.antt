-- What is asked of characters that are written anew, and what a call promises that writes them.
use Rattle.std.specs.Prelude.{◌≡◌, ◌++◌, ◌+◌, ◌<◌, ◌^◌, ℕ, List, length, Result, IfOk, OnOk}
use Rattle.std.specs.declared.cmp.Ordering.{Ordering}
use Rattle.std.specs.List.Sorted.{IsStrictlySortedBy}
use Rattle.sector_disk.specs.Faults.{FailsAs}
use Rattle.char_file.specs.Source.{OnlyReads}
use Rattle.char_file.specs.declared.source.CharSource.{Ghosts}
use Rattle.piece_ring.specs.declared.piece.Piece.{Piece}
use Rattle.piece_ring.specs.Text.{Text, AreWithin}
use Rattle.piece_ring.specs.Flat.{flat}
use Rattle.readers_scanners.specs.Reading.{bytes_of_text}
use Rattle.desktop_definitions.specs.Sound.{AllWithin}
use Rattle.desktop_definitions.specs.Rewriting.{kept_lengths, laid, laid_table, flats, bytes_in}
use Rattle.desk_core.specs.declared.stop.Stop.{Stop}
use Rattle.desk_core.specs.declared.stop.Stop.TheVariants.{Fault}
use Rattle.desk_core.specs.Words.{IsStop, keys_of}

-- A text can go behind the characters that were made: each of its characters is one of the first n, and there are
-- offsets enough.
pub record CanPut (n : ℕ) (text : Text ℕ) (made : List ℕ) : Type 0 where
  pub inside : AreWithin n text
  pub room : length made + length text < 2 ^ 32

-- the same of all texts of a table, whose keys rise and are copied as they are
pub record CanPutAll {K : Type 0} (cmp : K → K → Ordering) (is_clone : K → K → Type 0) (n : ℕ)
    (table : List (K × List Piece)) (made : List ℕ) : Type 0 where
  pub rising : IsStrictlySortedBy cmp (keys_of table)
  pub copies : (key copy : K) → is_clone key copy → copy ≡ key
  pub inside : AllWithin n table
  pub room : length made + kept_lengths table < 2 ^ 32

module _ {S : Type 0} (s : Ghosts S) where
  -- Characters go behind those that were made: so many, and these where the source is honest.
  pub record Adds {A : Type 0} (characters : List ℕ) (count : ℕ) (result : Result A Stop)
      (old new : S)
      (made more : List ℕ) : Type 0 where
    pub read : OnOk result (s.honest old → more ≡ made ++ characters)
    pub longer : OnOk result (length more ≡ length made + count)
    pub reads : OnlyReads s.characters s.failures s.honest s.same_ground old new
    pub faults : FailsAs Fault IsStop result (s.failures old) (s.failures new)

  -- Those of a text do, and what is returned is the text as it stands there.
  pub record Rewrites (text : Text ℕ) (result : Result (List Piece) Stop) (old new : S)
      (made more : List ℕ)
      : Type 0 where
    pub stands : IfOk result (λ moved. flat moved ≡ laid (length made) text)
    pub adds : Adds (bytes_of_text (s.characters old) text) (length text) result old new made more

  -- Those of all texts of a table do.
  pub record RewritesAll {K A : Type 0} (table : List (K × List Piece))
      (entries : A → List (K × List Piece))
      (result : Result A Stop) (old new : S) (made more : List ℕ) : Type 0 where
    pub stands : IfOk result
        (λ moved. flats (entries moved) ≡ laid_table (length made) (flats table))
    pub adds : Adds (bytes_in (s.characters old) (flats table)) (kept_lengths table) result old new
        made more
