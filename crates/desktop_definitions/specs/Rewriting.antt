-- Texts that are written anew: their characters stand one after another, in the looks that they have. Where they stand
-- is open to a reader of the desktop, which sees bytes alone; here it is text after text, as numbers and names rise.
use Rattle.std.specs.Prelude.{◌≡◌, ℕ, suc, ◌+◌, List, [], ◌∷◌, ◌++◌, length, sum_by}
use Rattle.std.specs.Map.{values_of}
use Rattle.piece_ring.specs.declared.piece.Piece.{Piece}
use Rattle.piece_ring.specs.Flat.{flat}
use Rattle.piece_ring.specs.Text.{Text}
use Rattle.readers_scanners.specs.Reading.{bytes_of_text}
use Rattle.desktop_definitions.specs.Tables.{Texts, Files, with_values}
use Rattle.desktop_definitions.specs.Desktop.{KeptDesktop}

-- how many characters a text has that is kept
abbrev pub kept_length : List Piece → ℕ
kept_length pieces = length (flat pieces)

-- how many characters the texts of a table have that is kept
abbrev pub kept_lengths : {K : Type 0} → List (K × List Piece) → ℕ
kept_lengths table = sum_by (λ pieces. length (flat pieces)) (values_of table)

-- the characters of a text at the offsets from n on, in their looks
abbrev pub laid : ℕ → Text ℕ → Text ℕ
laid n [] = []
laid n (c ∷ text) = (n, c.1) ∷ laid (suc n) text

-- a table with the characters of each text
abbrev pub flats : {K : Type 0} → List (K × List Piece) → List (K × Text ℕ)
flats table = with_values flat table

-- the texts of a table, the first at the offsets from n on and each behind the one before
abbrev pub laid_table : {K : Type 0} → ℕ → List (K × Text ℕ) → List (K × Text ℕ)
laid_table n [] = []
laid_table n (e ∷ es) = (e.0, laid n e.1) ∷ laid_table (n + length e.1) es

-- the bytes that the texts of a table read, one text after another
abbrev pub bytes_in : {K : Type 0} → List ℕ → List (K × Text ℕ) → List ℕ
bytes_in characters [] = []
bytes_in characters (e ∷ es) = bytes_of_text characters e.1 ++ bytes_in characters es

-- ---- a desktop of which all is written anew: texts, then files, then both buffers

-- how many characters come before the files, before each buffer, and in all
abbrev pub before_files : KeptDesktop → ℕ
before_files d = kept_lengths d.texts

abbrev pub before_copied : KeptDesktop → ℕ
before_copied d = before_files d + kept_lengths d.files

abbrev pub before_deleted : KeptDesktop → ℕ
before_deleted d = before_copied d + length (flat d.copied)

abbrev pub in_all : KeptDesktop → ℕ
in_all d = before_deleted d + length (flat d.deleted)

pub record IsRewritten (honest : Type 0) (old : List ℕ) (d : KeptDesktop) (made : List ℕ)
    (texts : Texts (List Piece))
    (files : Files (List Piece)) (copied deleted : List Piece) : Type 0
  where
    pub texts_laid : flats texts ≡ laid_table 0 (flats d.texts)
    pub files_laid : flats files ≡ laid_table (before_files d) (flats d.files)
    pub copied_laid : flat copied ≡ laid (before_copied d) (flat d.copied)
    pub deleted_laid : flat deleted ≡ laid (before_deleted d) (flat d.deleted)
    pub as_many : length made ≡ in_all d
    -- where they were told truly these are the characters
    pub read : honest → made ≡ bytes_in old (flats d.texts) ++ bytes_in old (flats d.files)
        ++ bytes_of_text old (flat d.copied) ++ bytes_of_text old (flat d.deleted)
