-- Files that are handed in, each with the name that its document is to have, as documents.
use Rattle.std.specs.Prelude.{◌≡◌, ℕ, Bool, false, List, [], ◌∷◌, ◌++◌, map, take, Option, Some, None, Result, Ok, Err, option_map}
use Rattle.std.specs.Prelude.{slice_get}
use Rattle.std.specs.List.{list_any}
use Rattle.std.specs.Str.{bytes_eq}
use Rattle.document_filing.specs.Bringing.{Documents}
use Rattle.store_documents.specs.Filling.{document_laid_out}
use Rattle.store_documents.specs.declared.file_bytes.Unfit.{Unfit}

-- a name with a text, or why there is none
abbrev pub with_name : List ℕ → Result (List ℕ) Unfit → Result (List ℕ × List ℕ) Unfit
with_name name (Ok text) = Ok (name, text)
with_name name (Err unfit) = Err unfit

-- a file as a document, its lines broken to a width if there is one
abbrev pub document_of_file : Option ℕ → List ℕ × List ℕ → Result (List ℕ × List ℕ) Unfit
document_of_file width file = with_name file.0 (document_laid_out width file.1)

-- each file came to its document, in their order
abbrev pub AreTaken : Option ℕ → Documents → Documents → Type 0
AreTaken width files documents = map (document_of_file width) files ≡ map Ok documents

-- the file at an index is the first that is no document, for this reason
pub record IsFirstUnfit (width : Option ℕ) (files : Documents) (index : ℕ) (why : Unfit)
    : Type 0 where
  pub documents : Documents
  pub before : AreTaken width (take index files) documents
  pub unfit : option_map (document_of_file width) (slice_get files index) ≡ Some (Err why)

-- one of the documents has that name
abbrev pub has_name : List ℕ → Documents → Bool
has_name name documents = list_any (λ document. bytes_eq document.0 name) documents

-- the document at an index, if there is one, has the name of one before it
abbrev pub is_named_among : Option (List ℕ × List ℕ) → Documents → Bool
is_named_among None before = false
is_named_among (Some document) before = has_name document.0 before

abbrev pub is_named_before : Documents → ℕ → Bool
is_named_before documents index = is_named_among (slice_get documents index) (take index documents)

-- a document behind others
abbrev pub IsHandedBehind : Option ℕ → List ℕ × List ℕ → Documents → Documents → Type 0
IsHandedBehind width file old new = (document : List ℕ × List ℕ)
    × (document_of_file width file ≡ Ok document) × (new ≡ old ++ document ∷ [])
