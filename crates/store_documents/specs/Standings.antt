-- How documents stand to those of a store.
use Rattle.std.specs.Prelude.{◌≡◌, ℕ, Bool, true, false, if◌then◌else◌, List, [], ◌∷◌, ◌++◌, filter}
use Rattle.std.specs.Prelude.{Option, Some, None}
use Rattle.std.specs.Str.{bytes_eq}
use Rattle.sector_disk.specs.declared.disk.Disk.{Ghosts}
use Rattle.piece_ring.specs.Text.{Text}
use Rattle.desktop_definitions.specs.Desktop.{Desktop, file_of}
pub use Rattle.desktop_definitions.specs.Change.{bytes_of}
use Rattle.desk_journal.specs.Device.{IsOnlyRead}
use Rattle.desk_journal.specs.View.{StoreView}
use Rattle.store_documents.specs.declared.sorting.Standing.{Standing}
use Rattle.store_documents.specs.declared.sorting.Standing.TheVariants.{New, Same, Other}
use Rattle.store_documents.specs.declared.sorting.Sorted.{Sorted}

-- bytes beside the characters that a document has
abbrev pub standing_beside : List ℕ → Text ℕ → Standing
standing_beside bytes text = if bytes_eq (bytes_of text) bytes then Same else Other

-- bytes beside the document of their name
abbrev pub standing_to : List ℕ → Option (Text ℕ) → Standing
standing_to bytes None = New
standing_to bytes (Some text) = standing_beside bytes text

-- a name and bytes beside the documents of a desktop
abbrev pub standing_of : Desktop → List ℕ × List ℕ → Standing
standing_of d document = standing_to document.1 (file_of d document.0)

abbrev pub is_new : Standing → Bool
is_new New = true
is_new Same = false
is_new Other = false

abbrev pub is_same : Standing → Bool
is_same New = false
is_same Same = true
is_same Other = false

abbrev pub is_other : Standing → Bool
is_other New = false
is_other Same = false
is_other Other = true

-- the documents by how they stand, each list in their order
pub record AreSorted (d : Desktop) (documents : List (List ℕ × List ℕ)) (sorted : Sorted)
    : Type 0 where
  pub fresh : sorted.fresh.items ≡ filter (λ document. is_new (standing_of d document)) documents
  pub same : sorted.same.items ≡ filter (λ document. is_same (standing_of d document)) documents
  pub other : sorted.other.items ≡ filter (λ document. is_other (standing_of d document)) documents

-- a document behind those that stand as it does
pub record IsPutBehind (document : List ℕ × List ℕ) (standing : Standing) (old new : Sorted)
    : Type 0 where
  pub fresh_is : new.fresh.items ≡ old.fresh.items
      ++ (if is_new standing then document ∷ [] else [])
  pub same_is : new.same.items ≡ old.same.items ++ (if is_same standing then document ∷ [] else [])
  pub other_is : new.other.items ≡ old.other.items
      ++ (if is_other standing then document ∷ [] else [])

-- any number of looks: the store is as it was, and its disk was only read
pub record HasOnlyLooked {D : Type 0} (d : Ghosts D) (old new : StoreView D) : Type 0 where
  pub desktop : d.honest old.disk → new.desktop ≡ old.desktop
  pub kept : new.kept ≡ old.kept
  pub layout : new.layout ≡ old.layout
  pub epoch : new.epoch ≡ old.epoch
  pub events : new.events ≡ old.events
  pub usable : new.must_reopen ≡ old.must_reopen
  pub disk : IsOnlyRead d old.disk new.disk
