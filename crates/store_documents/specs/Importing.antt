-- What an import into a store promises. `d` is what is known of a disk.
use Rattle.std.specs.Prelude.{◌≡◌, ◌⊎◌, Bool, true, false, [], ◌++◌, filter, length}
use Rattle.sector_disk.specs.declared.disk.Disk.{Ghosts}
use Rattle.desktop_definitions.specs.Desktop.{Desktop}
use Rattle.desktop_definitions.specs.declared.reply.Reply.{Reply}
use Rattle.desktop_definitions.specs.declared.reply.Reply.TheVariants.{Done}
use Rattle.document_filing.specs.Bringing.{Documents}
use Rattle.desk_journal.specs.Bringing.{AreBrought}
use Rattle.desk_journal.specs.View.{StoreView}
use Rattle.store_documents.specs.Standings.{standing_of, is_new, is_same, is_other, HasOnlyLooked}
use Rattle.store_documents.specs.declared.sorting.Sorted.{Sorted}
use Rattle.store_documents.specs.declared.importing.Coming.{Coming}
use Rattle.store_documents.specs.declared.importing.Imported.{Imported}
use Rattle.store_documents.specs.declared.importing.Imported.TheVariants.{Kept, Told}

-- of documents those that a desktop hasn't, those that it has, and those of whose name it has another one
abbrev pub new_ones : Desktop → Documents → Documents
new_ones d documents = filter (λ document. is_new (standing_of d document)) documents

abbrev pub same_ones : Desktop → Documents → Documents
same_ones d documents = filter (λ document. is_same (standing_of d document)) documents

abbrev pub other_ones : Desktop → Documents → Documents
other_ones d documents = filter (λ document. is_other (standing_of d document)) documents

-- what is to come: the new ones, and then those that replace another
abbrev pub coming_ones : Desktop → Documents → Documents
coming_ones d documents = new_ones d documents ++ other_ones d documents

-- what is to come and what is there are these
pub record AreComing (d : Desktop) (documents : Documents) (coming : Coming) : Type 0 where
  pub all : coming.documents.items ≡ coming_ones d documents
  pub fresh : coming.fresh ≡ length (new_ones d documents)
  pub same : coming.same.items ≡ same_ones d documents

-- sorted documents put together: the new ones and those that replace another, and those that are there
pub record AreTogether (sorted : Sorted) (coming : Coming) : Type 0 where
  pub documents : coming.documents.items ≡ sorted.fresh.items ++ sorted.other.items
  pub fresh : coming.fresh ≡ length sorted.fresh.items
  pub same : coming.same ≡ sorted.same

module _ {D : Type 0} (d : Ghosts D) where
  -- documents in the way may not be replaced: these are they, and nothing was done
  pub record AreInTheWay (replace : Bool) (documents others : Documents) (old new : StoreView D)
      : Type 0 where
    pub unasked : replace ≡ false
    pub some : ¬ (others ≡ [])
    pub others_are : d.honest old.disk → others ≡ other_ones old.desktop documents
    pub looked : HasOnlyLooked d old new

  -- where nothing is to come nothing was done; else all that is to come was brought by one call, with its reply
  pub record HasImported (replace : Bool) (documents : Documents) (reply : Reply) (coming : Coming)
      (old new : StoreView D) : Type 0 where
    pub coming_are : d.honest old.disk → AreComing old.desktop documents coming
    pub asked : d.honest old.disk → (replace ≡ true) ⊎ (other_ones old.desktop documents ≡ [])
    pub nothing : coming.documents.items ≡ [] → (reply ≡ Done) × HasOnlyLooked d old new
    pub brought : ¬ (coming.documents.items ≡ [])
        → AreBrought d coming.documents.items reply old new

  -- what an import of documents came to
  abbrev pub IsImport : Bool → Documents → Imported → StoreView D → StoreView D → Type 0
  IsImport replace documents (Kept others) old new =
      AreInTheWay replace documents others.items old new
  IsImport replace documents (Told reply coming) old new =
      HasImported replace documents reply coming old new
