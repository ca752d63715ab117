-- Documents that come into a store with a past. `d` is what is known of a disk.
use Rattle.std.specs.Prelude.{◌≡◌, ◌⊎◌, ◌++◌, ◌∷◌, [], ℕ, List}
use Rattle.sector_disk.specs.declared.disk.Disk.{Ghosts}
use Rattle.sector_disk.specs.Trail.{LeavesOnly}
use Rattle.desktop_definitions.specs.Desktop.{Desktop}
use Rattle.desktop_definitions.specs.declared.reply.Reply.{Reply}
use Rattle.desktop_definitions.specs.declared.reply.Reply.TheVariants.{Done, No}
use Rattle.document_filing.specs.Bringing.{Documents, brought_in}
use Rattle.desk_journal.specs.Bringing.{AreBrought}
use Rattle.desk_journal.specs.View.{StoreView}
use Rattle.past_pages.specs.Page.{FitPage, import_of}
use Rattle.desk_past.specs.Deeds.{PastDeed, brought}
use Rattle.desk_past.specs.Ahead.{CanAdd}
use Rattle.desk_past.specs.Past.{KeepsAll, Remembers, Start}

module _ {D : Type 0} (d : Ghosts D) where
  -- the past has room for the page of these documents
  pub record CanBring (documents : Documents) {start : Start} {deeds : List PastDeed}
      {desktop : Desktop} {store : StoreView D} (keeps : KeepsAll d start deeds desktop store)
      : Type 0 where
    pub add : CanAdd d (import_of documents) keeps
    pub fit : FitPage documents

  -- Nothing is forgotten, unless the part has no room for the pages: at every moment of the call a crash leaves all
  -- deeds from before it, and the desktop to which they led, or these and the import, and the desktop after that.
  abbrev pub BringsOn : Documents → StoreView D → StoreView D → Type 0
  BringsOn documents old new = d.honest old.disk → (start : Start) (deeds : List PastDeed)
      (desktop : Desktop) → (keeps : KeepsAll d start deeds desktop old)
      → CanBring documents keeps
      → LeavesOnly (d.trail old.disk) (d.trail new.disk)
      (λ c. Remembers (d.size old.disk) start deeds desktop c
      ⊎ Remembers (d.size old.disk) start (deeds ++ brought documents ∷ [])
      (brought_in desktop documents).desktop c)

  -- What an import answers: as `Store::bring` does. Done: the latter. No: the former, whatever room there is.
  pub record IsBroughtIn (documents : Documents) (reply : Reply) (old new : StoreView D)
      : Type 0 where
    pub answers : AreBrought d documents reply old new
    pub done : reply ≡ Done → d.honest old.disk → (start : Start) (deeds : List PastDeed)
        (desktop : Desktop) → (keeps : KeepsAll d start deeds desktop old)
        → CanBring documents keeps
        → KeepsAll d start (deeds ++ brought documents ∷ []) (brought_in desktop documents).desktop
        new
    pub refused : (code : ℕ) → reply ≡ No code → d.honest old.disk → (start : Start)
        (deeds : List PastDeed) (desktop : Desktop) → KeepsAll d start deeds desktop old
        → KeepsAll d start deeds desktop new
