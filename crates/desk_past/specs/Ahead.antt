-- What is written behind a store before its desktop is exchanged. `d` is what is known of a disk.
use Rattle.std.specs.Prelude.{◌≡◌, ◌+◌, ◌-◌, ◌*◌, ◌<◌, ◌≤◌, ◌^◌, ◌++◌, ◌∷◌, [], ℕ, List, length, replicate}
use Rattle.sector_disk.specs.declared.disk.Disk.{Ghosts}
use Rattle.sector_disk.specs.declared.disk.TheConstants.{SECTOR_BYTES}
use Rattle.desktop_definitions.specs.Desktop.{Desktop}
use Rattle.store_layout.specs.declared.layout.TheConstants.{LAST_EPOCH}
use Rattle.store_layout.specs.Meaning.{Standing}
use Rattle.store_layout.specs.declared.head.PastEnd.{PastEnd}
use Rattle.desk_journal.specs.View.{StoreView}
use Rattle.past_pages.specs.Parts.{IsPastPart}
use Rattle.past_pages.specs.Page.{Page, page_bytes, page_sectors, IsGoodPage, journal_of}
use Rattle.desk_past.specs.Deeds.{PastDeed}
use Rattle.desk_past.specs.Past.{end_of_pages, KeepsAll, Start}

-- bytes, and zeros behind them up to the end of so many sectors
abbrev pub padded : ℕ → List ℕ → List ℕ
padded sectors bytes = bytes ++ replicate (SECTOR_BYTES * sectors - length bytes) 0

-- the bytes of two pages, each from the beginning of a sector
abbrev pub two_pages : Page → Page → List ℕ
two_pages p q = padded (page_sectors p) (page_bytes p) ++ page_bytes q

-- the pages that are added: that of the journal in use, and one of what is done then
abbrev pub pages_added : Page → Standing → List Page
pages_added p s = journal_of s ∷ p ∷ []

module _ {D : Type 0} (d : Ghosts D) where
  -- up to this sector there is room for these pages, and what was done can be counted
  pub record HasRoomAhead (p : Page) (end : ℕ) {start : Start} {deeds : List PastDeed}
      {desktop : Desktop} {store : StoreView D} (keeps : KeepsAll d start deeds desktop store)
      : Type 0 where
    pub pages : end_of_pages keeps.remembers.standing.past.next
        (pages_added p keeps.remembers.standing) ≤ end
    pub inside : end ≤ d.size store.disk
    pub few : keeps.remembers.standing.past.before
        + length keeps.remembers.standing.events + 1 < 2 ^ 64

  -- the past lies in a part that has such room, and an epoch comes behind the one in use
  pub record CanAdd (p : Page) {start : Start} {deeds : List PastDeed} {desktop : Desktop}
      {store : StoreView D} (keeps : KeepsAll d start deeds desktop store)
      : Type 0 where
    pub end : ℕ
    pub part : IsPastPart (d.size store.disk) start.base end
    pub room : HasRoomAhead p end keeps
    pub later : ¬ (store.epoch ≡ LAST_EPOCH)

  -- These bytes are the pages, which go from this sector on into so many, and of them the head is to tell this.
  pub record IsAhead (p : Page) (past : PastEnd) (from limit : ℕ) (bytes : List ℕ)
      {start : Start} {deeds : List PastDeed} {desktop : Desktop} {store : StoreView D}
      (keeps : KeepsAll d start deeds desktop store) : Type 0 where
    pub at : from ≡ keeps.remembers.standing.past.next
    pub are : bytes ≡ two_pages (journal_of keeps.remembers.standing) p
    pub up_to : end_of_pages from (pages_added p keeps.remembers.standing) ≡ past.next
    pub limit_is : from + limit ≡ past.next
    pub room : past.next ≤ d.size store.disk
    pub counted : keeps.remembers.standing.past.before
        + length keeps.remembers.standing.events + 1 ≡ past.before
    pub short : length (page_bytes (journal_of keeps.remembers.standing)) < 2 ^ 32
    pub good : IsGoodPage p
