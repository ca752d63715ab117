-- A page: the events of one journal, the documents of an import, a turn, or a desktop, as they stand in sectors behind
-- a store.
use Rattle.std.specs.Prelude.{◌≡◌, ◌+◌, ◌<◌, ◌≤◌, ◌^◌, ℕ, Bool, false, true, List, [], ◌∷◌, ◌++◌, length, IsTrue}
use Rattle.std.specs.Int.{w32, w64, to_be_bytes}
use Rattle.std.specs.List.{list_all}
use Rattle.sector_disk.specs.Stored.{last_sector}
use Rattle.event_bytes.specs.declared.event.Event.{Event}
use Rattle.event_bytes.specs.Spelling.{IsEvent}
use Rattle.event_bytes.specs.Bytes.{is_name, is_text_byte}
use Rattle.desktop_definitions.specs.Desktop.{Desktop}
use Rattle.document_filing.specs.Bringing.{Documents}
use Rattle.store_layout.specs.declared.layout.TheConstants.{LAYOUT}
use Rattle.store_layout.specs.Meaning.{Standing}
use Rattle.store_slots.specs.Bodies.{spellings}
use Rattle.past_pages.specs.Copies.{Sectors, IsCopyOf}
use Rattle.past_pages.specs.declared.page.TheConstants.{EVENTS_PAGE, FAR_PAGE, IMPORT_PAGE, MARK_PAGE}
use Rattle.past_pages.specs.declared.page.TheConstants.{MOST_SPELLED, TURN_PAGE}

-- The events that a journal had when its epoch ended, the documents of an import, the moment to which the desktop was
-- turned, with what it was then, or a desktop as the sectors of a store that shows it; and the version by which they
-- were stepped, brought or written. A page with a desktop is a mark, or a far turn to it.
pub data Page : Type 0 where
  of_events : ℕ → List Event → Page
  of_import : ℕ → Documents → Page
  of_turn : ℕ → ℕ → Desktop → Page
  of_copy : ℕ → Bool → Sectors → Desktop → Page

-- ---- its bytes

-- a number in four bytes, the highest first
abbrev pub number : ℕ → List ℕ
number n = to_be_bytes w32 n

-- bytes behind their number
abbrev pub behind_length : List ℕ → List ℕ
behind_length bytes = number (length bytes) ++ bytes

-- a document: its name, and its bytes
abbrev pub document_spelling : List ℕ × List ℕ → List ℕ
document_spelling document = behind_length document.0 ++ behind_length document.1

abbrev pub document_spellings : Documents → List ℕ
document_spellings [] = []
document_spellings (document ∷ documents) =
    document_spelling document ++ document_spellings documents

-- a sector: its number, and what it holds
abbrev pub sector_spelling : ℕ × List ℕ → List ℕ
sector_spelling sector = number sector.0 ++ sector.1

abbrev pub sector_spellings : Sectors → List ℕ
sector_spellings [] = []
sector_spellings (sector ∷ sectors) = sector_spelling sector ++ sector_spellings sectors

-- the kind of a mark, and of a far turn
abbrev pub copy_kind : Bool → ℕ
copy_kind false = MARK_PAGE
copy_kind true = FAR_PAGE

-- its kind, its version, how many deeds, documents or sectors it has, and how they are spelled: of a turn the moment's
-- number alone
abbrev pub page_kind : Page → ℕ
page_kind (of_events version events) = EVENTS_PAGE
page_kind (of_import version documents) = IMPORT_PAGE
page_kind (of_turn version k to) = TURN_PAGE
page_kind (of_copy version far sectors to) = copy_kind far

abbrev pub page_version : Page → ℕ
page_version (of_events version events) = version
page_version (of_import version documents) = version
page_version (of_turn version k to) = version
page_version (of_copy version far sectors to) = version

abbrev pub page_count : Page → ℕ
page_count (of_events version events) = length events
page_count (of_import version documents) = length documents
page_count (of_turn version k to) = 1
page_count (of_copy version far sectors to) = length sectors

abbrev pub page_body : Page → List ℕ
page_body (of_events version events) = spellings events
page_body (of_import version documents) = document_spellings documents
page_body (of_turn version k to) = to_be_bytes w64 k
page_body (of_copy version far sectors to) = sector_spellings sectors

-- a page's bytes: these numbers, in how many bytes that is spelled, and these
abbrev pub page_bytes : Page → List ℕ
page_bytes p = number (page_kind p) ++ (number (page_version p) ++ (number (page_count p)
    ++ behind_length (page_body p)))

-- in how many sectors they stand
abbrev pub page_sectors : Page → ℕ
page_sectors p = last_sector (length (page_bytes p)) + 1

-- ---- which pages can be read

-- each of these events can be spelled
abbrev pub AreEvents : List Event → Type 0
AreEvents [] = Unit {0}
AreEvents (event ∷ events) = IsEvent event × AreEvents events

-- a document that can come, and can be spelled
pub record IsDocument (document : List ℕ × List ℕ) : Type 0 where
  pub name : IsTrue (is_name document.0)
  pub bytes : IsTrue (list_all is_text_byte document.1)
  pub short : length document.1 < 2 ^ 32

abbrev pub AreDocuments : Documents → Type 0
AreDocuments [] = Unit {0}
AreDocuments (document ∷ documents) = IsDocument document × AreDocuments documents

-- what it says can be done
abbrev pub AreDoable : Page → Type 0
AreDoable (of_events version events) = AreEvents events
AreDoable (of_import version documents) = AreDocuments documents
AreDoable (of_turn version k to) = k < 2 ^ 64
AreDoable (of_copy version far sectors to) = IsCopyOf sectors to

-- A page that can be spelled, whose events are stepped as a post steps them, whose documents are brought as an import
-- brings them, and whose sectors show its desktop.
pub record IsGoodPage (p : Page) : Type 0 where
  pub newest : page_version p ≡ LAYOUT
  pub few : page_count p < 2 ^ 32
  pub short : length (page_body p) < 2 ^ 32
  pub valid : AreDoable p

-- ---- pages that are made

-- the page that the journal in use makes
abbrev pub journal_of : Standing → Page
journal_of s = of_events s.version s.events

-- the page of an import
abbrev pub import_of : Documents → Page
import_of documents = of_import LAYOUT documents

-- a page has room for these documents
pub record FitPage (documents : Documents) : Type 0 where
  pub few : length documents ≤ MOST_SPELLED
  pub short : length (document_spellings documents) ≤ MOST_SPELLED

-- the page of a turn to moment k, with what the desktop was then
abbrev pub turn_of : ℕ → Desktop → Page
turn_of k to = of_turn LAYOUT k to

-- the page of a mark with this desktop, or of a far turn to it, as these sectors
abbrev pub copy_of : Bool → Sectors → Desktop → Page
copy_of far sectors to = of_copy LAYOUT far sectors to
