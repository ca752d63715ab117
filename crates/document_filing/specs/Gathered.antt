-- What is known of a desktop while documents are filed into it, whatever their limits.
use Rattle.std.specs.Prelude.{◌≡◌, ℕ, ◌+◌, ◌<◌, ◌≤◌, ◌++◌, IsTrue, All, List, length}
use Rattle.std.specs.Option.{ForSome}
use Rattle.std.specs.Map.{keys_of}
use Rattle.std.specs.List.Sorted.{IsStrictlySortedBy}
use Rattle.piece_ring.specs.declared.piece.Piece.{Piece}
use Rattle.piece_ring.specs.Look.{default_look}
use Rattle.piece_ring.specs.Flat.{flat, run}
use Rattle.event_bytes.specs.Bytes.{is_name}
use Rattle.viewer_tracks.specs.declared.display.TheConstants.{ROWS, COLUMNS}
use Rattle.desktop_definitions.specs.Limits.{most_pattern}
use Rattle.desktop_definitions.specs.Tables.{name_cmp, file_put}
use Rattle.desktop_definitions.specs.Desktop.{Desktop, KeptDesktop}
use Rattle.desktop_definitions.specs.Viewers.{main_length}
use Rattle.desktop_definitions.specs.Opening.{is_shown}
use Rattle.desktop_definitions.specs.Seen.{seen}
use Rattle.desktop_definitions.specs.Sound.{AreViewers, ArePlaces, AreMarks, HasLooks, IsWithin}
use Rattle.document_filing.specs.Bringing.{Documents, all_bytes, all_filed}

-- each has a name
abbrev pub AreNamed : Documents → Type 0
AreNamed documents = All (λ document. IsTrue (is_name document.0)) documents

-- What is sound but for the limits.
pub record IsLoose (d : Desktop) : Type 0 where
  pub viewers : AreViewers d.texts d.viewers
  pub places : ArePlaces d.viewers d.columns d.closed
  pub marks : AreMarks d.columns (main_length d.texts d.viewers) d.caret d.selections
  pub marker : ForSome d.marker (λ m. (m.0 < COLUMNS) × (m.1 < ROWS))
  pub names : All (λ name. IsTrue (is_name name)) (keys_of d.files)
  pub rising : IsStrictlySortedBy name_cmp (keys_of d.files)
  pub pattern : length d.pattern ≤ most_pattern
  pub looks : HasLooks d
  -- no text is left over
  pub shown : All (λ n. IsTrue (is_shown d.viewers n)) (keys_of d.texts)

-- These documents were filed into the desktop before, whatever the limits, and it is the one after then: so it is seen
-- over every list of as many characters as were written, with the bytes of the documents behind it. The characters were
-- the old ones, and are the new ones.
pub record IsGathered (old new : List ℕ) (before after : KeptDesktop) (documents : Documents) : Type
    0 where
  pub exact : (all : List ℕ) → length all ≡ before.written
      → seen (all ++ all_bytes documents) after ≡ all_filed (seen all before) documents
  pub added : new ≡ old ++ all_bytes documents
  pub counted : before.written + length (all_bytes documents) ≡ after.written
  pub within : IsWithin after.written after
  pub loose : (characters : List ℕ) → IsLoose (seen characters after)

-- The file of that name is a text of these bytes, which were added to the characters.
pub record IsFiledAs (document : List ℕ × List ℕ) (old new : List ℕ)
    (before after : KeptDesktop) : Type 0 where
  pub text : List Piece
  pub named : IsTrue (is_name document.0)
  pub added : new ≡ old ++ document.1
  pub flat_is : flat text ≡ run before.written (length document.1) default_look
  pub after_is : after ≡ record before {
    files = file_put before.files document.0 text;
    written = before.written + length document.1;
  }
