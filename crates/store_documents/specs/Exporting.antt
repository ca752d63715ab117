-- What comes out of a store, for whom.
use Rattle.std.specs.Prelude.{◌≡◌, ℕ, Bool, true, false, if◌then◌else◌, List, Option, Some, None, ⊤}
use Rattle.std.specs.Io.KnownBytes.{Appends, Keeps}
use Rattle.desk_journal.specs.Errors.{OfLook}
use Rattle.piece_ring.specs.Text.{Text}
use Rattle.store_documents.specs.HostText.{exported, printable}
use Rattle.store_documents.specs.Filling.{joined_text}
use Rattle.store_documents.specs.Markup.{html_of}
use Rattle.byte_streams.specs.Sent.{AppendsFront}
use Rattle.store_documents.specs.Standings.{bytes_of}
use Rattle.store_documents.specs.declared.exporting.Reader.{Reader}
use Rattle.store_documents.specs.declared.exporting.Reader.TheVariants.{Program, Terminal, Browser}
use Rattle.store_documents.specs.declared.exporting.Form.{Form}
use Rattle.store_documents.specs.declared.exporting.ExportFault.{ExportFault}
use Rattle.store_documents.specs.declared.exporting.ExportFault.TheVariants.{Store, Output}

-- a text whose lines are joined, if they are to be
abbrev pub with_lines : Bool → List ℕ → List ℕ
with_lines is_joined text = if is_joined then joined_text text else text

-- a text as a reader gets it. A browser gets its lines as they are.
abbrev pub text_for_reader : Reader → Bool → Text ℕ → List ℕ
text_for_reader Program is_joined text = exported (with_lines is_joined (bytes_of text))
text_for_reader Terminal is_joined text = printable (with_lines is_joined (bytes_of text))
text_for_reader Browser is_joined text = html_of text

-- the bytes of a text as they come out
abbrev pub text_in_form : Form → Text ℕ → List ℕ
text_in_form form text = text_for_reader form.reader form.is_joined text

-- the document whole; or nothing, where there is none
abbrev pub IsExported : Form → Option (Text ℕ) → Bool → Option (List ℕ) → Option (List ℕ) → Type 0
IsExported form None found old new = (found ≡ false) × Keeps old new
IsExported form (Some text) found old new = (found ≡ true)
    × Appends old new (text_in_form form text)

-- nothing, where the store refused; or a front of a document that there is, where the output did
abbrev pub IsExportCutOff : Form → Option (Text ℕ) → ExportFault → Option (List ℕ) → Option (List ℕ)
    → Type 0
IsExportCutOff form file (Store error) old new = Keeps old new
IsExportCutOff form None Output old new = ⊥
IsExportCutOff form (Some text) Output old new = AppendsFront old new (text_in_form form text)

-- a document that came out is handed on whole, so that nothing waits in the writer; where there is none, as much waits
-- as before
abbrev pub IsHandedOn : Bool → ℕ → ℕ → Type 0
IsHandedOn true old new = new ≡ 0
IsHandedOn false old new = new ≡ old

-- which faults there are
abbrev pub OfExport : ExportFault → Type 0
OfExport (Store error) = OfLook error
OfExport Output = ⊤
