-- A document as a file of the host's. A line of a document ends with CR, one of the host's with LF, CR LF or CR.
use Rattle.std.specs.Prelude.{ℕ, ◌+◌, Bool, not, ◌&&◌, ◌==◌, nat_lt, if◌then◌else◌}
use Rattle.std.specs.Prelude.{List, [], ◌∷◌, ◌++◌, length, map, position, take}
use Rattle.std.specs.Prelude.{Option, Some, None, Result, Ok, Err}
use Rattle.std.specs.List.{list_any}
use Rattle.std.specs.Option.{option_to_list}
use Rattle.event_bytes.specs.Bytes.{carriage_return, is_text_byte}
pub use Rattle.event_bytes.specs.Bytes.{line_feed, question_mark}
use Rattle.store_documents.specs.declared.file_bytes.Unfit.{Unfit}
use Rattle.store_documents.specs.declared.file_bytes.Unfit.TheVariants.{TooLong, NoText, Strange}
use Rattle.store_documents.specs.declared.file_bytes.TheConstants.{MOST_BYTES}
use Rattle.store_documents.specs.declared.places.Place.{Place}

-- what a document's byte is to the host
abbrev pub host_byte : ℕ → ℕ
host_byte b = if b == carriage_return then line_feed else b

-- the text of a document, as a file of the host's
abbrev pub exported : List ℕ → List ℕ
exported text = map host_byte text

-- what a byte of the host's is to a document, after another one: a LF right after CR has ended no line of its own
abbrev pub returned : ℕ → ℕ → Option ℕ
returned before b =
    if b == line_feed then (if before == carriage_return then None else Some carriage_return) else
    Some b

-- the text that the rest of a file comes to, after a byte
abbrev pub text_after : ℕ → List ℕ → List ℕ
text_after before [] = []
text_after before (b ∷ file) = option_to_list (returned before b) ++ text_after b file

-- the text that a file comes to
abbrev pub document_of : List ℕ → List ℕ
document_of file = text_after 0 file

-- neither a byte of a text nor a line feed
abbrev pub is_strange : ℕ → Bool
is_strange b = not (b == line_feed) && not (is_text_byte b)

abbrev pub first_strange : List ℕ → Option ℕ
first_strange file = position is_strange file

abbrev pub has_nul : List ℕ → Bool
has_nul file = list_any (λ b. b == 0) file

-- what a terminal gets in the place of a byte: one that it might take for an order is a question mark
abbrev pub printed_byte : ℕ → ℕ
printed_byte b = if is_strange b then question_mark else b

-- the text of a document, for a terminal
abbrev pub printable : List ℕ → List ℕ
printable text = map printed_byte (exported text)

-- the place behind a text that begins at this line and column: each CR ends a line
abbrev pub place_from : ℕ → ℕ → List ℕ → Place
place_from line column [] = record { line = line; column = column }
place_from line column (b ∷ text) =
    if b == carriage_return then place_from (line + 1) 1 text else place_from line (column + 1) text

abbrev pub place_of : List ℕ → Place
place_of text = place_from 1 1 text

-- where the byte of a file at an index stands
abbrev pub place_in : List ℕ → ℕ → Place
place_in file index = place_of (document_of (take index file))

-- the text, where no byte of the file is strange
abbrev pub unless_strange : List ℕ → Option ℕ → Result (List ℕ) Unfit
unless_strange file None = Ok (document_of file)
unless_strange file (Some index) = Err (Strange index (place_in file index))

-- the text, or why the file is no document
abbrev pub imported : List ℕ → Result (List ℕ) Unfit
imported file =
    if nat_lt MOST_BYTES (length (document_of file)) then Err TooLong
    else if has_nul file then Err NoText
    else unless_strange file (first_strange file)
