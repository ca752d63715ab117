-- What a command would take as names, as it is seen behind its word.
use Rattle.std.specs.Prelude.{ℕ, Bool, false, not, ◌&&◌, ◌||◌, ◌==◌, nat_lt, if◌then◌else◌, List, [], ◌∷◌, ◌++◌, min}
use Rattle.std.specs.Prelude.{length, map, take, drop, position, unwrap_or, slice_get, Option, Some, None, codes}
use Rattle.std.specs.Str.{bytes_eq}
use Rattle.event_bytes.specs.Bytes.{is_name_byte}
use Rattle.viewer_tracks.specs.declared.display.TheConstants.{COLUMNS}
use Rattle.screen_pictures.specs.declared.cell.Cell.{Cell}
use Rattle.screen_reading.specs.Along.{shows_text}
use Rattle.screen_reading.specs.Called.{called_word}
use Rattle.status_line.specs.declared.named.Part.{Part}
use Rattle.status_line.specs.declared.named.Part.TheVariants.{Text, Name, Blank, Odd, Letter, Listed}
use Rattle.status_line.specs.declared.question.Question.{Question}
use Rattle.status_line.specs.declared.question.Question.TheVariants.{Deleting, Misnamed}

-- a character that is neither a blank nor one of a name
abbrev pub is_odd : ℕ → Bool
is_odd b = not (b == 32) && not (is_name_byte b)

abbrev pub is_part : Part → Cell → Bool
is_part Text cell = shows_text cell.mark
is_part Name cell = is_name_byte cell.ch
is_part Blank cell = cell.ch == 32
is_part Odd cell = is_odd cell.ch
is_part Letter cell = not (cell.ch == 32)
is_part Listed cell = (cell.ch == 32) || is_name_byte cell.ch

-- how many cells from the first on are such ones
abbrev pub part_run : Part → List Cell → ℕ
part_run part cells = unwrap_or (position (λ cell. not (is_part part cell)) cells) (length cells)

abbrev pub behind_part : Part → List Cell → List Cell
behind_part part cells = drop (part_run part cells) cells

-- the cells of a text from a column on to the end of its row
abbrev pub row_text : List Cell → ℕ → List Cell
row_text row x = take (part_run Text (drop x row)) (drop x row)

abbrev pub text_on : Option (List Cell) → ℕ → List Cell
text_on None x = []
text_on (Some row) x = row_text row x

unfoldable pub text_from : List (List Cell) → ℕ → ℕ → List Cell
text_from screen x y = if nat_lt x COLUMNS then text_on (slice_get screen y) x else []

-- what stands behind the word at column x and row y, and the blanks after it
abbrev pub behind_call : List (List Cell) → ℕ → ℕ → List Cell
behind_call screen x y = behind_part Blank (behind_part Name (text_from screen x y))

-- how many cells the characters take up to the next blank
abbrev pub whole_length : List Cell → ℕ
whole_length cells = part_run Letter cells

-- A name goes on with characters that no name has, and then with one that names have.
abbrev pub begins_with_name : List Cell → Bool
begins_with_name [] = false
begins_with_name (cell ∷ cells) = is_name_byte cell.ch

abbrev pub goes_on_oddly : List Cell → Bool
goes_on_oddly cells = nat_lt 0 (part_run Name cells)
    && (nat_lt 0 (part_run Odd (behind_part Name cells))
    && begins_with_name (behind_part Odd (behind_part Name cells)))

abbrev pub deletes : List ℕ → Bool
deletes word = bytes_eq word (codes "System.DeleteFiles")

abbrev pub opens : List ℕ → Bool
opens word = bytes_eq word (codes "Edit.Open") || bytes_eq word (codes "System.Open")

-- What is asked about the word that is called at a cell: it deletes documents, or opens one whose name isn't all that
-- stands there.
unfoldable pub named_question : List (List Cell) → ℕ → ℕ → Option Question
named_question screen x y =
    if deletes (called_word screen x y) then Some (Deleting x y) else
    (if opens (called_word screen x y) && goes_on_oddly (behind_call screen x y)
    then Some (Misnamed x y) else None)

-- ---- in words

abbrev pub row_characters : List Cell → List ℕ
row_characters cells = map (λ cell. cell.ch) cells

-- the names that are seen behind the word, up to what is none; two periods where they may go on in the next row
unfoldable pub deleting_words : List Cell → List ℕ
deleting_words cells =
    if part_run Listed cells == 0
    then codes "Press again to delete what is named there" else
    codes "Press again to delete: " ++ row_characters (take (min (part_run Listed cells) 54) cells)
    ++ (if part_run Listed cells == length cells then codes " .." else [])

-- the word that is no name, as far as there is room, and the name that it begins with
unfoldable pub misnamed_words : List Cell → List ℕ
misnamed_words cells =
    row_characters (take (min (whole_length cells) 20) cells)
    ++ codes " is no name: press again for "
    ++ row_characters (take (min (part_run Name cells) 31) cells)

-- the same in fewer words
unfoldable pub misnamed_shortly : List Cell → List ℕ
misnamed_shortly cells = codes "No name: press again for "
    ++ row_characters (take (min (part_run Name cells) 31) cells)
