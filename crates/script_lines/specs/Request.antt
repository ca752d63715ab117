-- What a line of a script asks for.
use Rattle.std.specs.Prelude.{ℕ, Bool, ◌&&◌, nat_le, if◌then◌else◌, List, [], ◌∷◌, length, Option, Some, None, unwrap_or}
use Rattle.std.specs.Prelude.{codes}
use Rattle.std.specs.List.{list_all}
use Rattle.std.specs.Map.{lookup}
use Rattle.std.specs.Str.{bytes_eq}
use Rattle.event_bytes.specs.Bytes.{is_name, is_file_bytes, is_typed_bytes}
use Rattle.event_bytes.specs.declared.event.Event.TheVariants.{Typed, Key, Mark, Point, File}
use Rattle.event_bytes.specs.declared.keys.Keys.{Keys}
use Rattle.screen_pictures.specs.Bytes.{is_printable}
use Rattle.script_lines.specs.declared.request.TheConstants.{LONGEST_LINE}
use Rattle.script_lines.specs.declared.request.Request.{Request}
use Rattle.script_lines.specs.declared.request.Request.TheVariants.{Post, Checkpoint, Show, Listing, Display, Malformed}
use Rattle.script_lines.specs.Words.{first_word, argument, ◌>>=◌, leading, to_number, key_named, keys_named}
use Rattle.script_lines.specs.Percent.{meant}

-- the value, where it passes the test
abbrev pub passing : {A : Type 0} → (A → Bool) → Option A → Option A
passing test value = value >>= λ x. if test x then Some x else None

-- ---- a line by what stands after its first word and one space

-- the cell by column and row
abbrev pub mark_request : List ℕ → Option Request
mark_request text = leading to_number text >>= λ x. to_number x.1 >>= λ y. Some (Post (Mark x.0 y))

-- the keys, the cell where they go down and the cell where they go up
abbrev pub point_of : List ℕ → Option Request
point_of text = leading keys_named text >>= λ keys. leading to_number keys.1 >>= λ x0.
    leading to_number x0.1 >>= λ y0. leading to_number y0.1 >>= λ x1. to_number x1.1 >>= λ y1.
    Some (Post (Point keys.0 x0.0 y0.0 x1.0 y1))

-- the request of keys and of the columns and rows of these cells
abbrev pub pointing : Keys × ℕ × ℕ × ℕ × ℕ → Request
pointing drag = Post (Point drag.0 drag.1 drag.2 drag.3 drag.4)

-- the file's name and its bytes
abbrev pub file_request : List ℕ → List ℕ → Option Request
file_request name text = passing is_file_bytes (meant text)
    >>= λ bytes. if is_name name then Some (Post (File name bytes)) else None

-- ---- a line

-- a line of one word, or of a word, one space, and what stands after it
unfoldable pub command_of : List ℕ → Option (List ℕ) → Option Request
command_of name None = lookup (bytes_eq name) ((codes "list", Listing) ∷ (codes "screen", Display)
    ∷ (codes "checkpoint", Checkpoint) ∷ [])
command_of name (Some rest) = lookup (bytes_eq name) (
    (codes "type", passing is_typed_bytes (meant rest) >>= λ bytes. Some (Post (Typed bytes)))
    ∷ (codes "key", key_named rest >>= λ key. Some (Post (Key key)))
    ∷ (codes "mark", mark_request rest)
    ∷ (codes "point", point_of rest)
    ∷ (codes "file", file_request (first_word rest) (unwrap_or (argument rest) []))
    ∷ (codes "show", if is_name rest then Some (Show rest) else None) ∷ [])
    >>= λ asked. asked

abbrev pub is_readable : List ℕ → Bool
is_readable line = nat_le (length line) LONGEST_LINE && list_all is_printable line

unfoldable pub request_of : List ℕ → Request
request_of line = if is_readable line
    then unwrap_or (command_of (first_word line) (argument line)) Malformed else Malformed

-- ---- words of the code

abbrev pub longest_line : ℕ
longest_line = LONGEST_LINE

-- the bytes that a text stands for, where a file can have them
unfoldable pub file_bytes_of : List ℕ → Option (List ℕ)
file_bytes_of text = passing is_file_bytes (meant text)

-- the bytes that a text stands for, where they can be typed
unfoldable pub typed_bytes_of : List ℕ → Option (List ℕ)
typed_bytes_of text = passing is_typed_bytes (meant text)

abbrev pub typed_of : List ℕ → Option Request
typed_of text = passing is_typed_bytes (meant text) >>= λ bytes. Some (Post (Typed bytes))

abbrev pub key_request : List ℕ → Option Request
key_request name = key_named name >>= λ key. Some (Post (Key key))

abbrev pub show_of : List ℕ → Option Request
show_of name = if is_name name then Some (Show name) else None

-- what the text of a line asks for that types it, where each byte of it stands for itself
abbrev pub typed_plain : List ℕ → Request
typed_plain text = if is_typed_bytes text then Post (Typed text) else Malformed
