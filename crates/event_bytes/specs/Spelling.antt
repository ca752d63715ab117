-- Which values are events, and the bytes that spell one.
use Rattle.std.specs.Prelude.{◌≡◌, ◌<◌, ◌^◌, ℕ, List, [], ◌∷◌, ◌++◌, IsTrue}
use Rattle.event_bytes.specs.Bytes.{is_name, is_file_bytes, is_typed_bytes}
use Rattle.event_bytes.specs.Keys.{key_number, keys_number}
use Rattle.event_bytes.specs.Parts.{byte, word_bytes, counted_bytes}
use Rattle.event_bytes.specs.declared.event.Event.{Event}
use Rattle.event_bytes.specs.declared.event.Event.TheVariants.{Typed, Key, Mark, Point, File}

-- a number of one byte
abbrev pub IsByte : ℕ → Type 0
IsByte n = n < 2 ^ 8

abbrev pub IsEvent : Event → Type 0
IsEvent (Typed bytes) = IsTrue (is_typed_bytes bytes)
IsEvent (Key key) = Unit {0}
IsEvent (Mark x y) = IsByte x × IsByte y
IsEvent (Point keys x0 y0 x1 y1) = IsByte x0 × IsByte y0 × IsByte x1 × IsByte y1
IsEvent (File name bytes) = IsTrue (is_name name) × IsTrue (is_file_bytes bytes)

-- the number of an event's kind
abbrev pub kind : Event → ℕ
kind (Typed bytes) = 1
kind (Key key) = 2
kind (Mark x y) = 3
kind (Point keys x0 y0 x1 y1) = 4
kind (File name bytes) = 5

-- the bytes after that number: a name after its length in one byte, other bytes after theirs in two
abbrev pub event_body : Event → List ℕ
event_body (Typed bytes) = counted_bytes word_bytes bytes
event_body (Key key) = key_number key ∷ []
event_body (Mark x y) = x ∷ y ∷ []
event_body (Point keys x0 y0 x1 y1) = keys_number keys ∷ x0 ∷ y0 ∷ x1 ∷ y1 ∷ []
event_body (File name bytes) = counted_bytes byte name ++ counted_bytes word_bytes bytes

unfoldable pub spelling : Event → List ℕ
spelling event = kind event ∷ event_body event

-- the bytes begin with the spelling of the event; a rest may follow
pub record BeginsWithEvent (bytes : List ℕ) (event : Event) : Type 0 where
  pub valid : IsEvent event
  pub rest : List ℕ
  pub parts : bytes ≡ spelling event ++ rest
