-- Reading the event that bytes begin with.
use Rattle.std.specs.Prelude.{ℕ, if◌then◌else◌, ◌==◌, List, Some, None}
use Rattle.event_bytes.specs.Bytes.{is_name, is_file_bytes, is_typed_bytes}
use Rattle.event_bytes.specs.Keys.{key_numbered, keys_of}
use Rattle.event_bytes.specs.Parts.{Reader, ◌>>=◌, when, byte_at, pair_at, counted_at, three_at}
use Rattle.event_bytes.specs.declared.keys.Key.{Key as KeyOf}
use Rattle.event_bytes.specs.declared.keys.Keys.{Keys}
use Rattle.event_bytes.specs.declared.event.Cell.{Cell}
use Rattle.event_bytes.specs.declared.event.Drag.{Drag}
use Rattle.event_bytes.specs.declared.event.Event.{Event}
use Rattle.event_bytes.specs.declared.event.Event.TheVariants.{Typed, Key, Mark, Point, File}

unfoldable pub name_at : Reader (List ℕ)
name_at bytes = when is_name (counted_at byte_at) bytes

unfoldable pub file_bytes_at : Reader (List ℕ)
file_bytes_at bytes = when is_file_bytes (counted_at pair_at) bytes

unfoldable pub typed_bytes_at : Reader (List ℕ)
typed_bytes_at bytes = when is_typed_bytes (counted_at pair_at) bytes

unfoldable pub event_file_at : Reader (List ℕ × List ℕ)
event_file_at bytes = do
  name ← name_at bytes
  text ← file_bytes_at name.1
  Some ((name.0, text.0), text.1)

unfoldable pub key_at : Reader KeyOf
key_at bytes = do
  number ← byte_at bytes
  key ← key_numbered number.0
  Some (key, number.1)

unfoldable pub keys_at : Reader Keys
keys_at bytes = do
  number ← byte_at bytes
  keys ← keys_of number.0
  Some (keys, number.1)

-- a column and a row
unfoldable pub event_cell_at : Reader Cell
event_cell_at bytes = do
  x ← byte_at bytes
  y ← byte_at x.1
  Some (record { x = x.0; y = y.0 }, y.1)

-- keys, and the cells where they were pressed and released
unfoldable pub drag_at : Reader Drag
drag_at bytes =
    three_at keys_at event_cell_at event_cell_at
    (λ keys pressed released. record { keys = keys; pressed = pressed; released = released }) bytes

-- the bodies of the five kinds
unfoldable pub typed_body_at : Reader Event
typed_body_at bytes = do
  typed ← typed_bytes_at bytes
  Some (Typed typed.0, typed.1)

unfoldable pub key_body_at : Reader Event
key_body_at bytes = do
  key ← key_at bytes
  Some (Key key.0, key.1)

unfoldable pub mark_body_at : Reader Event
mark_body_at bytes = do
  cell ← event_cell_at bytes
  Some (Mark cell.0.x cell.0.y, cell.1)

unfoldable pub point_body_at : Reader Event
point_body_at bytes = do
  drag ← drag_at bytes
  Some (
    Point drag.0.keys drag.0.pressed.x drag.0.pressed.y drag.0.released.x drag.0.released.y,
    drag.1,
  )

unfoldable pub file_body_at : Reader Event
file_body_at bytes = do
  file ← event_file_at bytes
  Some (File file.0.0 file.0.1, file.1)

-- what follows the number of a kind
unfoldable pub body_at : ℕ → Reader Event
body_at number bytes =
    if number == 1 then typed_body_at bytes else
    (if number == 2 then key_body_at bytes else
    (if number == 3 then mark_body_at bytes else
    (if number == 4 then point_body_at bytes else
    (if number == 5 then file_body_at bytes else None))))

unfoldable pub event_at : Reader Event
event_at bytes = do
  number ← byte_at bytes
  body_at number.0 number.1
