-- What a byte says that stands by itself.
use Rattle.std.specs.Prelude.{ℕ, ◌==◌, ◌||◌, nat_lt, if◌then◌else◌, Option, Some, None}
use Rattle.event_bytes.specs.Bytes.{is_text_byte}
use Rattle.terminal_presses.specs.declared.press.Press.{Press}
use Rattle.terminal_presses.specs.declared.press.Press.TheVariants.{Character, Foreign, Control, Back, Escape}

abbrev pub escape_byte : ℕ
escape_byte = 27

-- none for a byte from 128 to 191, which goes on with a character of several bytes that its first byte has told
unfoldable pub single : ℕ → Option Press
single b =
    if b == escape_byte then Some Escape else
    (if is_text_byte b then Some (Character b) else
    (if (b == 8) || (b == 127) then Some Back else
    (if nat_lt b 32 then Some (Control b) else
    (if nat_lt b 192 then None else Some Foreign))))
