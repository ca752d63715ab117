-- The bytes of some characters.
use Rattle.std.specs.Prelude.{ℕ, ◌+◌, Bool, ◌&&◌, ◌==◌, nat_le, if◌then◌else◌}
pub use Rattle.event_bytes.specs.Bytes.{tabulator, line_feed, period, question_mark}

abbrev pub space : ℕ
space = 32

abbrev pub hyphen : ℕ
hyphen = 45

abbrev pub greater_than : ℕ
greater_than = 62

abbrev pub vertical_bar : ℕ
vertical_bar = 124

-- a number below ten as a digit
abbrev pub digit : ℕ → ℕ
digit n = 48 + n

-- from the space to the tilde
abbrev pub is_printable : ℕ → Bool
is_printable b = nat_le space b && nat_le b 126

-- the byte that is shown for one: a space for a tabulator, and a question mark for what isn't printable
unfoldable pub shown_byte : ℕ → ℕ
shown_byte b = if b == tabulator then space else (if is_printable b then b else question_mark)
