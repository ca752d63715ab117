-- Bytes by kind, and which of them may stand in a name and in a file.
use Rattle.std.specs.Prelude.{ℕ, Bool, false, ◌&&◌, ◌||◌, ◌==◌, nat_le, List, [], ◌∷◌, length}
use Rattle.std.specs.List.{list_all}

abbrev pub tabulator : ℕ
tabulator = 9

abbrev pub carriage_return : ℕ
carriage_return = 13

abbrev pub line_feed : ℕ
line_feed = 10

abbrev pub question_mark : ℕ
question_mark = 63

abbrev pub period : ℕ
period = 46

-- from low up to high, both ends included
abbrev pub lies_within : ℕ → ℕ → ℕ → Bool
lies_within low high b = nat_le low b && nat_le b high

-- A to Z, a to z
unfoldable pub is_letter : ℕ → Bool
is_letter b = lies_within 65 90 b || lies_within 97 122 b

-- 0 to 9
unfoldable pub is_digit : ℕ → Bool
is_digit b = lies_within 48 57 b

-- a letter, a digit or a period
unfoldable pub is_name_byte : ℕ → Bool
is_name_byte b = is_letter b || (is_digit b || (b == period))

-- a tabulator, a carriage return, or a byte from the space to the tilde
unfoldable pub is_text_byte : ℕ → Bool
is_text_byte b = (b == tabulator) || ((b == carriage_return) || lies_within 32 126 b)

-- the first byte passes the test
abbrev pub begins : (ℕ → Bool) → List ℕ → Bool
begins test [] = false
begins test (b ∷ bs) = test b

-- a letter, and then letters, digits and periods: 1 to 31 bytes
abbrev pub is_name : List ℕ → Bool
is_name bs = nat_le (length bs) 31 && (begins is_letter bs && list_all is_name_byte bs)

-- what one event can put into a file: 0 to 900 bytes of a text
abbrev pub is_file_bytes : List ℕ → Bool
is_file_bytes bs = nat_le (length bs) 900 && list_all is_text_byte bs

-- what one event can type: 1 to 900 bytes of a text
abbrev pub is_typed_bytes : List ℕ → Bool
is_typed_bytes bs = nat_le 1 (length bs) && is_file_bytes bs
