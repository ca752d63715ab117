-- How a line is cut that has more characters than a window has columns: its first words stay, and they stay whole.
use Rattle.std.specs.Prelude.{ℕ, zero, suc, ◌+◌, ◌==◌, ◌&&◌, ◌||◌, Bool, true, false, nat_le, if◌then◌else◌, List, length, take, slice_get}
use Rattle.std.specs.Prelude.{unwrap_or}

abbrev pub letter_at : List ℕ → ℕ → ℕ
letter_at line n = unwrap_or (slice_get line n) 0

-- a comma, a colon, a semicolon or a period
abbrev pub is_mark : ℕ → Bool
is_mark b = (b == 44) || ((b == 58) || ((b == 59) || (b == 46)))

-- whether a part of a line ends before its byte of that number: a mark stands there, and a blank behind it
unfoldable pub part_ends : List ℕ → ℕ → Bool
part_ends line n = is_mark (letter_at line n) && (letter_at line (n + 1) == 32)

-- whether a word does: a blank stands there
unfoldable pub word_ends : List ℕ → ℕ → Bool
word_ends line n = letter_at line n == 32

abbrev pub ends : Bool → List ℕ → ℕ → Bool
ends parts line n = if parts then part_ends line n else word_ends line n

-- the last of the numbers from 1 up to n before which a part ends, or a word; 0 where there is none
unfoldable pub last_cut : Bool → List ℕ → ℕ → ℕ
last_cut parts line zero = 0
last_cut parts line (suc n) = if ends parts line (suc n) then suc n else last_cut parts line n

abbrev pub unless_none : ℕ → ℕ → ℕ
unless_none n other = if n == 0 then other else n

-- how many characters stay of a line where there is room for w: its last word that fits ends there, or else all are one word
unfoldable pub kept_by_words : ℕ → List ℕ → ℕ
kept_by_words w line = unless_none (last_cut false line w) w

-- and where the line is cut behind a part, if one fits
unfoldable pub kept_by_parts : ℕ → List ℕ → ℕ
kept_by_parts w line = unless_none (last_cut true line w) (kept_by_words w line)

-- a line in so many columns: whole, or up to its last word that fits
unfoldable pub words_within : ℕ → List ℕ → List ℕ
words_within w line = if nat_le (length line) w then line else take (kept_by_words w line) line

-- whole, or up to its last part that fits
unfoldable pub parts_within : ℕ → List ℕ → List ℕ
parts_within w line = if nat_le (length line) w then line else take (kept_by_parts w line) line

-- a line, or another one where there is no room for it
abbrev pub or_shorter : ℕ → List ℕ → List ℕ → List ℕ
or_shorter w line short = if nat_le (length line) w then line else short
