-- Names of host files, numbers of lines, and words that are sought.
use Rattle.std.specs.Prelude.{ℕ, ◌+◌, ◌-◌, ◌*◌, ◌^◌, Bool, ◌&&◌, if◌then◌else◌, min, nat_le, List, [], fold, length, take}
use Rattle.std.specs.List.{list_all}
use Rattle.event_bytes.specs.Bytes.{lies_within}
use Rattle.host_names.specs.declared.host_name.TheConstants.{MOST_SOUGHT}

-- a byte from the space to the tilde
abbrev pub is_host_byte : ℕ → Bool
is_host_byte b = lies_within 32 126 b

-- at most 255 such bytes
abbrev pub is_host_name : List ℕ → Bool
is_host_name name = nat_le (length name) 255 && list_all is_host_byte name

abbrev pub but_last : List ℕ → List ℕ
but_last name = take (length name - 1) name

-- words that are sought: at most 31 such bytes
abbrev pub are_words : List ℕ → Bool
are_words bytes = nat_le (length bytes) MOST_SOUGHT && list_all is_host_byte bytes

-- bytes that can be typed as words, and none where they can't
abbrev pub words_kept : List ℕ → List ℕ
words_kept bytes = if are_words bytes then bytes else []

-- as many bytes as are sought
abbrev pub first_words : List ℕ → List ℕ
first_words bytes = take MOST_SOUGHT bytes

-- The number that digits make of one in front of them, as far as it is counted.
abbrev pub longer_line : ℕ → ℕ → ℕ
longer_line n b = min (n * 10 + (b - 48)) (2 ^ 32 - 1)

abbrev pub line_number : List ℕ → ℕ
line_number digits = fold longer_line 0 digits
