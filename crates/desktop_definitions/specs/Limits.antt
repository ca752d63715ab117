-- How much a desktop may hold, and the codes of refusals. The code's constants are these numbers, by a law.
use Rattle.std.specs.Prelude.{ℕ, ℤ, pos, neg_ℤ}
pub use Rattle.command_table.specs.Codes.{no_selection, wrong_symbol, no_viewer}
pub use Rattle.command_table.specs.Deciding.{most_files}
pub use Rattle.command_table.specs.Versions.{first_version, newest_version}

-- characters that count as written
abbrev pub most_written : ℕ
most_written = 4194304

-- characters held at one time
abbrev pub most_held : ℕ
most_held = 262144

-- bytes of a pattern
abbrev pub most_pattern : ℕ
most_pattern = 31

-- fonts and colours, which are numbered from 0
abbrev pub number_of_fonts : ℕ
number_of_fonts = 5

abbrev pub number_of_colours : ℕ
number_of_colours = 16

-- vertical offsets of characters
abbrev pub least_offset : ℤ
least_offset = neg_ℤ (pos 64)

abbrev pub greatest_offset : ℤ
greatest_offset = pos 63

-- the desktop would pass one of the limits on characters
abbrev pub full : ℕ
full = 6

abbrev pub too_many_files : ℕ
too_many_files = 8

abbrev pub no_caret : ℕ
no_caret = 1

abbrev pub no_command : ℕ
no_command = 4

abbrev pub no_file : ℕ
no_file = 5

abbrev pub outside : ℕ
outside = 9

abbrev pub not_found : ℕ
not_found = 10

abbrev pub bad_value : ℕ
bad_value = 11

abbrev pub too_deep : ℕ
too_deep = 12

abbrev pub too_low : ℕ
too_low = 13
