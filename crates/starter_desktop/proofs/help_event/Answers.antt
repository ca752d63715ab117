use Rattle.std.proofs.Common.{◌≡◌, true, refl, rules}
use Rattle.event_bytes.specs.Bytes.{is_letter, is_digit, is_name_byte, is_text_byte, is_name, is_file_bytes}
use Rattle.starter_desktop.specs.declared.TheConstants.{HELP_NAME, HELP_TEXT}
use Rattle.starter_desktop.proofs.Made.{there}
use Rattle.starter_desktop.proofs.help_event.Goals as goal

name_is_one : is_name HELP_NAME.now ≡ true
unfolding is_letter is_digit is_name_byte
name_is_one = refl

text_is_one : is_file_bytes HELP_TEXT.now ≡ true
unfolding is_text_byte
text_is_one = refl

pub unwrap-requires : goal.unwrap-requires
unwrap-requires c = there _ _ _ c.new.ensures name_is_one

pub unwrap-requires-2 : goal.unwrap-requires-2
unwrap-requires-2 c = there _ _ _ c.new-2.ensures text_is_one

pub returns : goal.returns
returns c = search (rules, name_is_one, text_is_one, c.new.ensures, c.new-2.ensures, c.unwrap.ensures, c.unwrap-2.ensures)
