-- Lines that are too long.
use Rattle.std.proofs.Common.{◌≡◌, ℕ, ◌<◌, List, length}
use Rattle.std.specs.List.{list_all}
use Rattle.std.specs.Prelude.{unwrap_or}
use Rattle.std.proofs.lemmas.Bool.{lt-leb, and_left, cond-false}
use Rattle.screen_pictures.specs.Bytes.{is_printable}
use Rattle.script_lines.specs.Request.{longest_line, is_readable, request_of, command_of}
use Rattle.script_lines.specs.Words.{first_word, argument}
use Rattle.script_lines.specs.declared.request.Request.TheVariants.{Malformed}

pub long_malformed : (line : List ℕ) → longest_line < length line → request_of line ≡ Malformed
unfolding request_of
long_malformed line long = cond-false (is_readable line)
    (unwrap_or (command_of (first_word line) (argument line)) Malformed) Malformed
    (and_left _ (list_all is_printable line) (lt-leb (length line) longest_line long))
