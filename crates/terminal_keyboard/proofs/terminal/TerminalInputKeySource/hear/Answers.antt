use Rattle.std.proofs.Common.{ap, sym, ◌∙◌}
use Rattle.terminal_keyboard.specs.Hearings.{heard_bytes, kept_for_later}
use Rattle.terminal_keyboard.proofs.Hearings.{bytes_of_both, told_and_kept}
use Rattle.terminal_keyboard.proofs.terminal.TerminalInputKeySource.hear.Goals as goal

pub returns-clause-bytes : goal.returns-clause-bytes
returns-clause-bytes g c =
    let line = c.split-line.result.0 in
    let later = kept_for_later c.split-line.result.1 in
    told_and_kept _ _ (heard_bytes line) (heard_bytes later) _ c.in_ok-heard.ensures.bytes
    (ap heard_bytes (sym c.split-line.ensures.parts) ∙ bytes_of_both line later)
