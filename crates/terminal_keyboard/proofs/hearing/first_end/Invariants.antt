use Rattle.std.proofs.Common.{◌≡◌, ◌+◌, false, drop}
use Rattle.terminal_keyboard.specs.Hearings.{line_from}
use Rattle.terminal_keyboard.proofs.hearing.first_end.Given as goal

abbrev pub invariant-loop-i : goal.invariant-loop-i
invariant-loop-i l = line_from false l.heard ≡ l.i + line_from l.after_escape (drop l.i l.heard)
