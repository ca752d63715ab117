use Rattle.std.proofs.Common.{◌≡◌, length, take}
use Rattle.terminal_keyboard.specs.Spelling.{bytes_heard}
use Rattle.terminal_keyboard.proofs.hearing.Hearing.of_bytes.Given as goal

abbrev pub invariant-loop-i : goal.invariant-loop-i
invariant-loop-i l = (length l.room ≡ 64) × (take l.i l.room ≡ bytes_heard (take l.i l.heard))
