use Rattle.std.proofs.Common.{◌≡◌, length}
use Rattle.terminal_keyboard.specs.HostPastes.{harmless}
use Rattle.past_viewer.proofs.Places.{changed_to}
use Rattle.past_viewer.proofs.held.make_harmless.Given as goal

abbrev pub invariant-loop-i : goal.invariant-loop-i
invariant-loop-i l = (length l.text ≡ length l.fn.text) × (l.text ≡ changed_to harmless l.i l.fn.text)
