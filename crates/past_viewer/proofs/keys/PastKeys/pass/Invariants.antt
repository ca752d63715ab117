use Rattle.std.proofs.Common.{◌≡◌, drop}
use Rattle.past_viewer.specs.Calling.{pastes_behind}
use Rattle.terminal_keyboard.specs.Presses.{parser_after}
use Rattle.past_viewer.proofs.keys.PastKeys.pass.Given as goal

abbrev pub invariant-loop-one : goal.invariant-loop-one
invariant-loop-one g l =
    (parser_after l.fn.self.parser l.told ≡ parser_after l.parser (drop l.one-index l.told))
    × (pastes_behind l.fn.self.parser l.fn.self.pastes l.told ≡ pastes_behind l.parser l.pastes (drop l.one-index l.told))
