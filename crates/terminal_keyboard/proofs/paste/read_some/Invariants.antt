use Rattle.std.proofs.Common.{[]}
use Rattle.std.specs.Prelude.{◌≡◌}
use Rattle.std.specs.Io.KnownBytes.{Consumes}
use Rattle.terminal_keyboard.proofs.paste.read_some.Given as goal

abbrev pub invariant-loop : goal.invariant-loop
invariant-loop g l = Consumes (g.R.Read.remaining l.fn.reader) (g.R.Read.remaining l.reader) []
    × (l.failed ≡ l.fn.failed)
