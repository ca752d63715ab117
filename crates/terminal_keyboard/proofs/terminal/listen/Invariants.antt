use Rattle.std.proofs.Common.{◌≡◌, [], false}
use Rattle.std.specs.Prelude.{◌+◌}
use Rattle.std.specs.Io.KnownBytes.{Consumes}
use Rattle.terminal_keyboard.proofs.terminal.listen.Given as goal

abbrev pub invariant-loop-count : goal.invariant-loop-count
invariant-loop-count g l =
    (Consumes (g.R.Read.remaining l.fn.reader) (g.R.Read.remaining l.reader) []) × (l.was_quiet ≡ l.fn.was_quiet)
    × (l.counts.failed ≡ l.fn.counts.failed) × (l.counts.idle ≡ l.fn.counts.idle + l._count)
    × (l.counts.foreign ≡ l.fn.counts.foreign) × (l.fn.was_quiet ≡ false → l.counts.empty ≡ l.fn.counts.empty)
