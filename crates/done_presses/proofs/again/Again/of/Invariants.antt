use Rattle.std.proofs.Common.{◌≡◌}
use Rattle.done_presses.specs.Again.{many_back, no_again, unmade}
use Rattle.done_presses.specs.Past.{no_past, past_of}
use Rattle.done_presses.proofs.again.Again.of.Given as goal

-- so many presses were taken back
abbrev pub invariant-loop-count : goal.invariant-loop-count
invariant-loop-count l = unmade l.events.items l.past l.again
    ≡ many_back l._count (unmade l.fn.events.items (past_of l.fn.events.items no_past) no_again)
