use Rattle.std.proofs.Common.{refl}
use Rattle.screen_reading.specs.Aims.{caret_cell}
use Rattle.screen_reading.proofs.aim.caret_of.Goals as goal

pub returns-in-None-clause-value : goal.returns-in-None-clause-value
unfolding caret_cell
returns-in-None-clause-value c = rw (← c.rows-rows.ensures, ← c.in_ok-y.ensures.value, ← c.in-None.ensures.value) refl
