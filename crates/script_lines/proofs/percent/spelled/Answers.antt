use Rattle.std.proofs.lemmas.List.{nil_from_length}
use Rattle.script_lines.proofs.Escapes.{spelled_all}
use Rattle.script_lines.proofs.percent.spelled.Goals as goal

pub returns : goal.returns
returns c = spelled_all _ _ _ c.loop-first.invariant.0
    (nil_from_length _ c.in_default.ensures.cases) c.loop-first.invariant.1
