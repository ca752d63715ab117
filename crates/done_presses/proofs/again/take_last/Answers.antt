use Rattle.std.proofs.Common.{◌∙◌, ◌-◌, ap, arith}
use Rattle.std.specs.Prelude.{take}
use Rattle.done_presses.proofs.Popped.{popped}
use Rattle.done_presses.proofs.again.take_last.Goals as goal

pub returns-clause-last : goal.returns-clause-last
returns-clause-last c = popped _ _ _ c.args.events.now.items _ (omega (arith, c.args.events.now.ok))
    c.pop.ensures.value c.pop.ensures.cases

pub returns-clause-rest : goal.returns-clause-rest
returns-clause-rest c = c.pop.ensures.rest
    ∙ ap (λ n. take (n - 1) c.args.events.now.items) (omega (arith, c.args.events.now.ok))
