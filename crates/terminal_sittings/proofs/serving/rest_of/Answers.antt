use Rattle.std.proofs.Common.{ap}
use Rattle.std.specs.Prelude.{is_some}
use Rattle.terminal_sittings.proofs.Fetching.{none_asked, none_wanted, one_asked}
use Rattle.terminal_sittings.proofs.serving.rest_of.Goals as goal

pub returns-then-not-sitting-clause-asks : goal.returns-then-not-sitting-clause-asks
returns-then-not-sitting-clause-asks g c =
    none_wanted _ _ c.args.sitting.now.completes c.args.sitting.now.hand.asked c.if-not-sitting.true

pub returns-in-None-clause-asks : goal.returns-in-None-clause-asks
returns-in-None-clause-asks g c =
    none_asked _ _ c.args.sitting.now.completes c.args.sitting.now.hand.asked
    (c.asked.ensures.none.0 (ap is_some c.in-None.is))

pub returns-in-Some-clause-asks : goal.returns-in-Some-clause-asks
returns-in-Some-clause-asks g c =
    one_asked _ _ c.args.sitting.now.completes c.args.sitting.now.hand.asked c.in-Some.name.now _
    c.if-not-sitting.false (rw c.in-Some.is at c.asked.ensures.name) c.complete.ensures.asked
