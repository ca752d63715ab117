use Rattle.std.proofs.Common.{◌≡◌}
use Rattle.past_looks.specs.Looking.{IsLookerOf}
use Rattle.past_looks.proofs.looker.Looker.scroll.Given as goal

-- what is shown so far is seen of the same moment
abbrev pub invariant-loop-event : goal.invariant-loop-event
invariant-loop-event g l = (l.self.shown ≡ l.fn.self.shown)
    × (IsLookerOf g.D.Disk l.fn.self l.fn.store → IsLookerOf g.D.Disk l.self l.fn.store)
