use Rattle.past_looks.proofs.looker.Looker.turn.Goals as goal

-- ---- the store is turned

pub returns-then-branch-clause-does : goal.returns-then-branch-clause-does
returns-then-branch-clause-does g c = c.in_ok-turn_back.ensures.turned c.if-branch.true
