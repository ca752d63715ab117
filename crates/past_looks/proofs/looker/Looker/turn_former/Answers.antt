use Rattle.past_looks.proofs.looker.Looker.turn_former.Goals as goal

-- ---- the store is turned, or it stays

pub returns-then-branch-clause-turned : goal.returns-then-branch-clause-turned
returns-then-branch-clause-turned g c = λ _. c.in_ok-turn_far.ensures.done c.if-branch.true

pub returns-else-branch-clause-stays : goal.returns-else-branch-clause-stays
returns-else-branch-clause-stays g c = λ _. (c.in_ok-turn_far.ensures.not_done c.if-branch.false).still
