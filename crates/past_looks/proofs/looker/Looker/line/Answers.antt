use Rattle.past_looks.proofs.looker.Looker.line.Goals as goal

pub returns-in-Some : goal.returns-in-Some
returns-in-Some c = rw c.in-Some.ensures c.asked_line.ensures
