use Rattle.std.proofs.Common.{◌∙◌}
use Rattle.past_pages.proofs.StillReads.{still_both}
use Rattle.past_looks.proofs.Carrying.{looker_same}
use Rattle.past_looks.proofs.looker.Looker.go.Goals as goal

pub returns-in_err-nearest-clause-shown : goal.returns-in_err-nearest-clause-shown
returns-in_err-nearest-clause-shown g c = c.nearest.ensures.shown ∙ c.goal_of.ensures.shown

pub returns-in_err-nearest-clause-still : goal.returns-in_err-nearest-clause-still
returns-in_err-nearest-clause-still g c = still_both g.D.Disk c.goal_of.ensures.still c.nearest.ensures.still

pub returns-clause-looker : goal.returns-clause-looker
returns-clause-looker g c = λ is.
    looker_same g.D.Disk c.wish.ensures.same (c.in_ok-nearest.ensures.looker (c.in_ok-to.ensures.looker is))

pub returns-clause-shown : goal.returns-clause-shown
returns-clause-shown g c = c.wish.ensures.same.shown ∙ c.nearest.ensures.shown ∙ c.goal_of.ensures.shown

pub returns-clause-still : goal.returns-clause-still
returns-clause-still g c = still_both g.D.Disk c.goal_of.ensures.still c.nearest.ensures.still
