use Rattle.std.proofs.Common.{refl}
use Rattle.past_pages.proofs.StillReads.{still_none}
use Rattle.past_looks.proofs.Carrying.{looker_moved}
use Rattle.past_looks.proofs.looker.Looker.goal_of.Goals as goal

pub returns-in_ok-step_back-in-StepBack-clause-looker : goal.returns-in_ok-step_back-in-StepBack-clause-looker
returns-in_ok-step_back-in-StepBack-clause-looker g c = λ is.
    looker_moved g.D.Disk c.step_back.ensures.still c.requires (c.shows_what_crashes_leave.ensures.quiet c.requires)
    c.args.self.now _ c.in_ok-step_back-in-StepBack.ensures.are refl refl refl is

pub returns-in_ok-step_forth-in-StepForth-clause-looker : goal.returns-in_ok-step_forth-in-StepForth-clause-looker
returns-in_ok-step_forth-in-StepForth-clause-looker g c = λ is.
    looker_moved g.D.Disk c.step_forth.ensures.still c.requires (c.shows_what_crashes_leave.ensures.quiet c.requires)
    c.args.self.now _ c.in_ok-step_forth-in-StepForth.ensures.are refl refl refl is

pub returns-in_ok-first_of-in-First-clause-looker : goal.returns-in_ok-first_of-in-First-clause-looker
returns-in_ok-first_of-in-First-clause-looker g c = λ is.
    looker_moved g.D.Disk c.first_of.ensures.still c.requires (c.shows_what_crashes_leave.ensures.quiet c.requires)
    c.args.self.now _ c.in_ok-first_of-in-First.ensures.are refl refl refl is

pub returns-in_default-clause-still : goal.returns-in_default-clause-still
returns-in_default-clause-still g c = still_none g.D.Disk _ c.requires
