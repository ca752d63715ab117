use Rattle.std.proofs.Common.{None, inl}
use Rattle.std.proofs.lemmas.Result.{IfOk-weaker}
use Rattle.past_pages.proofs.StillReads.{still_none}
use Rattle.past_viewer.specs.Viewing.IsViewed.{looked}
use Rattle.past_viewer.specs.Viewing.TakesScenes.{none}
use Rattle.past_viewer.specs.declared.viewer.Doing.TheVariants.{Stays}
use Rattle.past_looks.proofs.Carrying.{looker_same}
use Rattle.past_viewer.proofs.Showing.{does_same, leaves_none, looks_read, only_read_first}
use Rattle.past_viewer.proofs.viewer.Viewer.press.Goals as goal

-- ---- a copy

pub returns-in_ok-copy-in-Copy-clause-does : goal.returns-in_ok-copy-in-Copy-clause-does
returns-in_ok-copy-in-Copy-clause-does g c =
    does_same g.D.Disk Stays _ _ _ _ _ _ _ c.wish_of.ensures.same c.in_ok-copy-in-Copy.ensures.looks

-- ---- a turn

pub returns-in-Turn-clause-does : goal.returns-in-Turn-clause-does
returns-in-Turn-clause-does g c = IfOk-weaker c.turn.result _ _ (λ doing does.
    does_same g.D.Disk doing _ _ _ _ _ _ _ c.wish_of.ensures.same does) c.turn.ensures.does

pub returns-in-Turn-clause-any_moment : goal.returns-in-Turn-clause-any_moment
returns-in-Turn-clause-any_moment g c = λ is. c.turn.ensures.any_moment (looker_same g.D.Disk c.wish_of.ensures.same is)

-- ---- the person leaves

pub returns-in-Leave-clause-does : goal.returns-in-Leave-clause-does
returns-in-Leave-clause-does g c = λ is. looked (still_none g.D.Disk _ c.requires) None none

pub returns-in-Leave-clause-any_moment : goal.returns-in-Leave-clause-any_moment
returns-in-Leave-clause-any_moment g c = λ is. leaves_none g.D.Disk c.requires

-- ---- the person looks on

pub returns-in_ok-change-in_default-clause-does : goal.returns-in_ok-change-in_default-clause-does
returns-in_ok-change-in_default-clause-does g c = looks_read g.D.Disk c.change-in_default.ensures.still (λ is.
    c.in_ok-change-in_default.ensures.looker (looker_same g.D.Disk c.wish_of.ensures.same is))

pub returns-in_ok-change-in_default-clause-any_moment : goal.returns-in_ok-change-in_default-clause-any_moment
returns-in_ok-change-in_default-clause-any_moment g c = λ is. only_read_first g.D.Disk c.change-in_default.ensures.still

-- ---- what was copied

pub returns-in_ok-copy-in-Copy-clause-copied : goal.returns-in_ok-copy-in-Copy-clause-copied
returns-in_ok-copy-in-Copy-clause-copied g c = λ is.
    c.in_ok-copy-in-Copy.ensures.copied (looker_same g.D.Disk c.wish_of.ensures.same is)

pub returns-in-Turn-clause-copied : goal.returns-in-Turn-clause-copied
returns-in-Turn-clause-copied g c = IfOk-weaker c.turn.result _ _ (λ doing does is. inl c.turn.ensures.copied) c.turn.ensures.does
