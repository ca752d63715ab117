use Rattle.std.proofs.Common.{◌∙◌, subst}
use Rattle.std.proofs.lemmas.Result.{IfOk-weaker}
use Rattle.past_pages.proofs.StillReads.{still_none}
use Rattle.past_looks.specs.Looking.{StaysOrTurns}
use Rattle.past_looks.proofs.Carrying.{does_same, looker_same, stays_none, stays_read}
use Rattle.past_looks.proofs.looker.Looker.press.Goals as goal

-- ---- a turn

pub returns-in-Turn-clause-does : goal.returns-in-Turn-clause-does
returns-in-Turn-clause-does g c = IfOk-weaker c.turn.result _ _ (λ doing does.
    does_same g.D.Disk doing _ _ _ _ _ c.wish_of.ensures.same does) c.turn.ensures.does

pub returns-in-Turn-clause-any_moment : goal.returns-in-Turn-clause-any_moment
returns-in-Turn-clause-any_moment g c = λ is.
    subst (λ k. StaysOrTurns g.D.Disk k c.args.store.now c.turn.new.store) c.wish_of.ensures.same.shown
    (c.turn.ensures.any_moment (looker_same g.D.Disk c.wish_of.ensures.same is))

-- ---- the person goes back

pub returns-in-Leave-clause-does : goal.returns-in-Leave-clause-does
returns-in-Leave-clause-does g c = still_none g.D.Disk _ c.requires

pub returns-in-Leave-clause-any_moment : goal.returns-in-Leave-clause-any_moment
returns-in-Leave-clause-any_moment g c = λ is. stays_none g.D.Disk c.requires

-- ---- the person looks on

pub returns-in_ok-change-in_default-clause-does : goal.returns-in_ok-change-in_default-clause-does
returns-in_ok-change-in_default-clause-does g c = (
  c.change.ensures.still,
  c.change.ensures.shown ∙ c.wish_of.ensures.same.shown,
  λ is. c.in_ok-change-in_default.ensures.looker (looker_same g.D.Disk c.wish_of.ensures.same is),
)

pub returns-in_ok-change-in_default-clause-any_moment : goal.returns-in_ok-change-in_default-clause-any_moment
returns-in_ok-change-in_default-clause-any_moment g c = λ is. stays_read g.D.Disk c.change.ensures.still
