use Rattle.std.proofs.Common.{◌∙◌}
use Rattle.std.proofs.lemmas.Result.{IfOk-at_ok, IfOk-weaker}
use Rattle.past_looks.proofs.Carrying.{comes_far, comes_near, looker_alike, looker_on, looker_same, stays_far, stays_near, stays_none, stays_read}
use Rattle.past_looks.proofs.looker.Looker.turn_back.Goals as goal

-- ---- it is one of a former part

pub returns-then-is_former-clause-turned : goal.returns-then-is_former-clause-turned
returns-then-is_former-clause-turned g c = IfOk-weaker c.turn_former.result _ _ (λ done turned did is.
    comes_far g.D.Disk c.args.self.now (c.is_former.ensures.yes c.if-is_former.true) (turned did) is)
    c.turn_former.ensures.turned

pub returns-then-is_former-clause-stays : goal.returns-then-is_former-clause-stays
returns-then-is_former-clause-stays g c = IfOk-weaker c.turn_former.result _ _ (λ done stays undone. (
  stays undone,
  λ is. looker_same g.D.Disk c.turn_former.ensures.same
      (looker_on g.D.Disk (stays undone) c.requires (c.shows_what_crashes_leave.ensures.quiet c.requires) c.args.self.now is),
))
    c.turn_former.ensures.stays

pub returns-then-is_former-clause-any_moment : goal.returns-then-is_former-clause-any_moment
returns-then-is_former-clause-any_moment g c = λ is.
    stays_far g.D.Disk c.args.self.now (c.is_former.ensures.yes c.if-is_former.true) c.turn_former.ensures.any_moment is

-- ---- the moment can't be copied

pub returns-in_err-copy-clause-any_moment : goal.returns-in_err-copy-clause-any_moment
returns-in_err-copy-clause-any_moment g c = λ is. stays_none g.D.Disk c.requires

pub returns-in_err-to-clause-any_moment : goal.returns-in_err-to-clause-any_moment
returns-in_err-to-clause-any_moment g c = λ is. stays_none g.D.Disk c.requires

-- ---- the turn fails

pub returns-in_err-turn_to-clause-any_moment : goal.returns-in_err-turn_to-clause-any_moment
returns-in_err-turn_to-clause-any_moment g c = λ is.
    let same = IfOk-at_ok _ c.in_ok-to.ensures c.gathered.ensures.shown tt ∙ c.in_ok-copy.ensures.copy in
    stays_near g.D.Disk c.args.self.now c.in_ok-to.to.desktop same (c.is_former.ensures.no c.if-is_former.false)
    c.turn_to.ensures.any_store c.turn_to.ensures.any_moment is

-- ---- the store is turned

pub returns-then-branch-clause-turned : goal.returns-then-branch-clause-turned
returns-then-branch-clause-turned g c = λ _ is.
    let same = IfOk-at_ok _ c.in_ok-to.ensures c.gathered.ensures.shown tt ∙ c.in_ok-copy.ensures.copy in
    comes_near g.D.Disk c.args.self.now c.in_ok-to.to same (c.is_former.ensures.no c.if-is_former.false)
    (c.in_ok-turn_to.ensures.done c.if-branch.true) is

pub returns-then-branch-clause-any_moment : goal.returns-then-branch-clause-any_moment
returns-then-branch-clause-any_moment g c = λ is.
    let same = IfOk-at_ok _ c.in_ok-to.ensures c.gathered.ensures.shown tt ∙ c.in_ok-copy.ensures.copy in
    stays_near g.D.Disk c.args.self.now c.in_ok-to.to.desktop same (c.is_former.ensures.no c.if-is_former.false)
    c.turn_to.ensures.any_store c.turn_to.ensures.any_moment is

pub returns-then-branch-clause-usable : goal.returns-then-branch-clause-usable
returns-then-branch-clause-usable g c = (c.in_ok-turn_to.ensures.done c.if-branch.true).shows.usable

-- ---- the past has no room for that

pub returns-else-branch-clause-stays : goal.returns-else-branch-clause-stays
returns-else-branch-clause-stays g c = λ _.
    let still = (c.in_ok-turn_to.ensures.not_done c.if-branch.false).still in (
      still,
      λ is. looker_same g.D.Disk c.refuse.ensures.same
          (looker_on g.D.Disk still c.requires (c.shows_what_crashes_leave.ensures.quiet c.requires) _
          (looker_alike g.D.Disk c.args.self.now _ c.moment.ensures.same is)),
    )

pub returns-else-branch-clause-any_moment : goal.returns-else-branch-clause-any_moment
returns-else-branch-clause-any_moment g c = λ is.
    stays_read g.D.Disk (c.in_ok-turn_to.ensures.not_done c.if-branch.false).still

pub returns-else-branch-clause-usable : goal.returns-else-branch-clause-usable
returns-else-branch-clause-usable g c = (c.in_ok-turn_to.ensures.not_done c.if-branch.false).still.usable
