use Rattle.std.proofs.Common.{◌∙◌, false, sym}
use Rattle.desk_views.proofs.LosingLemmas.{lost_not, lost_by, tells_still, tells_as}
use Rattle.desk_views.proofs.unstored.is_unstored.Goals as goal

pub returns-then-not-is_its_own : goal.returns-then-not-is_its_own
returns-then-not-is_its_own g c = tells_still g.S.CharSource g.met.S.CharSource.ground_self _ _ _ false
    (lost_not _ c.args.id (sym (c.is_its_own.ensures _) ∙ c.if-not-is_its_own.true))

pub returns : goal.returns
returns g c = tells_as g.S.CharSource _ _ _ _ _ c.in_ok-stored.stored _
    (lost_by _ c.args.id c.in_ok-stored.stored (sym (c.is_its_own.ensures _) ∙ c.if-not-is_its_own.false))
    c.in_ok-stored.ensures
