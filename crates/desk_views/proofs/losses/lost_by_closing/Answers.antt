use Rattle.std.proofs.Common.{◌∙◌, sym, None}
use Rattle.desk_core.specs.Kept.{kept_desktop}
use Rattle.desk_views.proofs.LosingLemmas.{tells_still, tells_as}
use Rattle.desk_views.proofs.LossLemmas.{closing_none, closing_lost, closing_kept}
use Rattle.desk_views.proofs.losses.lost_by_closing.Goals as goal

pub returns-in_default : goal.returns-in_default
returns-in_default g c = tells_still g.S.CharSource g.met.S.CharSource.ground_self _ _ _ None
    (closing_none _ (kept_desktop c.args.desk.now) c.args.meant c.in_default.is)

pub returns-then-lost : goal.returns-then-lost
returns-then-lost g c = tells_as g.S.CharSource _ _ _ _ _ c.in_ok-lost.lost _
    (λ is. closing_lost _ (kept_desktop c.args.desk.now) c.args.meant c.in-Some.id _ c.in-Some.is
    (sym is ∙ c.if-lost.true) c.menu_start.ensures)
    c.in_ok-lost.ensures

pub returns : goal.returns
returns g c = tells_as g.S.CharSource _ _ _ _ _ c.in_ok-lost.lost None
    (λ is. closing_kept _ (kept_desktop c.args.desk.now) c.args.meant c.in-Some.id c.in-Some.is
    (sym is ∙ c.if-lost.false))
    c.in_ok-lost.ensures
