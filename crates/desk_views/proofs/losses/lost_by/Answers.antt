use Rattle.std.proofs.Common.{◌∙◌}
use Rattle.desk_core.specs.Kept.{kept_desktop}
use Rattle.desk_views.proofs.LosingLemmas.{tells_still, tells_so}
use Rattle.desk_views.proofs.LossLemmas.{opening_seen, by_closing, by_storing, other_lost}
use Rattle.desk_views.proofs.losses.lost_by.Goals as goal

pub returns-in-SystemClose : goal.returns-in-SystemClose
returns-in-SystemClose g c = tells_so g.S.CharSource _ _ (kept_desktop c.args.desk.now) _ _ c.lost_by_closing.result
    (by_closing _ c.args.command c.args.meant c.in-SystemClose.is) c.lost_by_closing.ensures

pub returns-in-EditStore : goal.returns-in-EditStore
returns-in-EditStore g c = tells_so g.S.CharSource _ _ (kept_desktop c.args.desk.now) _ _ c.lost_by_storing.result
    (by_storing _ c.args.command c.args.meant c.in-EditStore.is) c.lost_by_storing.ensures

pub returns-in_default : goal.returns-in_default
returns-in_default g c = tells_still g.S.CharSource g.met.S.CharSource.ground_self _ _ _ _
    (c.lost_by_opening.ensures ∙ opening_seen _ (kept_desktop c.args.desk.now) c.args.command
    ∙ other_lost _ c.args.command c.args.meant c.in_default.not-SystemClose c.in_default.not-EditStore)
