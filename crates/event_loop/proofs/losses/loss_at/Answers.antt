use Rattle.std.proofs.Common.{◌∙◌, refl, sym, None}
use Rattle.desktop_definitions.specs.Desktop.{Desktop}
use Rattle.desktop_definitions.specs.Step.{marked}
use Rattle.desk_core.specs.Kept.{kept_desktop}
use Rattle.desk_views.specs.Losses.{lost_by_click}
use Rattle.desk_views.proofs.LosingLemmas.{tells_still, tells_so}
use Rattle.event_loop.proofs.LossLemmas.{tells_from, unmarked_click, marked_outside, marked_click, over_marked}
use Rattle.event_loop.proofs.losses.loss_at.Goals as goal

pub returns-in_default-clause-told : goal.returns-in_default-clause-told
returns-in_default-clause-told g c = tells_so g.S.CharSource _ _ (kept_desktop c.args.desk.now) _ _ c.lost_by_click.result
    (unmarked_click _ (kept_desktop c.args.desk.now) c.args.from c.args.to c.args.marked c.in_default.is)
    c.lost_by_click.ensures

pub returns-then-not-are_on_display-clause-told : goal.returns-then-not-are_on_display-clause-told
returns-then-not-are_on_display-clause-told g c = tells_still g.S.CharSource g.met.S.CharSource.ground_self _ _ _ None
    (marked_outside _ (kept_desktop c.args.desk.now) c.args.from c.args.to c.args.marked c.in-Some.cell c.in-Some.is
    (sym c.are_on_display.ensures ∙ c.if-not-are_on_display.true))

pub lost_by_click-loss-requires : goal.lost_by_click-loss-requires
unfolding marked
lost_by_click-loss-requires g c = over_marked _ (kept_desktop c.args.desk.now) c.in-Some.cell c.requires
    (sym c.are_on_display.ensures ∙ c.if-not-are_on_display.false)

pub returns-clause-told : goal.returns-clause-told
unfolding marked
returns-clause-told g c =
    let d = kept_desktop c.args.desk.now in
    tells_from g.S.CharSource _ _ d (marked d c.in-Some.cell.0 c.in-Some.cell.1)
    (λ (x : Desktop). lost_by_click x c.args.from c.args.to) _ c.lost_by_click-loss.result
    (marked_click _ d c.args.from c.args.to c.args.marked c.in-Some.cell c.in-Some.is
    (sym c.are_on_display.ensures ∙ c.if-not-are_on_display.false))
    c.lost_by_click-loss.ensures
