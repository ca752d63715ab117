use Rattle.std.proofs.Common.{◌∙◌, sym, None}
use Rattle.desk_core.specs.Kept.{kept_desktop}
use Rattle.desk_views.proofs.LosingLemmas.{tells_still, tells_so}
use Rattle.event_loop.proofs.GestureLemmas.{cells_inside}
use Rattle.event_loop.proofs.LossLemmas.{click_outside, click_inside}
use Rattle.event_loop.proofs.losses.lost_by_click.Goals as goal

pub returns-then-not-are_on_display : goal.returns-then-not-are_on_display
returns-then-not-are_on_display g c = tells_still g.S.CharSource g.met.S.CharSource.ground_self _ _ _ None
    (click_outside _ (kept_desktop c.args.desk.now) c.args.from c.args.to
    (sym c.are_on_display.ensures ∙ c.if-not-are_on_display.true))

pub region_under-requires-clause-column : goal.region_under-requires-clause-column
region_under-requires-clause-column g c =
    (cells_inside c.args.from c.args.to c.are_on_display.ensures c.if-not-are_on_display.false).0.0

pub region_under-requires-clause-row : goal.region_under-requires-clause-row
region_under-requires-clause-row g c =
    (cells_inside c.args.from c.args.to c.are_on_display.ensures c.if-not-are_on_display.false).0.1

pub returns-in-Filler : goal.returns-in-Filler
returns-in-Filler g c = tells_still g.S.CharSource g.met.S.CharSource.ground_self _ _ _ None
    (click_inside _ (kept_desktop c.args.desk.now) c.args.from c.args.to _
    (sym c.are_on_display.ensures ∙ c.if-not-are_on_display.false) c.in-Filler.ensures.region)

pub returns-in-Bar : goal.returns-in-Bar
returns-in-Bar g c = tells_still g.S.CharSource g.met.S.CharSource.ground_self _ _ _ None
    (click_inside _ (kept_desktop c.args.desk.now) c.args.from c.args.to _
    (sym c.are_on_display.ensures ∙ c.if-not-are_on_display.false) c.in-Bar.ensures.region)

pub returns-in-Menu : goal.returns-in-Menu
returns-in-Menu g c = tells_so g.S.CharSource _ _ (kept_desktop c.args.desk.now) _ _ c.lost_in_menu.result
    (click_inside _ (kept_desktop c.args.desk.now) c.args.from c.args.to _
    (sym c.are_on_display.ensures ∙ c.if-not-are_on_display.false) c.in-Menu.ensures.region)
    c.lost_in_menu.ensures

pub returns-in-Body : goal.returns-in-Body
returns-in-Body g c = tells_so g.S.CharSource _ _ (kept_desktop c.args.desk.now) _ _ c.lost_in_text.result
    (click_inside _ (kept_desktop c.args.desk.now) c.args.from c.args.to _
    (sym c.are_on_display.ensures ∙ c.if-not-are_on_display.false) c.in-Body.ensures.region)
    c.lost_in_text.ensures
