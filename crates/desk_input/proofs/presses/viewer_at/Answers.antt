use Rattle.std.proofs.Common.{◌∙◌, sym}
use Rattle.desk_core.specs.Kept.{kept_desktop}
use Rattle.desk_input.proofs.PressLemmas.{meant_outside, meant_inside, cell_inside}
use Rattle.desk_input.proofs.presses.viewer_at.Goals as goal

pub returns-then-not-are_on_display : goal.returns-then-not-are_on_display
returns-then-not-are_on_display c =
    meant_outside (kept_desktop c.args.desk.now) c.args.x c.args.y (sym c.are_on_display.ensures ∙ c.if-not-are_on_display.true)

pub at-requires-clause-column_in_display : goal.at-requires-clause-column_in_display
at-requires-clause-column_in_display c =
    (cell_inside c.args.x c.args.y (sym c.are_on_display.ensures ∙ c.if-not-are_on_display.false)).0

pub at-requires-clause-row_in_display : goal.at-requires-clause-row_in_display
at-requires-clause-row_in_display c =
    (cell_inside c.args.x c.args.y (sym c.are_on_display.ensures ∙ c.if-not-are_on_display.false)).1

pub returns : goal.returns
returns c = c.id_of.ensures ∙ c.at.ensures.seen
    ∙ meant_inside (kept_desktop c.args.desk.now) c.args.x c.args.y
    (sym c.are_on_display.ensures ∙ c.if-not-are_on_display.false)
