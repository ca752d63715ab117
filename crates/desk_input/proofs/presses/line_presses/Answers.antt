use Rattle.std.proofs.Common.{◌∙◌, sym, arith}
use Rattle.desk_core.specs.Kept.{kept_desktop}
use Rattle.desk_input.proofs.PressLemmas.{told_some, told_none, passes_high}
use Rattle.desk_input.proofs.presses.line_presses.Goals as goal

pub way_presses-requires-clause-rows : goal.way_presses-requires-clause-rows
way_presses-requires-clause-rows g c =
    let high = passes_high c.rows_of-rows.result c.in_ok-way.way (sym c.is_passable.ensures ∙ c.if-is_passable.true) in
    let is = c.rows_of-rows.ensures.rows in
    omega (arith, high, is)

pub returns-then-is_passable-clause-told : goal.returns-then-is_passable-clause-told
returns-then-is_passable-clause-told g c = λ h.
    told_some (g.S.CharSource.characters c.args.source.now) (kept_desktop c.args.desk.now) c.args.id
    c.rows_of-rows.result c.args.target c.in_ok-way.way c.rows_of-rows.ensures.rows (c.in_ok-way.ensures.exact h)
    c.in_ok-events.events.items (sym c.is_passable.ensures ∙ c.if-is_passable.true) c.in_ok-events.ensures

pub returns-clause-told : goal.returns-clause-told
returns-clause-told g c = λ h.
    told_none (g.S.CharSource.characters c.args.source.now) (kept_desktop c.args.desk.now) c.args.id
    c.rows_of-rows.result c.args.target c.in_ok-way.way c.rows_of-rows.ensures.rows (c.in_ok-way.ensures.exact h)
    (sym c.is_passable.ensures ∙ c.if-is_passable.false)
