use Rattle.std.proofs.Common.{◌∙◌, sym}
use Rattle.std.specs.Result.{result_map_both}
use Rattle.std.proofs.lemmas.Result.{IfOk-weaker}
use Rattle.desk_core.specs.Kept.{kept_desktop}
use Rattle.caret_moves.proofs.Told.{led_none, led_rowless, led_some}
use Rattle.caret_moves.proofs.leading.lead.Goals as goal

pub returns-in_default-clause-leads : goal.returns-in_default-clause-leads
returns-in_default-clause-leads g c = λ h.
    led_none (g.S.CharSource.characters c.args.source.now) (kept_desktop c.args.desk.now) c.args.wish c.requires
    (sym c.in_default.is ∙ c.caret_place.ensures.is)

pub returns-then-rows_of-eq0-clause-leads : goal.returns-then-rows_of-eq0-clause-leads
returns-then-rows_of-eq0-clause-leads g c = λ h.
    led_rowless (g.S.CharSource.characters c.args.source.now) (kept_desktop c.args.desk.now) c.args.wish c.requires
    c.in-Some.caret (sym c.in-Some.is ∙ c.caret_place.ensures.is)
    (sym c.rows_of.ensures.rows ∙ c.if-rows_of-eq0.true)

pub returns-clause-leads : goal.returns-clause-leads
returns-clause-leads g c =
    IfOk-weaker c.lead_from.result _ _ (λ told is h.
    led_some (g.S.CharSource.characters c.args.source.now) (kept_desktop c.args.desk.now) c.args.wish c.requires
    c.in-Some.caret (sym c.in-Some.is ∙ c.caret_place.ensures.is)
    (result_map_both (λ events. events.items) (λ why. why) told)
    (λ none. c.if-rows_of-eq0.false (c.rows_of.ensures.rows ∙ none)) (is h)) c.lead_from.ensures.told
