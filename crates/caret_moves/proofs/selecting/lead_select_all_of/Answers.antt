use Rattle.std.proofs.Common.{◌∙◌, ap, sym, List}
use Rattle.std.specs.Prelude.{Option, ok_or}
use Rattle.std.specs.Result.{result_map_both}
use Rattle.event_bytes.specs.declared.event.Event.{Event}
use Rattle.caret_moves.specs.declared.wish.WhyNot.TheVariants.{TooFar}
use Rattle.caret_moves.proofs.Told.{mapped_ok}
use Rattle.std.proofs.lemmas.Result.{IfOk-weaker}
use Rattle.desktop_definitions.specs.Seen.{seen}
use Rattle.desk_core.specs.Kept.{kept_desktop}
use Rattle.caret_moves.specs.Leading.{draw_led}
use Rattle.caret_moves.proofs.StretchTold.{select_nothing, select_past, select_there}
use Rattle.caret_moves.proofs.selecting.lead_select_all_of.Goals as goal

pub returns-then-stretch-clause-told : goal.returns-then-stretch-clause-told
returns-then-stretch-clause-told g c = λ h.
    let d = seen (g.S.CharSource.characters c.args.source.now) (kept_desktop c.args.desk.now) in
    ap (λ r. result_map_both (λ events. events.items) (λ why. why) r) c.ok_or.ensures.value
    ∙ mapped_ok (λ events. events.items) c.in_ok-alone.alone TooFar
    ∙ ap (λ (o : Option (List Event)). ok_or o TooFar) (c.in_ok-alone.ensures.told h)
    ∙ select_nothing d c.args.pos c.args.stretch c.if-stretch.true

pub returns-then-not-has_column-clause-told : goal.returns-then-not-has_column-clause-told
returns-then-not-has_column-clause-told g c = λ h.
    select_past (seen (g.S.CharSource.characters c.args.source.now) (kept_desktop c.args.desk.now)) c.args.pos c.args.stretch
    c.if-stretch.false (sym c.if-not-has_column.true ∙ c.in_ok-has_column.ensures.exact h)

pub returns-clause-told : goal.returns-clause-told
returns-clause-told g c =
    IfOk-weaker c.lead_drawn.result _ _ (λ told is h.
    let d = kept_desktop c.args.desk.now in
    let first = c.in_ok-has_column.ensures in
    is (first.reads.still h)
    ∙ (λ k. draw_led (seen (first.reads.same h k) d) c.args.pos c.args.stretch)
    ∙ select_there (seen (g.S.CharSource.characters c.args.source.now) d) c.args.pos c.args.stretch
    c.if-stretch.false (sym c.if-not-has_column.false ∙ first.exact h)) c.lead_drawn.ensures.told
