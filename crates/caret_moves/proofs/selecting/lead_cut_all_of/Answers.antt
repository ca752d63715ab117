use Rattle.std.proofs.Common.{◌∙◌, sym, ap, List, []}
use Rattle.std.specs.Prelude.{Ok, Some, Result}
use Rattle.event_bytes.specs.declared.event.Event.{Event}
use Rattle.desktop_definitions.specs.Seen.{seen}
use Rattle.desk_core.specs.Kept.{kept_desktop}
use Rattle.caret_moves.specs.declared.wish.WhyNot.{WhyNot}
use Rattle.caret_moves.specs.Leading.{then_drawn}
use Rattle.caret_moves.proofs.StretchTold.{cut_nothing, cut_told}
use Rattle.caret_moves.proofs.selecting.lead_cut_all_of.Goals as goal

pub returns-then-stretch-clause-told : goal.returns-then-stretch-clause-told
returns-then-stretch-clause-told g c = λ h.
    cut_nothing (seen (g.S.CharSource.characters c.args.source.now) (kept_desktop c.args.desk.now)) c.args.stretch
    c.if-stretch.true

pub returns-in_default-clause-told : goal.returns-in_default-clause-told
unfolding seen
returns-in_default-clause-told g c = λ h.
    ap (then_drawn (Some [])) (sym c.in_default.is)
    ∙ cut_told (seen (g.S.CharSource.characters c.args.source.now) (kept_desktop c.args.desk.now)) c.args.stretch
    c.if-stretch.false c.main_frame-frame.result.org c.in_ok-drawn.drawn c.main_frame-frame.ensures
    (c.in_ok-drawn.ensures.exact h)

pub returns-clause-told : goal.returns-clause-told
unfolding seen
returns-clause-told g c = λ h.
    ap (λ (l : List Event). let r : Result (List Event) WhyNot = Ok l in r) c.in_ok-events.ensures
    ∙ ap (then_drawn (Some [])) (sym c.in-Some.is)
    ∙ cut_told (seen (g.S.CharSource.characters c.args.source.now) (kept_desktop c.args.desk.now)) c.args.stretch
    c.if-stretch.false c.main_frame-frame.result.org c.in_ok-drawn.drawn c.main_frame-frame.ensures
    (c.in_ok-drawn.ensures.exact h)
