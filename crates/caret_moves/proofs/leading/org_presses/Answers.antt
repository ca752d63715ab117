use Rattle.std.proofs.Common.{◌∙◌, ap}
use Rattle.std.specs.Prelude.{Some, List}
use Rattle.std.proofs.lemmas.Result.{IfOk-weaker}
use Rattle.event_bytes.specs.declared.event.Event.{Event}
use Rattle.desk_core.specs.Kept.{kept_desktop}
use Rattle.caret_moves.proofs.Told.{presses_none, presses_some}
use Rattle.caret_moves.proofs.leading.org_presses.Goals as goal

pub returns-then-org-frame-clause-told : goal.returns-then-org-frame-clause-told
returns-then-org-frame-clause-told g c = λ h.
    ap (λ (events : List Event). Some events) c.new.ensures.items
    ∙ presses_none (g.S.CharSource.characters c.args.source.now) (kept_desktop c.args.desk.now) c.args.id c.args.org
    c.main_frame-frame.result.org c.main_frame-frame.ensures c.if-org-frame.true

pub returns-clause-told : goal.returns-clause-told
returns-clause-told g c =
    IfOk-weaker c.line_presses.result _ _ (λ presses told h.
    told h ∙ presses_some (g.S.CharSource.characters c.args.source.now) (kept_desktop c.args.desk.now) c.args.id c.args.org
    c.main_frame-frame.result.org c.main_frame-frame.ensures c.if-org-frame.false) c.line_presses.ensures.told
