use Rattle.std.proofs.Common.{◌∙◌}
use Rattle.std.proofs.lemmas.Result.{IfOk-weaker}
use Rattle.desktop_definitions.specs.Seen.{seen}
use Rattle.desk_core.specs.Kept.{kept_desktop}
use Rattle.caret_moves.specs.Leading.{events_to}
use Rattle.caret_moves.proofs.Told.{near_none, near_some}
use Rattle.caret_moves.proofs.filling.near_events.Goals as goal

pub returns-then-org-frame-clause-told : goal.returns-then-org-frame-clause-told
returns-then-org-frame-clause-told g c = λ h.
    near_none (g.S.CharSource.characters c.args.source.now) (kept_desktop c.args.desk.now) c.args.id c.args.pos
    c.main_frame-frame.result.org c.in_ok-org.org c.main_frame-frame.ensures (c.in_ok-org.ensures.told.exact h)
    c.if-org-frame.true

pub returns-clause-told : goal.returns-clause-told
returns-clause-told g c =
    IfOk-weaker c.events_to.result _ _ (λ events is h.
    let reads = c.in_ok-org.ensures.told.reads in
    is (reads.still h)
    ∙ (λ k. events_to (seen (reads.same h k) (kept_desktop c.args.desk.now)) c.args.id c.args.pos)
    ∙ near_some (g.S.CharSource.characters c.args.source.now) (kept_desktop c.args.desk.now) c.args.id c.args.pos
    c.main_frame-frame.result.org c.in_ok-org.org c.main_frame-frame.ensures (c.in_ok-org.ensures.told.exact h)
    c.if-org-frame.false) c.events_to.ensures.told
