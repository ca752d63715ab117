use Rattle.std.proofs.Common.{◌∙◌, sym, subst, ℕ}
use Rattle.std.proofs.lemmas.Result.{IfOk-weaker}
use Rattle.desktop_definitions.specs.Seen.{seen}
use Rattle.desk_core.specs.Kept.{kept_desktop}
use Rattle.desk_core.specs.Positions.{IsPosition}
use Rattle.caret_moves.specs.Leading.{cut_led}
use Rattle.caret_moves.proofs.StretchTold.{line_is}
use Rattle.caret_moves.proofs.selecting.lead_cut_line.Goals as goal

pub lead_cut-requires-clause-end : goal.lead_cut-requires-clause-end
lead_cut-requires-clause-end g c =
    subst (λ (v : ℕ). IsPosition (kept_desktop c.args.desk.now) v c.in_ok-line.line.end) (sym c.in_ok-line.ensures.viewer)
    c.in_ok-line.ensures.within

pub returns-clause-told : goal.returns-clause-told
returns-clause-told g c =
    IfOk-weaker c.lead_cut.result _ _ (λ told is h.
    let d = kept_desktop c.args.desk.now in
    let first = c.in_ok-line.ensures.told in
    is (first.reads.still h)
    ∙ (λ k. cut_led (seen (first.reads.same h k) d) c.in_ok-line.line)
    ∙ line_is (seen (g.S.CharSource.characters c.args.source.now) d) c.args.caret.viewer c.args.caret.position
    c.in_ok-line.line (first.exact h)) c.lead_cut.ensures.told
