use Rattle.std.proofs.Common.{◌∙◌, sym, subst, arith}
use Rattle.std.proofs.lemmas.Result.{IfOk-weaker}
use Rattle.desktop_definitions.specs.declared.viewer.Selection.{Selection}
use Rattle.desktop_definitions.specs.Seen.{seen}
use Rattle.desk_core.specs.Kept.{kept_desktop}
use Rattle.desk_core.specs.Positions.{IsPosition}
use Rattle.caret_moves.specs.Leading.{anchor_in, select_led}
use Rattle.caret_moves.proofs.StretchTold.{select_is}
use Rattle.caret_moves.proofs.selecting.lead_select_on.Goals as goal

pub lead_selected-requires-clause-at : goal.lead_selected-requires-clause-at
lead_selected-requires-clause-at g c =
    subst (λ (s : Selection). IsPosition (kept_desktop c.args.desk.now) s.viewer c.in_ok-goal.goal)
    (sym c.stretch_of-stretch.ensures) c.in_ok-goal.ensures.within

pub lead_selected-requires-clause-end : goal.lead_selected-requires-clause-end
lead_selected-requires-clause-end g c =
    subst (λ (s : Selection). IsPosition (kept_desktop c.args.desk.now) s.viewer s.end) (sym c.stretch_of-stretch.ensures)
    (record {
      placed = c.in_ok-goal.ensures.within.placed;
      place = (let first = c.in_ok-goal.ensures.within.place in
          let second = c.in_ok-anchor.ensures.within.place in omega (arith, first, second));
    })

pub returns-clause-told : goal.returns-clause-told
returns-clause-told g c =
    IfOk-weaker c.lead_selected.result _ _ (λ told is h.
    let old = g.S.CharSource.characters c.args.source.now in
    let d = kept_desktop c.args.desk.now in
    let first = c.in_ok-goal.ensures.told in
    let second = c.in_ok-anchor.ensures.told in
    is (second.reads.still (first.reads.still h))
    ∙ (λ k. select_led (seen (second.reads.same (first.reads.still h) k) d) c.in_ok-goal.goal c.stretch_of-stretch.result)
    ∙ (λ k. select_led (seen (first.reads.same h k) d) c.in_ok-goal.goal c.stretch_of-stretch.result)
    ∙ select_is (seen old d) c.args.caret.viewer c.args.caret.position c.args.step c.in_ok-goal.goal c.in_ok-anchor.anchor
    c.stretch_of-stretch.result (first.exact h)
    (second.exact (first.reads.still h)
    ∙ (λ k. anchor_in (seen (first.reads.same h k) d) c.args.caret.viewer c.args.caret.position)) c.stretch_of-stretch.ensures)
    c.lead_selected.ensures.told
