use Rattle.std.proofs.Common.{◌∙◌, sym, subst, arith}
use Rattle.std.proofs.lemmas.Result.{IfOk-weaker}
use Rattle.desktop_definitions.specs.declared.viewer.Selection.{Selection}
use Rattle.desktop_definitions.specs.Seen.{seen}
use Rattle.desk_core.specs.Kept.{kept_desktop}
use Rattle.desk_core.specs.Positions.{IsPosition}
use Rattle.caret_moves.specs.Leading.{cut_led}
use Rattle.caret_moves.proofs.StretchTold.{cut_is}
use Rattle.caret_moves.proofs.selecting.lead_cut_selected.Goals as goal

pub lead_cut-requires-clause-end : goal.lead_cut-requires-clause-end
lead_cut-requires-clause-end g c =
    subst (λ (s : Selection). IsPosition (kept_desktop c.args.desk.now) s.viewer s.end) (sym c.stretch_of-stretch.ensures)
    (record {
      placed = c.requires.at.placed;
      place = (let first = c.requires.at.place in
          let second = c.in_ok-anchor.ensures.within.place in omega (arith, first, second));
    })

pub returns-clause-told : goal.returns-clause-told
returns-clause-told g c =
    IfOk-weaker c.lead_cut.result _ _ (λ told is h.
    let old = g.S.CharSource.characters c.args.source.now in
    let d = kept_desktop c.args.desk.now in
    let first = c.in_ok-anchor.ensures.told in
    is (first.reads.still h)
    ∙ (λ k. cut_led (seen (first.reads.same h k) d) c.stretch_of-stretch.result)
    ∙ cut_is (seen old d) c.args.caret.viewer c.args.caret.position c.in_ok-anchor.anchor c.stretch_of-stretch.result
    (first.exact h) c.stretch_of-stretch.ensures)
    c.lead_cut.ensures.told
