use Rattle.std.proofs.Common.{◌∙◌, ◌≡◌, ap, sym, subst, arith, length, List}
use Rattle.std.proofs.lemmas.Result.{IfOk-weaker}
use Rattle.piece_ring.specs.declared.piece.Piece.{Piece}
use Rattle.piece_ring.specs.Flat.{flat}
use Rattle.desktop_definitions.specs.declared.viewer.Selection.{Selection}
use Rattle.desktop_definitions.specs.Seen.{seen}
use Rattle.desktop_definitions.specs.Viewers.{main_of}
use Rattle.desk_core.specs.Kept.{kept_desktop}
use Rattle.desk_core.specs.Positions.{IsPosition}
use Rattle.desk_core.proofs.PositionLemmas.{main_long}
use Rattle.caret_moves.proofs.StretchTold.{all_is}
use Rattle.caret_moves.proofs.selecting.lead_select_all.Goals as goal

pub lead_selected-requires-clause-at : goal.lead_selected-requires-clause-at
lead_selected-requires-clause-at g c =
    subst (λ (s : Selection). IsPosition (kept_desktop c.args.desk.now) s.viewer c.len-len.result) (sym c.stretch_of.ensures)
    (record {
      placed = c.requires.at.placed;
      place = (let len = c.len-len.ensures in
          let text = ap (λ (t : List Piece). length (flat t)) c.main_text.ensures in omega (arith, len, text));
    })

pub lead_selected-requires-clause-end : goal.lead_selected-requires-clause-end
lead_selected-requires-clause-end g c =
    subst (λ (s : Selection). IsPosition (kept_desktop c.args.desk.now) s.viewer s.end) (sym c.stretch_of.ensures)
    (record {
      placed = c.requires.at.placed;
      place = (let len = c.len-len.ensures in
          let text = ap (λ (t : List Piece). length (flat t)) c.main_text.ensures in omega (arith, len, text));
    })

pub returns-clause-told : goal.returns-clause-told
returns-clause-told g c =
    IfOk-weaker c.lead_selected.result _ _ (λ told is h.
    let old = g.S.CharSource.characters c.args.source.now in
    let d = kept_desktop c.args.desk.now in
    let all : c.len-len.result ≡ length (main_of (seen old d) c.args.caret.viewer) =
    (let len = c.len-len.ensures in
    let text = ap (λ (t : List Piece). length (flat t)) c.main_text.ensures in
    let long = main_long old d c.args.caret.viewer in omega (arith, len, text, long)) in
    is h ∙ all_is (seen old d) c.args.caret.viewer c.args.caret.position c.len-len.result c.stretch_of.result all
    c.stretch_of.ensures) c.lead_selected.ensures.told
