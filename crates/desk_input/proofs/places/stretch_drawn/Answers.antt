use Rattle.std.proofs.Common.{◌∙◌, ℕ, List, ap, length, arith, sym, subst}
use Rattle.piece_ring.specs.declared.piece.Piece.{Piece}
use Rattle.piece_ring.specs.Flat.{flat}
use Rattle.desktop_definitions.specs.declared.viewer.Selection.{Selection}
use Rattle.desktop_definitions.specs.Gesture.{text_position}
use Rattle.desktop_definitions.specs.Seen.{seen}
use Rattle.desk_core.specs.Kept.{kept_desktop}
use Rattle.desk_core.proofs.PositionLemmas.{drawn_read}
use Rattle.desk_core.specs.Positions.{IsPosition}
use Rattle.char_file.proofs.Reading.{read_on}
use Rattle.desk_core.proofs.ReadLemmas.{over_read}
use Rattle.desk_input.proofs.places.stretch_drawn.Goals as goal

pub text_position-requires-2 : goal.text_position-requires-2
text_position-requires-2 g c = record {
  at = record {
    over = over_read _ _ _ c.in_ok-first.ensures.told.reads.as_long c.requires.at.over;
    placed = c.requires.at.placed;
    within = c.requires.at.within;
  };
}

pub returns-clause-told : goal.returns-clause-told
returns-clause-told g c =
    let first = c.in_ok-first.ensures.told in
    let last = c.in_ok-last.ensures.told in
    record {
      exact = λ h. c.stretch.ensures
          ∙ drawn_read _ _ c.args.id c.args.from.0 c.args.from.1 c.args.to.0 c.args.to.1
          c.in_ok-first.first c.in_ok-last.last c.len-len.result (first.exact h)
          (last.exact (first.reads.still h)
          ∙ ap (λ (l : List ℕ). text_position (seen l (kept_desktop c.args.desk.now)) c.args.id c.args.to.0 c.args.to.1)
          (first.reads.same h))
          (c.len-len.ensures ∙ ap (λ (t : List Piece). length (flat t)) c.main_text.ensures);
      reads = read_on _ _ _ _ g.met.S.CharSource.ground_through _ _ _ first.reads last.reads;
      cause = last.cause ∙ first.cause;
    }

pub returns-clause-viewer : goal.returns-clause-viewer
returns-clause-viewer g c =
    ap (λ (s : Selection). s.viewer) c.stretch.ensures

pub returns-clause-within : goal.returns-clause-within
returns-clause-within g c =
    let d = kept_desktop c.args.desk.now in
    let viewer = ap (λ (s : Selection). s.viewer) c.stretch.ensures in
    subst (λ v. IsPosition d v c.stretch.result.end) (sym viewer) (record {
      placed = c.requires.at.placed;
      place = omega (
        arith,
        ap (λ (s : Selection). s.end) c.stretch.ensures,
        c.len-len.ensures,
        ap (λ (t : List Piece). length (flat t)) c.main_text.ensures,
      );
    })
