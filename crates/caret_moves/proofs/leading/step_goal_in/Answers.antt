use Rattle.std.proofs.Common.{◌∙◌, refl, ap, length, arith, List}
use Rattle.piece_ring.specs.declared.piece.Piece.{Piece}
use Rattle.piece_ring.specs.Flat.{flat}
use Rattle.desk_core.specs.Kept.{kept_desktop}
use Rattle.desk_core.proofs.PositionLemmas.{offsets_kept}
use Rattle.caret_moves.proofs.Told.{step_read}
use Rattle.caret_moves.proofs.leading.step_goal_in.Goals as goal

pub step_goal-requires-clause-walk : goal.step_goal-requires-clause-walk
step_goal-requires-clause-walk g c = record {
  order = omega arith;
  within = omega (
    arith,
    c.requires.at.place,
    ap (λ (t : List Piece). length (flat t)) c.main_text-text.ensures,
  );
  offsets = offsets_kept _ _ _ _ _ c.main_text-text.ensures refl c.requires.over;
}

pub returns-clause-told : goal.returns-clause-told
returns-clause-told g c = record {
  exact = λ h. c.in_ok-place.ensures.place h
      ∙ step_read (g.S.CharSource.characters c.args.source.now) (kept_desktop c.args.desk.now) c.args.id
      c.main_text-text.result.now c.main_text-text.ensures c.rows_of-h.result c.text_width-w.result
      c.rows_of-h.ensures.rows c.text_width-w.ensures.width c.args.pos c.args.step;
  reads = c.in_ok-place.ensures.source.reads;
  cause = c.in_ok-place.ensures.source.cause;
}

pub returns-clause-within : goal.returns-clause-within
returns-clause-within g c = record {
  placed = c.requires.at.placed;
  place = omega (
    arith,
    c.in_ok-place.ensures.within,
    ap (λ (t : List Piece). length (flat t)) c.main_text-text.ensures,
  );
}
