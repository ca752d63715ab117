use Rattle.std.proofs.Common.{◌∙◌, refl, ap, length, arith, List}
use Rattle.piece_ring.specs.declared.piece.Piece.{Piece}
use Rattle.piece_ring.specs.Flat.{flat}
use Rattle.desk_core.proofs.PositionLemmas.{org_low, position_read, offsets_kept}
use Rattle.desk_input.proofs.places.position_in.Goals as goal

pub pos_at-requires-clause-org : goal.pos_at-requires-clause-org
pos_at-requires-clause-org g c =
    org_low _ _ _ _ _ c.main_frame-frame.ensures c.main_text-text.ensures c.requires.at.over

pub pos_at-requires-clause-offsets : goal.pos_at-requires-clause-offsets
pos_at-requires-clause-offsets g c = offsets_kept _ _ _ _ _ c.main_text-text.ensures refl c.requires.at.over

pub returns-clause-told : goal.returns-clause-told
returns-clause-told g c = record {
  exact = λ h. c.in_ok-pos.ensures.position.exact h
      ∙ position_read _ _ _ _ _ c.main_frame-frame.ensures c.main_text-text.ensures c.args.x c.args.row;
  reads = c.in_ok-pos.ensures.source.reads;
  cause = c.in_ok-pos.ensures.source.cause;
}

pub returns-clause-from : goal.returns-clause-from
returns-clause-from g c =
    omega (arith, c.in_ok-pos.ensures.position.from, c.main_frame-frame.ensures)

pub returns-clause-within : goal.returns-clause-within
returns-clause-within g c = record {
  placed = c.requires.at.placed;
  place = omega (
    arith,
    c.in_ok-pos.ensures.position.within,
    ap (λ (t : List Piece). length (flat t)) c.main_text-text.ensures,
  );
}
