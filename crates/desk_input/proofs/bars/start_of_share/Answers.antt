use Rattle.std.proofs.Common.{◌∙◌, refl, ap, length, arith, List}
use Rattle.piece_ring.specs.declared.piece.Piece.{Piece}
use Rattle.piece_ring.specs.Flat.{flat}
use Rattle.desk_core.proofs.PositionLemmas.{share_read, offsets_kept}
use Rattle.desk_input.proofs.bars.start_of_share.Goals as goal

pub line_start-requires-clause-offsets : goal.line_start-requires-clause-offsets
line_start-requires-clause-offsets g c = offsets_kept _ _ _ _ _ c.main_text-text.ensures refl c.requires.at.over

pub returns-clause-told : goal.returns-clause-told
returns-clause-told g c = record {
  exact = λ h. c.in_ok-start.ensures.start h
      ∙ share_read _ _ _ _ c.main_text-text.ensures _ c.args.row _ _ c.len.ensures c.rows_of.ensures.rows
      c.share-pos.ensures.value;
  reads = c.in_ok-start.ensures.source.reads;
  cause = c.in_ok-start.ensures.source.cause;
}

pub returns-clause-within : goal.returns-clause-within
returns-clause-within g c = record {
  placed = c.requires.at.placed;
  place = omega (
    arith,
    c.in_ok-start.ensures.range,
    c.share-pos.ensures.within,
    c.len.ensures,
    ap (λ (t : List Piece). length (flat t)) c.main_text-text.ensures,
  );
}
