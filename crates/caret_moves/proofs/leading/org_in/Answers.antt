use Rattle.std.proofs.Common.{◌∙◌, refl, ap, length, arith, List}
use Rattle.piece_ring.specs.declared.piece.Piece.{Piece}
use Rattle.piece_ring.specs.Flat.{flat}
use Rattle.desk_core.specs.Kept.{kept_desktop}
use Rattle.desk_core.proofs.PositionLemmas.{org_low, offsets_kept}
use Rattle.caret_moves.proofs.Told.{org_read}
use Rattle.caret_moves.proofs.leading.org_in.Goals as goal

pub org_for-requires-clause-walk : goal.org_for-requires-clause-walk
org_for-requires-clause-walk g c = record {
  order = omega arith;
  within = omega (
    arith,
    c.requires.at.place,
    ap (λ (t : List Piece). length (flat t)) c.main_text-text.ensures,
  );
  offsets = offsets_kept _ _ _ _ _ c.main_text-text.ensures refl c.requires.over;
}

pub org_for-requires-clause-org : goal.org_for-requires-clause-org
org_for-requires-clause-org g c =
    org_low _ _ _ _ _ c.main_frame-frame.ensures c.main_text-text.ensures c.requires.over

pub returns-clause-told : goal.returns-clause-told
returns-clause-told g c = record {
  exact = λ h. c.in_ok-org.ensures.place h
      ∙ org_read (g.S.CharSource.characters c.args.source.now) (kept_desktop c.args.desk.now) c.args.id
      c.main_text-text.result.now c.main_text-text.ensures c.rows_of-h.result c.main_frame-frame.result.org c.args.pos
      c.rows_of-h.ensures.rows c.main_frame-frame.ensures;
  reads = c.in_ok-org.ensures.source.reads;
  cause = c.in_ok-org.ensures.source.cause;
}
