use Rattle.std.proofs.Common.{◌∙◌, refl, ap, length, arith, List}
use Rattle.piece_ring.specs.declared.piece.Piece.{Piece}
use Rattle.piece_ring.specs.Flat.{flat}
use Rattle.desk_core.specs.Kept.{kept_desktop}
use Rattle.desk_core.proofs.PositionLemmas.{org_low, offsets_kept}
use Rattle.desk_input.proofs.PressLemmas.{wished_read}
use Rattle.desk_input.proofs.presses.wished_in.Goals as goal

pub wished-requires : goal.wished-requires
wished-requires g c = record {
  order = omega arith;
  within = org_low _ _ _ _ _ c.main_frame-frame.ensures c.main_text-text.ensures c.requires.over;
  offsets = offsets_kept _ _ _ _ _ c.main_text-text.ensures refl c.requires.over;
}

pub returns-clause-told : goal.returns-clause-told
returns-clause-told g c = record {
  exact = λ h. c.in_ok-target.ensures.start h
      ∙ wished_read (g.S.CharSource.characters c.args.source.now) (kept_desktop c.args.desk.now) c.args.id
      c.rows_of-h.result c.main_frame-frame.result.org c.main_text-text.result.now c.rows_of-h.ensures.rows
      c.main_frame-frame.ensures c.main_text-text.ensures c.args.wish;
  reads = c.in_ok-target.ensures.source.reads;
  cause = c.in_ok-target.ensures.source.cause;
}

pub returns-clause-within : goal.returns-clause-within
returns-clause-within g c = record {
  placed = c.requires.placed;
  place = omega (
    arith,
    c.in_ok-target.ensures.within,
    ap (λ (t : List Piece). length (flat t)) c.main_text-text.ensures,
  );
}
