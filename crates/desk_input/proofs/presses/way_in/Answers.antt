use Rattle.std.proofs.Common.{◌∙◌, refl, ap, length, arith, List}
use Rattle.piece_ring.specs.declared.piece.Piece.{Piece}
use Rattle.piece_ring.specs.Flat.{flat}
use Rattle.desk_core.specs.Kept.{kept_desktop}
use Rattle.desk_core.proofs.PositionLemmas.{offsets_kept}
use Rattle.desk_input.proofs.PressLemmas.{way_read}
use Rattle.desk_input.proofs.presses.way_in.Goals as goal

pub way_to-requires : goal.way_to-requires
way_to-requires g c = record {
  order = omega arith;
  within = omega (
    arith,
    c.requires.at.place,
    ap (λ (t : List Piece). length (flat t)) c.main_text-text.ensures,
  );
  offsets = offsets_kept _ _ _ _ _ c.main_text-text.ensures refl c.requires.over;
}

pub returns : goal.returns
returns g c = record {
  exact = λ h. c.in_ok-way.ensures.way h
      ∙ way_read (g.S.CharSource.characters c.args.source.now) (kept_desktop c.args.desk.now) c.args.id c.rows_of-h.result
      c.main_frame-frame.result.org c.main_text-text.result.now c.rows_of-h.ensures.rows c.main_frame-frame.ensures
      c.main_text-text.ensures c.args.target;
  reads = c.in_ok-way.ensures.source.reads;
  cause = c.in_ok-way.ensures.source.cause;
}
