use Rattle.std.proofs.Common.{◌∙◌, ap, length, arith, List}
use Rattle.char_file.proofs.Reading.{read_on}
use Rattle.piece_ring.specs.declared.piece.Piece.{Piece}
use Rattle.piece_ring.specs.Flat.{flat}
use Rattle.readers_scanners.specs.Reading.{bytes_of_text}
use Rattle.text_frames.specs.Cells.{column_of}
use Rattle.text_frames.specs.Near.{below}
use Rattle.desk_core.specs.Kept.{kept_desktop}
use Rattle.desk_core.proofs.PositionLemmas.{offsets_kept}
use Rattle.caret_moves.proofs.Told.{column_seen}
use Rattle.caret_moves.proofs.leading.has_column.Goals as goal

pub column_below-requires-clause-walk : goal.column_below-requires-clause-walk
column_below-requires-clause-walk g c = record {
  order = c.in_ok-org.ensures.from;
  within = omega (
    arith,
    c.requires.at.place,
    ap (λ (t : List Piece). length (flat t)) c.main_text-text.ensures,
  );
  offsets = offsets_kept _ _ _ _ _ c.main_text-text.ensures c.in_ok-org.ensures.told.reads.as_long c.requires.over;
}

pub returns : goal.returns
returns g c =
    let s = g.S.CharSource in
    let first = c.in_ok-org.ensures.told in
    let reads = first.reads in
    record {
      exact = λ h. c.is_some.ensures
          ∙ column_seen (s.characters c.args.source.now) (kept_desktop c.args.desk.now) c.args.id
          c.main_text-text.result.now c.main_text-text.ensures c.text_width-w.result c.args.pos c.in_ok-org.org
          c.in_ok-column.column c.text_width-w.ensures.width (first.exact h)
          (c.in_ok-column.ensures.column (reads.still h)
          ∙ (λ k. below c.text_width-w.result (column_of (bytes_of_text (reads.same h k) (flat c.main_text-text.result.now))
          c.in_ok-org.org c.args.pos)));
      reads = read_on s.characters s.failures s.honest s.same_ground g.met.S.CharSource.ground_through _ _ _ reads
          c.in_ok-column.ensures.source.reads;
      cause = c.in_ok-column.ensures.source.cause ∙ first.cause;
    }
