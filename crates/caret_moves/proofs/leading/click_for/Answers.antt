use Rattle.std.proofs.Common.{ℕ, ◌∙◌, refl, ap, length, arith, List}
use Rattle.std.specs.Prelude.{Option, unwrap_or}
use Rattle.char_file.proofs.Reading.{read_on}
use Rattle.piece_ring.specs.declared.piece.Piece.{Piece}
use Rattle.piece_ring.specs.Flat.{flat}
use Rattle.readers_scanners.specs.Reading.{bytes_of_text}
use Rattle.desk_core.specs.Kept.{kept_desktop}
use Rattle.desk_core.proofs.PositionLemmas.{offsets_kept}
use Rattle.desk_input.specs.Lines.{lines_in_sight}
use Rattle.caret_moves.specs.Leading.{text_click}
use Rattle.caret_moves.proofs.Told.{click_read}
use Rattle.caret_moves.proofs.leading.click_for.Goals as goal

pub column_cut-requires-clause-walk : goal.column_cut-requires-clause-walk
column_cut-requires-clause-walk g c = record {
  order = c.requires.from;
  within = omega (
    arith,
    c.requires.at.place,
    ap (λ (t : List Piece). length (flat t)) c.main_text-text.ensures,
  );
  offsets = offsets_kept _ _ _ _ _ c.main_text-text.ensures refl c.requires.over;
}

pub lines_in_sight-requires : goal.lines_in_sight-requires
lines_in_sight-requires g c = record {
  order = omega arith;
  within = omega (
    arith,
    c.requires.at.place,
    ap (λ (t : List Piece). length (flat t)) c.main_text-text.ensures,
  );
  offsets = offsets_kept _ _ _ _ _ c.main_text-text.ensures c.in_ok-column.ensures.source.reads.as_long c.requires.over;
}

pub text_click-requires-clause-inside : goal.text_click-requires-clause-inside
text_click-requires-clause-inside g c =
    omega (arith, c.in_ok-column.ensures.within, c.text_width-w.ensures.width)

pub returns : goal.returns
returns g c =
    let s = g.S.CharSource in
    let first = c.in_ok-column.ensures in
    let reads = first.source.reads in
    record {
      exact = λ h. c.text_click.ensures
          ∙ (λ k. text_click (kept_desktop c.args.desk.now) c.args.id (first.column h k)
          ((c.row_told.ensures ∙ ap (λ (lines : Option ℕ). unwrap_or lines 0) (c.in_ok-lines.ensures.lines (reads.still h)
          ∙ (λ j. lines_in_sight (bytes_of_text (reads.same h j) (flat c.main_text-text.result.now)) c.rows_of-h.result
          c.args.org c.args.pos))) k))
          ∙ click_read (s.characters c.args.source.now) (kept_desktop c.args.desk.now) c.args.id
          c.main_text-text.result.now c.main_text-text.ensures c.rows_of-h.result c.text_width-w.result
          c.rows_of-h.ensures.rows c.text_width-w.ensures.width c.args.org c.args.pos;
      reads = read_on s.characters s.failures s.honest s.same_ground g.met.S.CharSource.ground_through _ _ _ reads
          c.in_ok-lines.ensures.source.reads;
      cause = c.in_ok-lines.ensures.source.cause ∙ first.source.cause;
    }
