use Rattle.std.proofs.Common.{◌∙◌, ap, refl, ℕ, arith, length, List}
use Rattle.std.specs.Prelude.{Option, option_map}
use Rattle.piece_ring.specs.declared.piece.Piece.{Piece}
use Rattle.piece_ring.specs.Flat.{flat}
use Rattle.readers_scanners.specs.Reading.{bytes_of_text}
use Rattle.text_frames.specs.Cells.{cell_of}
use Rattle.desk_core.specs.Kept.{kept_desktop}
use Rattle.desk_core.proofs.PositionLemmas.{offsets_kept}
use Rattle.caret_moves.specs.Leading.{display_cell}
use Rattle.caret_moves.proofs.StretchTold.{cell_told}
use Rattle.caret_moves.proofs.selecting.cell_from.Goals as goal

pub cell_of-requires-clause-place : goal.cell_of-requires-clause-place
cell_of-requires-clause-place g c = omega (
  arith,
  c.requires.at.place,
  ap (λ (t : List Piece). length (flat t)) c.main_text-text.ensures,
)

pub cell_of-requires-clause-offsets : goal.cell_of-requires-clause-offsets
cell_of-requires-clause-offsets g c = offsets_kept _ _ _ _ _ c.main_text-text.ensures refl c.requires.over

pub returns : goal.returns
returns g c =
    let first = c.in_ok-cell.ensures in
    let old = g.S.CharSource.characters c.args.source.now in
    record {
      exact = λ h. c.display_cell.ensures
          ∙ ap (λ (o : Option (ℕ × ℕ)). option_map (display_cell (kept_desktop c.args.desk.now) c.args.id) o) (first.cell.exact h
          ∙ ap (λ (o : ℕ). cell_of c.text_width-w.result c.rows_of-h.result (bytes_of_text old (flat c.main_text-text.result.now)) o
          c.args.pos) c.frame_from.ensures)
          ∙ cell_told old (kept_desktop c.args.desk.now) c.args.id c.main_text-text.result.now c.main_text-text.ensures
          c.rows_of-h.result c.text_width-w.result c.args.org c.args.pos c.rows_of-h.ensures.rows c.text_width-w.ensures.width;
      reads = first.source.reads;
      cause = first.source.cause;
    }
