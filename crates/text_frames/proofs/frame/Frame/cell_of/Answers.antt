use Rattle.std.proofs.Common.{◌≤◌, ◌∙◌, ap, arith}
use Rattle.piece_ring.specs.Flat.{flat}
use Rattle.readers_scanners.specs.Reading.{bytes_of_text}
use Rattle.text_frames.specs.Cells.{column_of}
use Rattle.text_frames.specs.Near.{below}
use Rattle.text_frames.proofs.Near.{cell_known, cell_ranges, cell_from}
use Rattle.text_frames.proofs.frame.Frame.cell_of.Goals as goal

pub returns-clause-cell : goal.returns-clause-cell
returns-clause-cell g c =
    let s = g.S.CharSource in let text = flat c.args.text.now in let reads = c.in_ok-ends.ensures.source.reads in
    let behind = c.if-p-self.false in
    let from : c.args.self.now.org ≤ c.args.p = omega (arith, behind) in
    record {
      exact = λ h. c.cell_in.ensures.cell
          ∙ cell_known (bytes_of_text (s.characters c.args.source.now) text) c.args.w c.args.h c.args.self.now.org c.args.p from
          c.in_ok-ends.ends c.in_ok-column.column (c.in_ok-ends.ensures.few h) (c.in_ok-ends.ensures.exact h)
          (c.in_ok-column.ensures.column (reads.still h)
          ∙ ap (λ all. below c.args.w (column_of (bytes_of_text all text) c.args.self.now.org c.args.p)) (reads.same h));
      inside = cell_ranges _ _ _ _ c.in_ok-column.ensures.inside c.cell_in.ensures.inside c.cell_in.ensures.column;
      from = cell_from _ _ _ from;
    }
