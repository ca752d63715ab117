use Rattle.std.proofs.Common.{ℕ, ◌∙◌, ap, arith, max}
use Rattle.std.specs.Prelude.{Option, option_map}
use Rattle.piece_ring.specs.Flat.{flat}
use Rattle.readers_scanners.specs.Reading.{bytes_of_text}
use Rattle.text_frames.specs.Cells.{cell_of}
use Rattle.text_frames.proofs.Placing.{length-read}
use Rattle.caret_moves.proofs.ReadLemmas.{column_read}
use Rattle.caret_moves.proofs.steps.column_below.Goals as goal

pub returns-clause-column : goal.returns-clause-column
returns-clause-column g c = λ h.
    let characters = g.S.CharSource.characters c.args.source.now in
    let bs = bytes_of_text characters (flat c.args.text.now) in
    let first = c.in_ok-start.ensures in
    let reads = first.source.reads in
    let long = length-read characters (flat c.args.text.now) in
    c.column_told.ensures
    ∙ ap (λ (cell : Option (ℕ × ℕ)). option_map (λ (x : ℕ × ℕ). x.0) cell) (c.in_ok-cell.ensures.cell.exact (reads.still h)
    ∙ (λ k. cell_of c.args.w 1 (bytes_of_text (reads.same h k) (flat c.args.text.now))
    ((c.frame_from.ensures ∙ c.max.ensures
    ∙ ap (λ (s : ℕ). max c.args.org s) (first.start h)) k) c.args.pos))
    ∙ column_read bs c.args.w c.args.org c.args.pos c.requires.walk.order
    (let low = c.requires.walk.within in omega (arith, long, low))
