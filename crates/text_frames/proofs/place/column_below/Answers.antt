use Rattle.std.proofs.Common.{ap, ◌∙◌, arith}
use Rattle.piece_ring.specs.Flat.{flat}
use Rattle.readers_scanners.specs.Reading.{bytes_of_text}
use Rattle.text_frames.specs.Cells.{column_of}
use Rattle.text_frames.specs.Near.{below}
use Rattle.text_frames.proofs.Near.{below_none, column_wide, same_column}
use Rattle.text_frames.proofs.Placing.{length-read}
use Rattle.text_frames.proofs.place.column_below.Goals as goal

pub returns-in_default-clause-column : goal.returns-in_default-clause-column
returns-in_default-clause-column g c h =
    let characters = g.S.CharSource.characters c.args.source.now in let text = flat c.args.text.now in
    let within = c.requires.within in let long = length-read characters text in
    below_none c.args.w _ (column_wide (bytes_of_text characters text) c.args.org c.args.pos c.args.w
    (omega (arith, within, long)) (rw (c.open-reader.ensures.text, c.open-reader.ensures.position) at
    (rw c.in_default.is at (c.in_ok-start.ensures.start h))))

pub returns-clause-column : goal.returns-clause-column
returns-clause-column g c h =
    let text = flat c.args.text.now in let start = c.in-Some.start in let reads = c.row_start.ensures.source.reads in
    let there = rw (c.open-reader.ensures.text, c.open-reader.ensures.position) at
    (rw c.in-Some.is at (c.in_ok-start.ensures.start h)) in
    c.below.ensures.is
    ∙ ap (below c.args.w) (c.in_ok-place.ensures.column (reads.still h)
    ∙ (λ k. column_of (bytes_of_text (reads.same h k) text) start c.args.pos)
    ∙ same_column (bytes_of_text (g.S.CharSource.characters c.args.source.now) text) c.args.org c.args.pos start there)
