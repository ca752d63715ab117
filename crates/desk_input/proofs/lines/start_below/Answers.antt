use Rattle.std.proofs.Common.{◌∙◌}
use Rattle.piece_ring.specs.Flat.{flat}
use Rattle.readers_scanners.specs.Reading.{bytes_of_text}
use Rattle.text_frames.specs.Lines.{line_start}
use Rattle.desk_input.proofs.lines.start_below.Goals as goal

pub returns-clause-start : goal.returns-clause-start
returns-clause-start g c = λ h.
    let first = c.in_ok-below.ensures in
    let reads = first.source.reads in
    c.in_ok-start.ensures.start (reads.still h)
    ∙ (λ k. line_start (bytes_of_text (reads.same h k) (flat c.args.text.now)) (first.position.exact h k))
