use Rattle.std.proofs.Common.{◌∙◌}
use Rattle.piece_ring.specs.Flat.{flat}
use Rattle.readers_scanners.specs.Reading.{bytes_of_text}
use Rattle.text_frames.specs.Cells.{position_at}
use Rattle.caret_moves.proofs.steps.level_with.Goals as goal

pub returns-clause-place : goal.returns-clause-place
returns-clause-place g c = λ h.
    let first = c.in_ok-column.ensures in
    let reads = first.source.reads in
    c.in_ok-place.ensures.position.exact (reads.still h)
    ∙ (λ k. position_at (bytes_of_text (reads.same h k) (flat c.args.text.now)) (c.frame_from.ensures k) (first.column h k) 0)
