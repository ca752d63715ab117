use Rattle.std.proofs.Common.{◌∙◌}
use Rattle.piece_ring.specs.Flat.{flat}
use Rattle.readers_scanners.specs.Reading.{bytes_of_text}
use Rattle.caret_moves.specs.Steps.{level_with}
use Rattle.caret_moves.proofs.steps.lines_down.Goals as goal

pub returns-clause-place : goal.returns-clause-place
returns-clause-place g c = λ h.
    let first = c.in_ok-start.ensures in
    let reads = first.source.reads in
    c.in_ok-place.ensures.place (reads.still h)
    ∙ (λ k. level_with (bytes_of_text (reads.same h k) (flat c.args.text.now)) c.args.w c.args.pos (first.start h k))
