use Rattle.std.proofs.Common.{◌∙◌, false}
use Rattle.piece_ring.specs.Flat.{flat}
use Rattle.readers_scanners.specs.Reading.{bytes_of_text}
use Rattle.caret_moves.specs.Runs.{run_start}
use Rattle.caret_moves.specs.Filling.{behind_start}
use Rattle.caret_moves.proofs.filling.break_behind.Goals as goal

pub returns-clause-place : goal.returns-clause-place
returns-clause-place g c = λ h.
    let first = c.in_ok-start.ensures in
    let reads = first.source.reads in
    c.behind_start.ensures.is
    ∙ (λ k. behind_start (first.start h k) ((c.in_ok-place.ensures.start (reads.still h)
    ∙ (λ j. run_start false (bytes_of_text (reads.same h j) (flat c.args.text.now)) c.args.pos)) k))
