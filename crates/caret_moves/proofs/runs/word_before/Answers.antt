use Rattle.std.proofs.Common.{◌∙◌}
use Rattle.std.specs.Prelude.{false}
use Rattle.piece_ring.specs.Flat.{flat}
use Rattle.readers_scanners.specs.Reading.{bytes_of_text}
use Rattle.caret_moves.specs.Runs.{run_start}
use Rattle.caret_moves.proofs.runs.word_before.Goals as goal

pub returns-clause-start : goal.returns-clause-start
returns-clause-start g c = λ h.
    let first = c.in_ok-gap.ensures in
    let reads = first.source.reads in
    c.in_ok-start.ensures.start (reads.still h)
    ∙ (λ k. run_start false (bytes_of_text (reads.same h k) (flat c.args.text.now)) (first.start h k))
