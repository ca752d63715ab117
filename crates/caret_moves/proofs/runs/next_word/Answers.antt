use Rattle.std.proofs.Common.{◌∙◌}
use Rattle.std.specs.Prelude.{true}
use Rattle.piece_ring.specs.Flat.{flat}
use Rattle.readers_scanners.specs.Reading.{bytes_of_text}
use Rattle.caret_moves.specs.Runs.{run_end}
use Rattle.caret_moves.proofs.runs.next_word.Goals as goal

pub returns-clause-start : goal.returns-clause-start
returns-clause-start g c = λ h.
    let first = c.in_ok-gap.ensures in
    let reads = first.source.reads in
    c.in_ok-start.ensures.end (reads.still h)
    ∙ (λ k. run_end true (bytes_of_text (reads.same h k) (flat c.args.text.now)) (first.end h k))
