use Rattle.std.proofs.Common.{◌∙◌, Some}
use Rattle.piece_ring.specs.Flat.{flat}
use Rattle.readers_scanners.specs.Reading.{bytes_of_text}
use Rattle.text_frames.specs.Lines.{ends_between}
use Rattle.desk_input.specs.Lines.{share_start}
use Rattle.desk_input.proofs.lines.way_by_share.Goals as goal

pub returns-clause-way : goal.returns-clause-way
returns-clause-way g c = λ h.
    let first = c.in_ok-row.ensures in
    let reads = first.source.reads in
    let bs = bytes_of_text (g.S.CharSource.characters c.args.source.now) (flat c.args.text.now) in
    let lines_is = c.in_ok-lines.ensures.ends (reads.still h)
    ∙ (λ k. ends_between (bytes_of_text (reads.same h k) (flat c.args.text.now)) (first.start h k) c.args.target)
    ∙ (λ k. ends_between bs (share_start bs c.args.h (first.row h k)) c.args.target) in
    λ k. record { share = Some (first.row h k); lines = lines_is k }
