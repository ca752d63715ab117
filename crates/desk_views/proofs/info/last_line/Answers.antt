use Rattle.std.proofs.Common.{◌≡◌, ◌+◌, ℕ, List, ap, ◌∙◌, sym, arith}
use Rattle.std.specs.Prelude.{slice_range, min}
use Rattle.piece_ring.specs.Flat.{flat}
use Rattle.readers_scanners.specs.Reading.{bytes_of_text}
use Rattle.readers_scanners.proofs.Running.{length-bytes}
use Rattle.text_frames.specs.Lines.{line_start}
use Rattle.viewer_tracks.specs.declared.display.TheConstants.{COLUMNS}
use Rattle.desk_views.proofs.InfoLemmas.{last_read}
use Rattle.desk_views.proofs.info.last_line.Goals as goal

pub returns-clause-line : goal.returns-clause-line
returns-clause-line g c = λ h.
    let old = g.S.CharSource.characters c.args.source.now in
    let text = flat c.args.text.now in
    let one = c.in_ok-last.ensures in let two = c.in_ok-start.ensures in let three = c.in_ok-line.ensures in
    let still = one.source.reads.still h in
    let again = two.source.reads.still still in
    let first = one.source.reads.same h in
    let second = two.source.reads.same still ∙ first in
    let start = c.in_ok-start.start in
    let end = c.saturating_sub-end.result in
    let few = c.min-few.result in
    let cut : start + few ≡ min end (start + COLUMNS) = omega (arith, c.min-few.ensures, two.range) in
    three.bytes again
    ∙ ap (λ (l : List ℕ). slice_range (bytes_of_text l text) start (start + few)) second
    ∙ last_read (bytes_of_text old text) c.len.result c.in_ok-last.last start end (start + few)
    (c.len.ensures ∙ sym (length-bytes old text)) (one.start h) c.saturating_sub-end.ensures
    (two.start still ∙ ap (λ (l : List ℕ). line_start (bytes_of_text l text) end) first) two.range cut
