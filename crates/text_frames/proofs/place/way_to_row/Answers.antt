use Rattle.std.proofs.Common.{◌≤◌, ◌+◌, subst, length, IfSome, arith}
use Rattle.piece_ring.specs.Flat.{flat}
use Rattle.readers_scanners.specs.Reading.{bytes_of_text}
use Rattle.text_frames.specs.Reading.{IsRowBelow}
use Rattle.text_frames.proofs.RowReading.{place_of_row}
use Rattle.text_frames.proofs.place.way_to_row.Goals as goal

pub returns-in-Some-clause-place : goal.returns-in-Some-clause-place
returns-in-Some-clause-place g c h =
    let s = g.S.CharSource in let text = flat c.args.text.now in let found = c.in_ok-found.ensures in
    let bs = bytes_of_text (s.characters c.args.source.now) text in let some = c.if-row-gt0.true in
    let range = subst (λ o. IfSome o (λ row. (c.args.org + c.args.row ≤ row.position) × (row.position ≤ length text)))
    c.in-Some.is found.range in
    place_of_row bs c.args.org c.args.row c.in-Some.begin.position (omega (arith, some)) range.0
    (subst (λ o. IfSome o (λ row. IsRowBelow bs c.args.org c.args.row row.position)) c.in-Some.is (found.begins h))
