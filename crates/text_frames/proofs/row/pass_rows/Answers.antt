use Rattle.std.proofs.Common.{ℕ, ◌≡◌, ◌+◌, ◌-◌, ◌≤◌, refl, subst, arith, length, IfSome}
use Rattle.piece_ring.specs.Flat.{flat}
use Rattle.readers_scanners.specs.Reading.{bytes_of_text}
use Rattle.text_frames.specs.Reading.{IsRowBelow}
use Rattle.text_frames.proofs.RowReading.{begun, row_reached, skip_on}
use Rattle.text_frames.proofs.row.pass_rows.Goals as goal

pub loop-at-preserved : goal.loop-at-preserved
loop-at-preserved g c =
    let s = g.S.CharSource in let laws = g.met.S.CharSource in let read = c.in_ok-byte.ensures in
    let low = c.loop-at-test.true in let len = c.len-len.ensures in let above = c.if-here-wanted.false in
    skip_on s.characters s.failures s.honest s.same_ground laws.ground_self laws.ground_through _ _ _ _ _ _ _ _ _ _
    c.loop-at.here.column c.in_ok-byte.byte _ _ c.loop-at.invariant (omega (arith, above)) (omega (arith, low, len))
    read.there read.moves read.text read.reads read.cause c.pass.ensures.row c.pass.ensures.column

pub loop-at-init : goal.loop-at-init
loop-at-init g c =
    let s = g.S.CharSource in let found = c.in_ok-found.ensures.source in
    begun s.characters s.failures s.honest s.same_ground _ _ _ _ _ _ _ _ _ found.reads found.cause c.requires.so_far
    c.pos-at.ensures.position

pub returns-in-Some-clause-read : goal.returns-in-Some-clause-read
returns-in-Some-clause-read g c =
    let s = g.S.CharSource in let text = flat c.args.text.now in let found = c.in_ok-found.ensures in
    let bs = bytes_of_text (s.characters c.args.source.now) text in let n : ℕ = c.args.row - c.args.place.now.row in
    let here : c.pos.result ≡ c.args.reader.now.position = c.pos.ensures.position in
    let range = subst (λ o. IfSome o (λ row. (c.pos.result + n ≤ row.position) × (row.position ≤ length text))) c.in-Some.is
    found.range in
    let above = c.if-first-wanted.false in let far = range.0 in
    row_reached (s.honest c.args.source.now) (s.characters c.args.source.now) text c.args.reader.now c.in-Some.begin
    c.args.org c.args.row c.args.place.now.row c.args.place.now.column n c.in-Some.begin.position c.requires.so_far
    (omega (arith, above)) refl (subst (λ o. IfSome o (λ row. row.text ≡ text)) c.in-Some.is found.text) refl
    (omega (arith, far, here)) range.1
    (λ h. subst (λ q. IsRowBelow bs q n c.in-Some.begin.position) here
    (subst (λ o. IfSome o (λ row. IsRowBelow bs c.pos.result n row.position)) c.in-Some.is (found.begins h)))
