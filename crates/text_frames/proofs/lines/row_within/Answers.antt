use Rattle.std.proofs.Common.{◌≡◌, ◌+◌, ◌-◌, ◌∙◌, sym, subst, ap, arith, slice_get, Some}
use Rattle.piece_ring.specs.Flat.{flat}
use Rattle.readers_scanners.specs.Reading.{bytes_of_text}
use Rattle.readers_scanners.proofs.Walking.{at_first, onward, seen}
use Rattle.text_frames.specs.Lines.{is_return}
use Rattle.text_frames.specs.Reading.{IsRowBelow}
use Rattle.text_frames.proofs.Above.{ends_before, ends_within}
use Rattle.text_frames.proofs.Ends.{left_on, left_few, left_none, return_is}
use Rattle.text_frames.proofs.lines.row_within.Goals as goal

pub loop-at-init : goal.loop-at-init
loop-at-init g c =
    let s = g.S.CharSource in let laws = g.met.S.CharSource in
    let bs = bytes_of_text (s.characters c.args.source.now) (flat c.args.text.now) in
    record {
      way = at_first s.characters s.failures s.honest s.same_ground laws.ground_self laws.ground_through _ _ _ _
          (sym c.pos-from.ensures.position) c.requires.text;
      some = c.requires.some;
      few = omega arith;
      so_far = λ h. let none = ends_before bs c.pos-from.result c.pos-from.result (omega arith) in omega (arith, none);
    }

pub loop-at-preserved : goal.loop-at-preserved
loop-at-preserved g c =
    let s = g.S.CharSource in let laws = g.met.S.CharSource in let before = c.loop-at.invariant in
    let read = c.in_ok-byte.ensures in let low = c.loop-at.auto.at in
    let bs = bytes_of_text (s.characters c.args.source.now) (flat c.args.text.now) in
    let other = c.if-left-eq0.false in
    record {
      way = onward s.characters s.failures s.honest s.same_ground laws.ground_self laws.ground_through _ _ _ _ _
          before.way _ _ read.moves read.text read.reads read.cause;
      some = omega (arith, other);
      few = left_few c.loop-at.left c.left_after-left.result before.some (is_return c.in_ok-byte.byte)
          (c.pos-from.result + c.args.rows) c.loop-at.at c.left_after-left.ensures before.few;
      so_far = λ h. left_on c.loop-at.left c.left_after-left.result before.some (is_return c.in_ok-byte.byte) _ _ _
          c.left_after-left.ensures
          (ends_within bs c.pos-from.result c.loop-at.at c.in_ok-byte.byte
          (seen s.characters s.failures s.honest s.same_ground laws.ground_self laws.ground_through _ _ _ _ _
          before.way c.in_ok-byte.byte read.there h) low)
          (before.so_far h);
    }

pub returns-then-left-eq0-clause-begins : goal.returns-then-left-eq0-clause-begins
returns-then-left-eq0-clause-begins g c h =
    let s = g.S.CharSource in let laws = g.met.S.CharSource in let before = c.loop-at.invariant in
    let read = c.in_ok-byte.ensures in let low = c.loop-at.auto.at in
    let bs = bytes_of_text (s.characters c.args.source.now) (flat c.args.text.now) in
    let none = c.if-left-eq0.true in
    let there = seen s.characters s.failures s.honest s.same_ground laws.ground_self laws.ground_through _ _ _ _ _
    before.way c.in_ok-byte.byte read.there h in
    let all = left_on c.loop-at.left c.left_after-left.result before.some (is_return c.in_ok-byte.byte) _ _ _
    c.left_after-left.ensures (ends_within bs c.pos-from.result c.loop-at.at c.in_ok-byte.byte there low) (before.so_far h) in
    let last = left_none c.loop-at.left c.left_after-left.result before.some (is_return c.in_ok-byte.byte)
    c.left_after-left.ensures none in
    subst (λ p. IsRowBelow bs c.args.first.position c.args.rows p) (sym (read.moves ∙ ap (λ n. n + 1) before.way.place))
    (subst (λ from. IsRowBelow bs from c.args.rows (c.loop-at.at + 1)) c.pos-from.ensures.position (record {
      below = omega (arith, all, none);
      behind = ap (slice_get bs) (let e : c.loop-at.at + 1 - 1 ≡ c.loop-at.at = omega arith in e) ∙ there
          ∙ ap Some (return_is c.in_ok-byte.byte last);
    }))

pub returns-then-left-eq0-clause-range : goal.returns-then-left-eq0-clause-range
returns-then-left-eq0-clause-range g c =
    let before = c.loop-at.invariant in let none = c.if-left-eq0.true in let len = c.len-len.ensures in
    let test = c.loop-at-test.true in
    let few = left_few c.loop-at.left c.left_after-left.result before.some (is_return c.in_ok-byte.byte)
    (c.pos-from.result + c.args.rows) c.loop-at.at c.left_after-left.ensures before.few in
    let from = c.pos-from.ensures.position in let moves = c.in_ok-byte.ensures.moves in let place = before.way.place in
    (omega (arith, few, none, from, moves, place), omega (arith, test, len, moves, place))

pub returns-then-left-eq0-clause-text : goal.returns-then-left-eq0-clause-text
returns-then-left-eq0-clause-text g c = c.in_ok-byte.ensures.text ∙ c.loop-at.invariant.way.same
