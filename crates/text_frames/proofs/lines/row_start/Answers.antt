use Rattle.std.proofs.Common.{◌≡◌, ◌+◌, ◌-◌, ◌<◌, arith, sym, ◌∙◌}
use Rattle.readers_scanners.specs.Reading.{bytes_of_text}
use Rattle.readers_scanners.proofs.Walking.{backward, seen_before}
use Rattle.text_frames.proofs.Greatest.{starts_here, starts_before}
use Rattle.text_frames.proofs.Near.{starts_above, starts_at_org, starts_at}
use Rattle.text_frames.proofs.lines.row_start.Goals as goal

pub returns-then-byte-eq-CARRIAGE_RETURN-clause-start : goal.returns-then-byte-eq-CARRIAGE_RETURN-clause-start
returns-then-byte-eq-CARRIAGE_RETURN-clause-start g c h =
    let s = g.S.CharSource in let laws = g.met.S.CharSource in let before = c.loop-at.invariant in
    let bs = bytes_of_text (s.characters c.args.source.now) c.args.reader.now.text in
    let there = seen_before s.characters s.failures s.honest s.same_ground laws.ground_self laws.ground_through
    _ _ _ _ _ before.way c.in_ok-byte.byte _ c.in_ok-byte.ensures.moves c.in_ok-byte.ensures.there h in
    let test = c.loop-at-test.true in let low = c.max-low.ensures in
    let some : 0 < c.loop-at.at = omega (arith, test) in
    starts_at bs c.args.org c.args.reader.now.position (c.loop-at.at - 1 + 1)
    (starts_here bs c.loop-at.at c.in_ok-byte.byte there some c.if-byte-eq-CARRIAGE_RETURN.true ∙ sym (before.exact h))
    (omega (arith, test, low))

pub loop-at-preserved : goal.loop-at-preserved
loop-at-preserved g c =
    let s = g.S.CharSource in let laws = g.met.S.CharSource in let before = c.loop-at.invariant in
    let range = before.range in let test = c.loop-at-test.true in
    record {
      way = backward s.characters s.failures s.honest s.same_ground laws.ground_self laws.ground_through
          _ _ _ _ _ before.way c.previous_byte.new.source c.previous_byte.new.self c.in_ok-byte.ensures.moves
          c.in_ok-byte.ensures.text c.in_ok-byte.ensures.reads c.in_ok-byte.ensures.cause;
      range = omega (arith, range);
      floor = omega (arith, test);
      exact = λ h.
          let there = seen_before s.characters s.failures s.honest s.same_ground laws.ground_self laws.ground_through
          _ _ _ _ _ before.way c.in_ok-byte.byte _ c.in_ok-byte.ensures.moves c.in_ok-byte.ensures.there h in
          let some : 0 < c.loop-at.at = omega (arith, test) in
          before.exact h
          ∙ starts_before (bytes_of_text (s.characters c.args.source.now) c.args.reader.now.text) c.loop-at.at c.in_ok-byte.byte
          there some c.if-byte-eq-CARRIAGE_RETURN.false;
    }

pub returns-then-low-org-clause-start : goal.returns-then-low-org-clause-start
returns-then-low-org-clause-start g c h =
    let s = g.S.CharSource in
    let bs = bytes_of_text (s.characters c.args.source.now) c.args.reader.now.text in
    let past = c.loop-at-test.false in let low = c.max-low.ensures in let least = c.saturating_sub.ensures in
    let above = c.if-low-org.true in let from = c.loop-at.invariant.floor in
    let here : c.loop-at.at ≡ c.max-low.result = omega (arith, past, from) in
    starts_above bs c.args.org c.args.reader.now.position c.loop-at.at c.args.most (c.loop-at.invariant.exact h)
    (omega (arith, here, above)) (omega (arith, here, above, low, least))

pub returns-clause-start : goal.returns-clause-start
returns-clause-start g c h =
    let s = g.S.CharSource in
    let bs = bytes_of_text (s.characters c.args.source.now) c.args.reader.now.text in
    let past = c.loop-at-test.false in let low = c.max-low.ensures in
    let above = c.if-low-org.false in let from = c.loop-at.invariant.floor in
    let here : c.loop-at.at ≡ c.args.org = omega (arith, past, from, low, above) in
    starts_at_org bs c.args.org c.args.reader.now.position c.loop-at.at (c.loop-at.invariant.exact h) here
