use Rattle.std.proofs.Common.{arith, sym, ◌∙◌}
use Rattle.readers_scanners.specs.Reading.{bytes_of_text}
use Rattle.readers_scanners.proofs.Walking.{backward, seen_before}
use Rattle.text_frames.proofs.Greatest.{starts_here, starts_before}
use Rattle.text_frames.proofs.lines.to_line_start.Goals as goal

pub returns-then-byte-eq-CARRIAGE_RETURN-clause-start : goal.returns-then-byte-eq-CARRIAGE_RETURN-clause-start
returns-then-byte-eq-CARRIAGE_RETURN-clause-start g c h =
    let s = g.S.CharSource in let laws = g.met.S.CharSource in let before = c.loop-at.invariant in
    let there = seen_before s.characters s.failures s.honest s.same_ground laws.ground_self laws.ground_through
    _ _ _ _ _ before.way c.in_ok-byte.byte _ c.in_ok-byte.ensures.moves c.in_ok-byte.ensures.there h in
    starts_here (bytes_of_text (s.characters c.args.source.now) c.args.reader.now.text) c.loop-at.at c.in_ok-byte.byte there
    c.loop-at-test.true c.if-byte-eq-CARRIAGE_RETURN.true ∙ sym (before.exact h)

pub loop-at-preserved : goal.loop-at-preserved
loop-at-preserved g c =
    let s = g.S.CharSource in let laws = g.met.S.CharSource in let before = c.loop-at.invariant in
    let range = before.range in
    record {
      way = backward s.characters s.failures s.honest s.same_ground laws.ground_self laws.ground_through
          _ _ _ _ _ before.way c.previous_byte.new.source c.previous_byte.new.self c.in_ok-byte.ensures.moves
          c.in_ok-byte.ensures.text c.in_ok-byte.ensures.reads c.in_ok-byte.ensures.cause;
      range = omega (arith, range);
      exact = λ h.
          let there = seen_before s.characters s.failures s.honest s.same_ground laws.ground_self laws.ground_through
          _ _ _ _ _ before.way c.in_ok-byte.byte _ c.in_ok-byte.ensures.moves c.in_ok-byte.ensures.there h in
          before.exact h
          ∙ starts_before (bytes_of_text (s.characters c.args.source.now) c.args.reader.now.text) c.loop-at.at c.in_ok-byte.byte
          there c.loop-at-test.true c.if-byte-eq-CARRIAGE_RETURN.false;
    }
