use Rattle.std.proofs.Common.{◌+◌, ◌-◌, arith, refl, sym, ◌∙◌}
use Rattle.char_file.proofs.Reading.{read_on}
use Rattle.piece_ring.specs.Flat.{flat}
use Rattle.readers_scanners.specs.Reading.{bytes_of_text}
use Rattle.text_frames.specs.Lines.{line_start}
use Rattle.text_frames.proofs.Greatest.{above_next, above_last}
use Rattle.text_frames.proofs.lines.line_above.Goals as goal

pub loop-above-preserved : goal.loop-above-preserved
loop-above-preserved g c =
    let s = g.S.CharSource in let laws = g.met.S.CharSource in let before = c.loop-above.invariant in
    let way = before.way in let passed = c.in_ok-to_line_start.ensures in let moves = passed.moves in
    let low = passed.range in let range = before.range in let test = c.loop-above-test.true in
    record {
      way = record {
        place = refl;
        same = passed.text ∙ way.same;
        reads = read_on s.characters s.failures s.honest s.same_ground laws.ground_through _ _ _ way.reads
            passed.source.reads;
        calm = passed.source.cause ∙ way.calm;
      };
      range = omega (arith, moves, low, range);
      exact = λ h.
          let bs = bytes_of_text (s.characters c.args.source.now) (flat c.args.text.now) in
          before.exact h
          ∙ above_next bs (c.args.lines - c.loop-above.above) (c.args.lines - (c.loop-above.above + 1))
          c.loop-above.reader.position _ _ (omega (arith, test))
          (passed.start (way.reads.still h)
          ∙ (λ k. line_start (bytes_of_text (way.reads.same h k) (way.same k)) c.loop-above.reader.position)) moves;
    }

pub returns-clause-start : goal.returns-clause-start
returns-clause-start g c h =
    let s = g.S.CharSource in let before = c.loop-above.invariant in
    let way = before.way in let test = c.loop-above-test.false in
    let bs = bytes_of_text (s.characters c.args.source.now) (flat c.args.text.now) in
    c.in_ok-start.ensures.start (way.reads.still h)
    ∙ (λ k. line_start (bytes_of_text (way.reads.same h k) (way.same k)) c.loop-above.reader.position)
    ∙ above_last bs (c.args.lines - c.loop-above.above) c.loop-above.reader.position (omega (arith, test))
    ∙ sym (before.exact h)
