use Rattle.std.proofs.Common.{◌+◌, ◌≡◌, ◌≤◌, ◌∙◌, arith}
use Rattle.script_lines.specs.Reading.{most_lines}
use Rattle.script_lines.proofs.Gathering.{gathered_more}
use Rattle.script_lines.proofs.line.Script.take_line.Goals as goal

pub loop-self-preserved : goal.loop-self-preserved
loop-self-preserved g c =
    let one_less : c.read_piece.new.self.reads + 1 ≡ c.take_pending.new.self.reads = c.in-Some.ensures.reads
    (omega (arith, c.in-Some.field-0-test.1)) in
    let fewer : most_lines c.read_piece.new.self ≤ most_lines c.loop-self.self = omega (
      arith,
      one_less,
      c.take_pending.ensures.reads,
      c.read_piece.ensures.piece.most,
    ) in
    record {
      gathered = gathered_more _ _ _ _ _ _ _ _ c.loop-self.invariant.gathered
          (c.take_pending.ensures.none c.loop-self-test.true).1
          (c.take_pending.ensures.none c.loop-self-test.true).2
          c.read_piece.ensures.piece.came c.read_piece.ensures.piece.most (one_less ∙ c.take_pending.ensures.reads) fewer;
      counted = omega (
        arith,
        c.loop-self.invariant.counted,
        c.take_pending.ensures.reads,
        c.read_piece.ensures.counted,
      );
      called = omega (
        arith,
        c.loop-self.invariant.called,
        c.in-Some.ensures.given (omega (arith, c.in-Some.field-0-test.1)),
      );
      calm = c.read_piece.ensures.cause.calm (λ none. cc (none.0, c.in-Some.is)) ∙ c.loop-self.invariant.calm;
    }
