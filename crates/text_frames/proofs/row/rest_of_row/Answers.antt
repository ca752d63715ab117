use Rattle.std.proofs.Common.{◌≤◌, ◌+◌, arith, sym, ◌∙◌}
use Rattle.text_frames.proofs.RowReading.{row_begun, row_on, row_done, row_last, read_on, done_high, more_high}
use Rattle.text_frames.proofs.row.rest_of_row.Goals as goal

pub loop-at-init : goal.loop-at-init
loop-at-init g c =
    let s = g.S.CharSource in let laws = g.met.S.CharSource in let passed = c.in_ok-pass_rows.ensures in record {
      so_far = row_begun s.characters s.failures s.honest s.same_ground laws.ground_self laws.ground_through _ _ _ _ _ _
          _ _ _ _ _ passed.source.reads passed.source.cause passed.read c.pos-at.ensures.position c.new-line.ensures;
      high = passed.read.high;
    }

pub loop-at-preserved : goal.loop-at-preserved
loop-at-preserved g c =
    let s = g.S.CharSource in let laws = g.met.S.CharSource in let read = c.in_ok-byte.ensures in
    let low = c.loop-at-test.true in let len = c.len-len.ensures in
    record {
      so_far = row_on s.characters s.failures s.honest s.same_ground laws.ground_self laws.ground_through _ _ _ _ _ _ _ _
          _ _ _ _ _ _ (c.in_ok-byte.byte, c.in_ok-byte.look) _ _ _ c.loop-at.invariant.so_far c.loop-at.invariant.high
          (omega (arith, low, len)) read.there read.moves read.text read.reads read.cause
          c.cells_taken-count.ensures c.fill.ensures c.pass.ensures.row c.pass.ensures.column;
      high = more_high _ _ _ (sym c.is_done.ensures ∙ c.if-is_done.false);
    }

pub returns-then-is_done-clause-cells : goal.returns-then-is_done-clause-cells
returns-then-is_done-clause-cells g c =
    let s = g.S.CharSource in let laws = g.met.S.CharSource in let read = c.in_ok-byte.ensures in
    let low = c.loop-at-test.true in let len = c.len-len.ensures in
    row_done s.characters s.failures s.honest s.same_ground _ _ _ _ _ _ _ _ _ _ _
    (row_on s.characters s.failures s.honest s.same_ground laws.ground_self laws.ground_through _ _ _ _ _ _ _ _
    _ _ _ _ _ _ (c.in_ok-byte.byte, c.in_ok-byte.look) _ _ _ c.loop-at.invariant.so_far c.loop-at.invariant.high
    (omega (arith, low, len)) read.there read.moves read.text read.reads read.cause
    c.cells_taken-count.ensures c.fill.ensures c.pass.ensures.row c.pass.ensures.column)
    (sym c.is_done.ensures ∙ c.if-is_done.true)

pub returns-then-is_done-clause-read : goal.returns-then-is_done-clause-read
returns-then-is_done-clause-read g c =
    let s = g.S.CharSource in let laws = g.met.S.CharSource in let read = c.in_ok-byte.ensures in
    let low = c.loop-at-test.true in let len = c.len-len.ensures in
    read_on s.characters s.failures s.honest s.same_ground _ _ _ _ _ _ _ _ _ _ _
    (row_on s.characters s.failures s.honest s.same_ground laws.ground_self laws.ground_through _ _ _ _ _ _ _ _
    _ _ _ _ _ _ (c.in_ok-byte.byte, c.in_ok-byte.look) _ _ _ c.loop-at.invariant.so_far c.loop-at.invariant.high
    (omega (arith, low, len)) read.there read.moves read.text read.reads read.cause
    c.cells_taken-count.ensures c.fill.ensures c.pass.ensures.row c.pass.ensures.column)
    (done_high _ _ _ _ c.pass.ensures.row c.loop-at.invariant.high)

pub returns-clause-cells : goal.returns-clause-cells
returns-clause-cells g c =
    let s = g.S.CharSource in let past = c.loop-at-test.false in let len = c.len-len.ensures in
    row_last s.characters s.failures s.honest s.same_ground _ _ _ _ _ _ _ _ _ _ _ c.loop-at.invariant.so_far
    (omega (arith, past, len))

pub returns-clause-read : goal.returns-clause-read
returns-clause-read g c =
    let s = g.S.CharSource in let high = c.loop-at.invariant.high in
    read_on s.characters s.failures s.honest s.same_ground _ _ _ _ _ _ _ _ _ _ _ c.loop-at.invariant.so_far
    (let le : c.loop-at.place.row ≤ c.args.row + 1 = omega (arith, high) in le)
