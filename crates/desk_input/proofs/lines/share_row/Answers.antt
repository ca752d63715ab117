use Rattle.std.proofs.Common.{◌≡◌, ◌-◌, arith, sym, ap, ◌∙◌, nat_le}
use Rattle.char_file.proofs.Reading.{read_on}
use Rattle.piece_ring.specs.Flat.{flat}
use Rattle.readers_scanners.specs.Reading.{bytes_of_text}
use Rattle.text_frames.specs.Lines.{greatest_where}
use Rattle.desk_input.specs.Lines.{share_start}
use Rattle.desk_input.proofs.LineLaws.{share_first}
use Rattle.desk_input.proofs.WalkLemmas.{row_found, row_passed}
use Rattle.desk_input.proofs.lines.share_row.Goals as goal

pub loop-row-preserved : goal.loop-row-preserved
loop-row-preserved g c =
    let s = g.S.CharSource in
    let before = c.loop-row.invariant in
    let passed = c.in_ok-start.ensures in
    let test = c.loop-row-test.true in
    let upto = before.upto in
    let bs = bytes_of_text (s.characters c.args.source.now) (flat c.args.text.now) in
    record {
      reads = read_on s.characters s.failures s.honest s.same_ground g.met.S.CharSource.ground_through _ _ _ before.reads
          passed.source.reads;
      calm = passed.source.cause ∙ before.calm;
      upto = omega (arith, upto);
      exact = λ h. before.exact h
          ∙ row_passed bs c.args.h c.args.target (c.loop-row.row - 1) c.in_ok-start.start
          (passed.start (before.reads.still h)
          ∙ (λ k. share_start (bytes_of_text (before.reads.same h k) (flat c.args.text.now)) c.args.h (c.loop-row.row - 1)))
          (c.loop-row.row - 1 - 1) (omega (arith, test)) c.if-start-target.false;
    }

pub returns-then-start-target-clause-row : goal.returns-then-start-target-clause-row
returns-then-start-target-clause-row g c = λ h.
    let s = g.S.CharSource in
    let before = c.loop-row.invariant in
    let bs = bytes_of_text (s.characters c.args.source.now) (flat c.args.text.now) in
    row_found bs c.args.h c.args.target (c.loop-row.row - 1) c.in_ok-start.start
    (c.in_ok-start.ensures.start (before.reads.still h)
    ∙ (λ k. share_start (bytes_of_text (before.reads.same h k) (flat c.args.text.now)) c.args.h (c.loop-row.row - 1)))
    c.if-start-target.true
    ∙ sym (before.exact h)

pub returns-then-start-target-clause-start : goal.returns-then-start-target-clause-start
returns-then-start-target-clause-start g c = λ h.
    let before = c.loop-row.invariant in
    c.in_ok-start.ensures.start (before.reads.still h)
    ∙ (λ k. share_start (bytes_of_text (before.reads.same h k) (flat c.args.text.now)) c.args.h (c.loop-row.row - 1))

pub returns-clause-row : goal.returns-clause-row
returns-clause-row g c = λ h.
    let s = g.S.CharSource in
    let before = c.loop-row.invariant in
    let test = c.loop-row-test.false in
    let bs = bytes_of_text (s.characters c.args.source.now) (flat c.args.text.now) in
    sym (before.exact h ∙ ap (greatest_where (λ row. nat_le (share_start bs c.args.h row) c.args.target))
    (let e : c.loop-row.row - 1 ≡ 0 = omega (arith, test) in e))

pub returns-clause-start : goal.returns-clause-start
returns-clause-start g c = λ h.
    sym (share_first (bytes_of_text (g.S.CharSource.characters c.args.source.now) (flat c.args.text.now)) c.args.h)
