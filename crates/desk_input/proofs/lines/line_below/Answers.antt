use Rattle.std.proofs.Common.{◌+◌, ◌-◌, arith, sym, ◌∙◌}
use Rattle.char_file.proofs.Reading.{read_on}
use Rattle.piece_ring.specs.Flat.{flat}
use Rattle.readers_scanners.specs.Reading.{bytes_of_text}
use Rattle.text_frames.specs.Lines.{line_start}
use Rattle.desk_input.specs.Lines.{start_below}
use Rattle.desk_input.proofs.WalkLemmas.{below_next, below_last, below_stays}
use Rattle.desk_input.proofs.lines.line_below.Goals as goal

pub loop-below-preserved : goal.loop-below-preserved
loop-below-preserved g c =
    let s = g.S.CharSource in
    let before = c.loop-below.invariant in
    let passed = c.in_ok-next.ensures in
    let test = c.loop-below-test.true in
    record {
      reads = read_on s.characters s.failures s.honest s.same_ground g.met.S.CharSource.ground_through _ _ _ before.reads
          passed.source.reads;
      calm = passed.source.cause ∙ before.calm;
      within = passed.within;
      exact = λ h. before.exact h
          ∙ below_next (bytes_of_text (s.characters c.args.source.now) (flat c.args.text.now))
          (c.args.lines - c.loop-below.below) (c.args.lines - (c.loop-below.below + 1)) c.loop-below.at _
          (omega (arith, test))
          (passed.start (before.reads.still h)
          ∙ (λ k. start_below (bytes_of_text (before.reads.same h k) (flat c.args.text.now)) c.loop-below.at));
    }

pub returns-then-next-at-clause-start : goal.returns-then-next-at-clause-start
returns-then-next-at-clause-start g c = λ h.
    let s = g.S.CharSource in
    let before = c.loop-below.invariant in
    let passed = c.in_ok-next.ensures in
    let bs = bytes_of_text (s.characters c.args.source.now) (flat c.args.text.now) in
    let same = c.if-next-at.true in
    let is = passed.start (before.reads.still h)
    ∙ (λ k. start_below (bytes_of_text (before.reads.same h k) (flat c.args.text.now)) c.loop-below.at) in
    same ∙ sym (below_stays bs (c.args.lines - c.loop-below.below) c.loop-below.at (sym same ∙ is))
    ∙ sym (before.exact h)

pub returns-clause-start : goal.returns-clause-start
returns-clause-start g c = λ h.
    let s = g.S.CharSource in
    let before = c.loop-below.invariant in
    let test = c.loop-below-test.false in
    let bs = bytes_of_text (s.characters c.args.source.now) (flat c.args.text.now) in
    c.in_ok-start.ensures.start (before.reads.still h)
    ∙ (λ k. line_start (bytes_of_text (before.reads.same h k) (flat c.args.text.now)) c.loop-below.at)
    ∙ below_last bs (c.args.lines - c.loop-below.below) c.loop-below.at (omega (arith, test))
    ∙ sym (before.exact h)
