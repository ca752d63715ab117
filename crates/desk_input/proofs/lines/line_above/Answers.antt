use Rattle.std.proofs.Common.{◌+◌, ◌-◌, refl, arith, sym, ◌∙◌}
use Rattle.char_file.proofs.Reading.{read_on}
use Rattle.piece_ring.specs.Flat.{flat}
use Rattle.readers_scanners.specs.Reading.{bytes_of_text}
use Rattle.text_frames.specs.Lines.{line_start}
use Rattle.text_frames.proofs.Greatest.{above_next, above_last}
use Rattle.desk_input.proofs.WalkLemmas.{above_first}
use Rattle.desk_input.proofs.lines.line_above.Goals as goal

pub loop-above-preserved : goal.loop-above-preserved
loop-above-preserved g c =
    let s = g.S.CharSource in
    let before = c.loop-above.invariant in
    let passed = c.in_ok-first.ensures in
    let test = c.loop-above-test.true in
    let low = passed.range in
    let within = before.within in
    record {
      reads = read_on s.characters s.failures s.honest s.same_ground g.met.S.CharSource.ground_through _ _ _ before.reads
          passed.source.reads;
      calm = passed.source.cause ∙ before.calm;
      within = omega (arith, low, within);
      exact = λ h. before.exact h
          ∙ above_next (bytes_of_text (s.characters c.args.source.now) (flat c.args.text.now))
          (c.args.lines - c.loop-above.above) (c.args.lines - (c.loop-above.above + 1)) c.loop-above.at c.in_ok-first.first _
          (omega (arith, test))
          (passed.start (before.reads.still h)
          ∙ (λ k. line_start (bytes_of_text (before.reads.same h k) (flat c.args.text.now)) c.loop-above.at)) refl;
    }

pub returns-then-first-eq0-clause-start : goal.returns-then-first-eq0-clause-start
returns-then-first-eq0-clause-start g c = λ h.
    let s = g.S.CharSource in
    let before = c.loop-above.invariant in
    let bs = bytes_of_text (s.characters c.args.source.now) (flat c.args.text.now) in
    let is = c.in_ok-first.ensures.start (before.reads.still h)
    ∙ (λ k. line_start (bytes_of_text (before.reads.same h k) (flat c.args.text.now)) c.loop-above.at) in
    sym (above_first bs (c.args.lines - c.loop-above.above) c.loop-above.at (sym c.if-first-eq0.true ∙ is))
    ∙ sym (before.exact h)

pub returns-clause-start : goal.returns-clause-start
returns-clause-start g c = λ h.
    let s = g.S.CharSource in
    let before = c.loop-above.invariant in
    let test = c.loop-above-test.false in
    let bs = bytes_of_text (s.characters c.args.source.now) (flat c.args.text.now) in
    c.in_ok-start.ensures.start (before.reads.still h)
    ∙ (λ k. line_start (bytes_of_text (before.reads.same h k) (flat c.args.text.now)) c.loop-above.at)
    ∙ above_last bs (c.args.lines - c.loop-above.above) c.loop-above.at (omega (arith, test))
    ∙ sym (before.exact h)
