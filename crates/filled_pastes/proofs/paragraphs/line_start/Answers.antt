use Rattle.std.proofs.Common.{◌∙◌, sym, arith}
use Rattle.text_frames.specs.Lines.{begins_line}
use Rattle.filled_pastes.specs.Paragraphs.{ends_at}
use Rattle.std.proofs.Common.{refl}
use Rattle.filled_pastes.proofs.Downward.{down_here, down_none, down_on}
use Rattle.filled_pastes.proofs.paragraphs.line_start.Goals as goal

pub returns-then-ends_at : goal.returns-then-ends_at
returns-then-ends_at c = down_here (begins_line c.args.bytes.now) (ends_at c.args.bytes.now) (λ k. refl) c.loop-at.at (omega (arith, c.loop-at-test.true))
    (sym c.ends_at.ensures ∙ c.if-ends_at.true) ∙ sym c.loop-at.invariant

pub loop-at-preserved : goal.loop-at-preserved
loop-at-preserved c = c.loop-at.invariant ∙ down_on (begins_line c.args.bytes.now) (ends_at c.args.bytes.now) (λ k. refl) c.loop-at.at (omega (arith, c.loop-at-test.true))
    (sym c.ends_at.ensures ∙ c.if-ends_at.false)

pub returns : goal.returns
returns c = down_none (begins_line c.args.bytes.now) (ends_at c.args.bytes.now) (λ k. refl) c.loop-at.at (omega (arith, c.loop-at-test.false)) ∙ sym c.loop-at.invariant
