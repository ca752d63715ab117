use Rattle.std.proofs.Common.{◌∙◌, sym, arith}
use Rattle.filled_pastes.specs.Paragraphs.{begins_paragraph, paragraph_start, stops_at}
use Rattle.std.proofs.Common.{refl}
use Rattle.filled_pastes.proofs.Downward.{down_here, down_none, down_on}
use Rattle.filled_pastes.proofs.paragraphs.paragraph_start.Goals as goal

pub returns-then-stops_at : goal.returns-then-stops_at
unfolding paragraph_start
returns-then-stops_at c = down_here (begins_paragraph c.args.bytes.now) (stops_at c.args.bytes.now) (λ k. refl) c.loop-at.at (omega (arith, c.loop-at-test.true))
    (sym c.stops_at.ensures ∙ c.if-stops_at.true) ∙ sym c.loop-at.invariant

pub loop-at-preserved : goal.loop-at-preserved
loop-at-preserved c = c.loop-at.invariant ∙ down_on (begins_paragraph c.args.bytes.now) (stops_at c.args.bytes.now) (λ k. refl) c.loop-at.at (omega (arith, c.loop-at-test.true))
    (sym c.stops_at.ensures ∙ c.if-stops_at.false)

pub returns : goal.returns
unfolding paragraph_start
returns c = down_none (begins_paragraph c.args.bytes.now) (stops_at c.args.bytes.now) (λ k. refl) c.loop-at.at (omega (arith, c.loop-at-test.false)) ∙ sym c.loop-at.invariant
