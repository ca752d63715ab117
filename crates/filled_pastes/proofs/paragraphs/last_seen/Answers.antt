use Rattle.std.proofs.Common.{◌∙◌, sym, arith}
use Rattle.std.proofs.Common.{ℕ, ◌+◌}
use Rattle.filled_pastes.specs.Paragraphs.{is_visible, last_seen}
use Rattle.filled_pastes.proofs.Downward.{next_seen}
use Rattle.filled_pastes.proofs.Downward.{down_here, down_none, down_on}
use Rattle.filled_pastes.proofs.paragraphs.last_seen.Goals as goal

pub returns-then-is_visible : goal.returns-then-is_visible
unfolding last_seen
returns-then-is_visible c = down_here (is_visible c.args.bytes.now c.args.width) (λ (k : ℕ). is_visible c.args.bytes.now c.args.width (k + 1)) (next_seen c.args.bytes.now c.args.width) c.loop-at.at (omega (arith, c.loop-at-test.true))
    (sym c.is_visible.ensures ∙ c.if-is_visible.true) ∙ sym c.loop-at.invariant

pub loop-at-preserved : goal.loop-at-preserved
loop-at-preserved c = c.loop-at.invariant ∙ down_on (is_visible c.args.bytes.now c.args.width) (λ (k : ℕ). is_visible c.args.bytes.now c.args.width (k + 1)) (next_seen c.args.bytes.now c.args.width) c.loop-at.at (omega (arith, c.loop-at-test.true))
    (sym c.is_visible.ensures ∙ c.if-is_visible.false)

pub returns : goal.returns
unfolding last_seen
returns c = down_none (is_visible c.args.bytes.now c.args.width) (λ (k : ℕ). is_visible c.args.bytes.now c.args.width (k + 1)) (next_seen c.args.bytes.now c.args.width) c.loop-at.at (omega (arith, c.loop-at-test.false)) ∙ sym c.loop-at.invariant
