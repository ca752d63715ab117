use Rattle.std.proofs.Common.{◌∙◌, sym, arith, length}
use Rattle.filled_pastes.specs.Paragraphs.{is_to_do}
use Rattle.filled_pastes.proofs.Downward.{first_here, first_none, first_on}
use Rattle.filled_pastes.proofs.paragraphs.due_from.Goals as goal

pub loop-place-preserved : goal.loop-place-preserved
loop-place-preserved c = c.loop-place.invariant
    ∙ first_on (is_to_do c.args.bytes.now c.args.width) (length c.args.bytes.now) c.loop-place.place
    (omega (arith, c.loop-place-test.true)) (sym c.is_to_do.ensures ∙ c.if-is_to_do.false)

pub returns-then-is_to_do : goal.returns-then-is_to_do
returns-then-is_to_do c = first_here (is_to_do c.args.bytes.now c.args.width) (length c.args.bytes.now) c.loop-place.place
    (omega (arith, c.loop-place-test.true)) (sym c.is_to_do.ensures ∙ c.if-is_to_do.true) ∙ sym c.loop-place.invariant

pub returns : goal.returns
returns c = first_none (is_to_do c.args.bytes.now c.args.width) (length c.args.bytes.now) c.loop-place.place
    (omega (arith, c.loop-place-test.false)) ∙ sym c.loop-place.invariant
