use Rattle.std.proofs.Common.{◌∙◌, sym, arith}
use Rattle.sought_words.proofs.SearchOn.{found_below, found_here, none_below}
use Rattle.sought_words.proofs.places.found_before.Goals as goal

pub returns-then-stands_at : goal.returns-then-stands_at
returns-then-stands_at c = sym (c.loop-place.invariant
    ∙ found_here c.args.bytes.now c.args.words.now c.loop-place.place (omega (arith, c.loop-place-test.true))
    (sym c.stands_at.ensures ∙ c.if-stands_at.true))

pub loop-place-preserved : goal.loop-place-preserved
loop-place-preserved c = c.loop-place.invariant
    ∙ found_below c.args.bytes.now c.args.words.now c.loop-place.place (omega (arith, c.loop-place-test.true))
    (sym c.stands_at.ensures ∙ c.if-stands_at.false)

pub returns : goal.returns
returns c = sym (c.loop-place.invariant
    ∙ none_below c.args.bytes.now c.args.words.now c.loop-place.place (omega (arith, c.loop-place-test.false)))
