use Rattle.std.proofs.Common.{◌∙◌, sym, arith}
use Rattle.sought_words.proofs.SearchOn.{found_next, found_none}
use Rattle.sought_words.proofs.places.found_at.Goals as goal

pub loop-place-preserved : goal.loop-place-preserved
loop-place-preserved c = c.loop-place.invariant
    ∙ found_next c.args.bytes.now c.args.words.now c.loop-place.place (omega (arith, c.loop-place-test.true))
    (sym c.stands_at.ensures ∙ c.if-stands_at.false)

pub returns : goal.returns
returns c = sym (c.loop-place.invariant
    ∙ found_none c.args.bytes.now c.args.words.now c.loop-place.place (omega (arith, c.loop-place-test.false)) c.requires)
