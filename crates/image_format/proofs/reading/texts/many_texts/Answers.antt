use Rattle.std.proofs.Common.{refl}
use Rattle.std.proofs.lemmas.Cmp.{nat_cmp_total}
use Rattle.image_format.proofs.Loop.{stops, is_done}
use Rattle.image_format.proofs.Rising.{numbers_rise}
use Rattle.image_format.proofs.Tables.{entry_on}
use Rattle.image_format.proofs.reading.texts.many_texts.Goals as goal

pub loop-preserved : goal.loop-preserved
loop-preserved g c = rw c.in_ok-insert.ensures.entries (entry_on g.met.S.ByteSource.ground_through nat_cmp_total
    numbers_rise c.loop.invariant _ _ _ c.loop-test.true c.in_ok-number.ensures.reads c.in_ok-number.ensures.fits
    c.in_ok-number.ensures.fits.1.0 c.in_ok-number.ensures.left)

pub returns-in_err-number-clause-items : goal.returns-in_err-number-clause-items
returns-in_err-number-clause-items g c = stops g.met.S.ByteSource.ground_through c.loop.invariant.at
    c.from_residual.ensures.1 c.loop-test.true c.in_err-number.ensures.reads

pub returns-clause-items : goal.returns-clause-items
returns-clause-items g c = is_done c.loop.invariant.at c.loop-test.false refl
