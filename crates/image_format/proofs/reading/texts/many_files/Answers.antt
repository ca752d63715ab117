use Rattle.std.proofs.Common.{refl, ap, ◌∙◌}
use Rattle.std.proofs.lemmas.Cmp.{lists_total, nat_cmp_total}
use Rattle.image_format.specs.Steps.{last_key}
use Rattle.image_format.proofs.Loop.{stops, is_done}
use Rattle.image_format.proofs.Rising.{names_rise, insert_last, last_key_push}
use Rattle.image_format.proofs.Tables.{entry_on}
use Rattle.image_format.proofs.reading.texts.many_files.Goals as goal

pub loop-preserved : goal.loop-preserved
loop-preserved g c =
    let order = lists_total nat_cmp_total in
    let all = c.loop.files.entries in
    let name = c.in_ok-name.name in
    let text = c.in_ok-name.text in
    let passed = c.in_ok-name.ensures.fits.1.0 in
    let put = insert_last order all name text (c.loop.invariant.wait name passed) in
    let last = ap last_key put ∙ last_key_push all name text in
    rw (c.in_ok-insert.ensures.entries, last) (entry_on g.met.S.ByteSource.ground_through order names_rise
    c.loop.invariant _ _ _ c.loop-test.true c.in_ok-name.ensures.reads c.in_ok-name.ensures.fits passed
    c.in_ok-name.ensures.left)

pub returns-in_err-name-clause-items : goal.returns-in_err-name-clause-items
returns-in_err-name-clause-items g c = stops g.met.S.ByteSource.ground_through c.loop.invariant.at
    c.from_residual.ensures.1 c.loop-test.true c.in_err-name.ensures.reads

pub returns-clause-items : goal.returns-clause-items
returns-clause-items g c = is_done c.loop.invariant.at c.loop-test.false refl
