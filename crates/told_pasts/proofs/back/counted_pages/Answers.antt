use Rattle.std.proofs.Common.{◌≡◌, ◌+◌, ◌∙◌, ap, arith, false, refl, rules, subst, sym}
use Rattle.std.specs.Prelude.{Err}
use Rattle.std.proofs.lemmas.Result.{err_from_is_err_and}
use Rattle.past_pages.specs.Reading.{HasPage}
use Rattle.past_pages.proofs.Failing.{none_failed}
use Rattle.past_pages.proofs.StillReads.{still_both, still_none, still_reads}
use Rattle.told_pasts.specs.declared.back.Pages.TheVariants.{Whole}
use Rattle.told_pasts.proofs.Counted.{all_counted, count_left, counted_page, few_counted, none_counted, page_counted}
use Rattle.told_pasts.proofs.Stops.{closed_stops, looks_stop, stops_later, stops_none}
use Rattle.told_pasts.proofs.back.counted_pages.Goals as goal

pub loop-at-init : goal.loop-at-init
loop-at-init g c =
    let usable : c.args.store.now.must_reopen ≡ false = search rules in
    record {
      still = still_none g.D.Disk c.args.store.now usable;
      calm = refl;
      counted = λ honest pages written good ends room few.
          none_counted _ c.args.end pages c.args.first written good ends;
    }

pub returns-in_default-clause-whole : goal.returns-in_default-clause-whole
returns-in_default-clause-whole g c = λ honest pages written good ends room few.
    let usable : c.args.store.now.must_reopen ≡ false = search rules in
    let i = c.loop-at.invariant in
    let was = i.counted honest pages written good ends room few in
    let left = count_left was c.loop-at-test.true in
    let same = still_reads g.D.Disk i.still (c.shows_what_crashes_leave.ensures.quiet usable honest) honest in
    absurd ((rw c.in_default.is at c.in_ok-page.ensures.found) (i.still.left.disk.device.still honest) left.0
    (subst (λ r. HasPage r c.loop-at.at c.args.end left.0) (sym same) (counted_page was left.0 left.1 left.2))
    (omega (arith, room, i.still.left.disk.device.as_large)))

pub returns-in_default-clause-still : goal.returns-in_default-clause-still
returns-in_default-clause-still g c = still_both g.D.Disk c.loop-at.invariant.still c.in_ok-page.ensures.still

pub loop-at-preserved : goal.loop-at-preserved
loop-at-preserved g c =
    let usable : c.args.store.now.must_reopen ≡ false = search rules in
    let i = c.loop-at.invariant in
    record {
      still = still_both g.D.Disk i.still c.in_ok-page.ensures.still;
      calm = none_failed c.in_ok-page.ensures.looks.faults ∙ i.calm;
      counted = λ honest pages written good ends room few.
          let was = i.counted honest pages written good ends room few in
          let left = count_left was c.loop-at-test.true in
          let same = still_reads g.D.Disk i.still (c.shows_what_crashes_leave.ensures.quiet usable honest) honest in
          let read = (rw c.in-Some.is at c.in_ok-page.ensures.found) (i.still.left.disk.device.still honest) left.0
          (subst (λ r. HasPage r c.loop-at.at c.args.end left.0) (sym same) (counted_page was left.0 left.1 left.2))
          (omega (arith, room, i.still.left.disk.device.as_large)) in
          let most = few_counted was left.0 left.1 left.2 c.in-Some.page.deeds read.0 in
          let many = c.counted-many.ensures.many in
          page_counted was left.0 left.1 left.2 c.in-Some.page.deeds read.0 (c.counted-many.ensures.next ∙ read.1)
          (c.sum_of-count.ensures.sum (omega (arith, few, most, many)) ∙ ap (λ n. c.loop-at.count + n) many);
    }

pub returns-clause-whole : goal.returns-clause-whole
returns-clause-whole g c = λ honest pages written good ends room few.
    ap Whole (all_counted (c.loop-at.invariant.counted honest pages written good ends room few)
    (omega (arith, c.loop-at-test.false)))

pub returns-clause-still : goal.returns-clause-still
returns-clause-still g c = c.loop-at.invariant.still

pub returns-then-is_err-clause-stops : goal.returns-then-is_err-clause-stops
returns-then-is_err-clause-stops g c = closed_stops g.D.Disk c.args.store.now c.info.result c.info.ensures.value
    (sym c.is_err.ensures.value ∙ c.if-is_err.true)

pub returns-in_err-page-clause-stops : goal.returns-in_err-page-clause-stops
returns-in_err-page-clause-stops g c =
    let p = err_from_is_err_and c.from_residual.result c.from_residual.ensures.1 in
    let failed : c.page_in.result ≡ Err p.0 = cc (p.2, c.in_err-page.was) in
    let i = c.loop-at.invariant in
    stops_later g.D.Disk i.still.usable i.calm (looks_stop g.D.Disk c.page_in.result c.page_in.ensures.looks)
    (λ known. i.still.usable) failed p.1

pub returns-in_default-clause-stops : goal.returns-in_default-clause-stops
returns-in_default-clause-stops g c = stops_none g.D.Disk
    (none_failed c.in_ok-page.ensures.looks.faults ∙ c.loop-at.invariant.calm)

pub returns-clause-stops : goal.returns-clause-stops
returns-clause-stops g c = stops_none g.D.Disk c.loop-at.invariant.calm
