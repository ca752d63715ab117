use Rattle.std.proofs.Common.{◌≡◌, ◌∙◌, arith, refl, subst, sym}
use Rattle.std.specs.Prelude.{Err}
use Rattle.std.proofs.lemmas.Result.{err_from_is_err_and}
use Rattle.past_pages.specs.Reading.{HasPage}
use Rattle.past_pages.proofs.Failing.{error_from, none_failed}
use Rattle.past_pages.proofs.StillReads.{still_both, still_none, still_reads}
use Rattle.desk_past.proofs.Fronts.{all_counted, front_counted, front_many, none_counted, one_there}
use Rattle.desk_past.proofs.reading.many_in.Goals as goal

pub loop-at-init : goal.loop-at-init
loop-at-init g c = record {
  still = still_none g.D.Disk c.args.store.now c.requires.usable;
  calm = refl;
  counted = λ honest pages held good ends. none_counted pages c.args.first held good ends;
}

pub returns-in_err-page-clause-still : goal.returns-in_err-page-clause-still
returns-in_err-page-clause-still g c = still_both g.D.Disk c.loop-at.invariant.still c.front_at.ensures.still

pub returns-in_err-page-clause-faults : goal.returns-in_err-page-clause-faults
returns-in_err-page-clause-faults g c =
    let p = err_from_is_err_and c.from_residual.result c.from_residual.ensures.1 in
    let failed : c.front_at.result ≡ Err p.0 = cc (p.1, p.2, c.in_err-page.was) in
    error_from c.front_at.ensures.faults (λ e named. named) c.loop-at.invariant.calm failed p.1

pub returns-in_default-clause-still : goal.returns-in_default-clause-still
returns-in_default-clause-still g c = still_both g.D.Disk c.loop-at.invariant.still c.front_at.ensures.still

pub returns-in_default-clause-whole : goal.returns-in_default-clause-whole
returns-in_default-clause-whole g c = λ honest pages held good ends.
    let i = c.loop-at.invariant in
    let reads = still_reads g.D.Disk i.still (c.shows_what_crashes_leave.ensures.quiet c.requires.usable honest)
    honest in
    let next = one_there (i.counted honest pages held good ends) c.loop-at-test.true in
    absurd ((rw c.in_default.is at c.in_ok-page.ensures.found) (i.still.left.disk.device.still honest) next.0
    (subst (λ r. HasPage r c.loop-at.at c.args.end next.0) (sym reads) next.1))

pub returns-in_default-checked_add-clause-still : goal.returns-in_default-checked_add-clause-still
returns-in_default-checked_add-clause-still g c = still_both g.D.Disk c.loop-at.invariant.still c.front_at.ensures.still

pub returns-in_default-checked_add-clause-whole : goal.returns-in_default-checked_add-clause-whole
returns-in_default-checked_add-clause-whole g c = λ honest pages held good ends.
    let i = c.loop-at.invariant in
    let reads = still_reads g.D.Disk i.still (c.shows_what_crashes_leave.ensures.quiet c.requires.usable honest)
    honest in
    front_many (i.counted honest pages held good ends) c.loop-at-test.true c.in-Some.page.kind c.in-Some.page.next
    (λ p page. (rw c.in-Some.is at c.in_ok-page.ensures.found) (i.still.left.disk.device.still honest) p
    (subst (λ r. HasPage r c.loop-at.at c.args.end p) (sym reads) page))
    (omega (arith, c.count.ensures, rw c.in_default-checked_add.is at c.checked_add.ensures))

pub loop-at-preserved : goal.loop-at-preserved
loop-at-preserved g c =
    let i = c.loop-at.invariant in
    record {
      still = still_both g.D.Disk i.still c.front_at.ensures.still;
      calm = none_failed c.in_ok-page.ensures.faults ∙ i.calm;
      counted = λ honest pages held good ends.
          let reads = still_reads g.D.Disk i.still (c.shows_what_crashes_leave.ensures.quiet c.requires.usable honest)
          honest in
          front_counted (i.counted honest pages held good ends) c.loop-at-test.true c.in-Some.page.kind
          c.in-Some.page.next _
          (λ p page. (rw c.in-Some.is at c.in_ok-page.ensures.found) (i.still.left.disk.device.still honest) p
          (subst (λ r. HasPage r c.loop-at.at c.args.end p) (sym reads) page))
          (omega (arith, c.count.ensures, rw c.in-Some-checked_add.is at c.checked_add.ensures));
    }

pub returns-clause-whole : goal.returns-clause-whole
returns-clause-whole g c = λ honest pages held good ends.
    all_counted (c.loop-at.invariant.counted honest pages held good ends) (omega (arith, c.loop-at-test.false))
