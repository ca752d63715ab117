use Rattle.std.proofs.Common.{◌≡◌, ◌∙◌, arith, refl, subst, sym}
use Rattle.std.specs.Prelude.{Err}
use Rattle.std.proofs.lemmas.Result.{err_from_is_err_and, IfOk-weaker}
use Rattle.sector_disk.specs.Trail.{now}
use Rattle.past_pages.specs.Reading.{HasPage}
use Rattle.past_pages.proofs.Failing.{calm_answer, error_from, none_failed}
use Rattle.past_pages.proofs.StillReads.{still_both, still_none, still_reads}
use Rattle.desk_past.proofs.InMemory.{calm_from, doing_no_fault, steps_of_doing, steps_of_reads}
use Rattle.desk_past.proofs.Stepping.{all_stepped, next_ends, next_stepped, none_stepped, one_more}
use Rattle.desk_past.proofs.reading.step_pages.Goals as goal

pub loop-left-init : goal.loop-left-init
loop-left-init g c = record {
  still = still_none g.D.Disk c.args.store.now c.requires.usable;
  calm = refl;
  stepped = λ honest pages written good ends room free.
      none_stepped g.E.Disk c.args.count pages c.args.shown.now written good ends;
}

pub returns-in_default-clause-led : goal.returns-in_default-clause-led
returns-in_default-clause-led g c = λ honest pages written good ends room free.
    let i = c.loop-left.invariant in
    let next = one_more g.E.Disk (i.stepped honest pages written good ends room free) c.loop-left-test.true room in
    let same = still_reads g.D.Disk i.still (c.shows_what_crashes_leave.ensures.quiet c.requires.usable honest)
    honest in
    absurd ((rw c.in_default.is at c.in_ok-page.ensures.found) (i.still.left.disk.device.still honest) next.0
    (subst (λ r. HasPage r c.loop-left.at c.args.end next.0) (sym same) next.1))

pub returns-in_err-page-clause-still : goal.returns-in_err-page-clause-still
returns-in_err-page-clause-still g c = still_both g.D.Disk c.loop-left.invariant.still c.page_at.ensures.still

pub returns-in_err-do_first-clause-still : goal.returns-in_err-do_first-clause-still
returns-in_err-do_first-clause-still g c = still_both g.D.Disk c.loop-left.invariant.still c.page_at.ensures.still

pub returns-in_default-clause-still : goal.returns-in_default-clause-still
returns-in_default-clause-still g c = still_both g.D.Disk c.loop-left.invariant.still c.page_at.ensures.still

pub returns-then-left-count-clause-led : goal.returns-then-left-count-clause-led
returns-then-left-count-clause-led g c = IfOk-weaker c.do_first.result _ _
    (λ done led honest pages written good ends room free.
    let i = c.loop-left.invariant in
    let found = rw c.in-Some.is at c.in_ok-page.ensures.found in
    let same = still_reads g.D.Disk i.still (c.shows_what_crashes_leave.ensures.quiet c.requires.usable honest)
    honest in
    next_ends g.E.Disk (i.stepped honest pages written good ends room free) c.loop-left-test.true room
    c.in-Some.page.deeds
    c.in-Some.page.next c.count_of-count.result c.count_of-count.ensures
    (λ p page. found (i.still.left.disk.device.still honest) p
    (subst (λ r. HasPage r c.loop-left.at c.args.end p) (sym same) page))
    free led c.if-left-count.true) c.do_first.ensures.done

pub returns-then-left-count-clause-still : goal.returns-then-left-count-clause-still
returns-then-left-count-clause-still g c = still_both g.D.Disk c.loop-left.invariant.still c.page_at.ensures.still

pub returns-then-not-branch-clause-led : goal.returns-then-not-branch-clause-led
returns-then-not-branch-clause-led g c = λ honest pages written good ends room free.
    let i = c.loop-left.invariant in
    let found = rw c.in-Some.is at c.in_ok-page.ensures.found in
    let same = still_reads g.D.Disk i.still (c.shows_what_crashes_leave.ensures.quiet c.requires.usable honest)
    honest in
    let led = next_stepped g.E.Disk (i.stepped honest pages written good ends room free) c.loop-left-test.true room
    c.in-Some.page.deeds c.in-Some.page.next c.count_of-count.result c.count_of-count.ensures
    (λ p page. found (i.still.left.disk.device.still honest) p
    (subst (λ r. HasPage r c.loop-left.at c.args.end p) (sym same) page))
    free c.in_ok-do_first.ensures.done (omega (arith, c.if-left-count.false)) in
    absurd (let wrong : ⊥ = cc (led.0, c.if-not-branch.true) in wrong)

pub returns-then-not-branch-clause-still : goal.returns-then-not-branch-clause-still
returns-then-not-branch-clause-still g c = still_both g.D.Disk c.loop-left.invariant.still c.page_at.ensures.still

pub loop-left-preserved : goal.loop-left-preserved
loop-left-preserved g c =
    let i = c.loop-left.invariant in
    let found = rw c.in-Some.is at c.in_ok-page.ensures.found in
    record {
      still = still_both g.D.Disk i.still c.page_at.ensures.still;
      calm = none_failed c.in_ok-page.ensures.faults ∙ i.calm;
      stepped = λ honest pages written good ends room free.
          let same = still_reads g.D.Disk i.still (c.shows_what_crashes_leave.ensures.quiet c.requires.usable
          honest) honest in
          (next_stepped g.E.Disk (i.stepped honest pages written good ends room free) c.loop-left-test.true room
          c.in-Some.page.deeds c.in-Some.page.next c.count_of-count.result c.count_of-count.ensures
          (λ p page. found (i.still.left.disk.device.still honest) p
          (subst (λ r. HasPage r c.loop-left.at c.args.end p) (sym same) page))
          free c.in_ok-do_first.ensures.done (omega (arith, c.if-left-count.false))).1;
    }

pub loop-left-preserved-else-not-branch : goal.loop-left-preserved-else-not-branch
loop-left-preserved-else-not-branch g c =
    let i = c.loop-left.invariant in
    let found = rw c.in-Some.is at c.in_ok-page.ensures.found in
    record {
      still = still_both g.D.Disk i.still c.page_at.ensures.still;
      calm = none_failed c.in_ok-page.ensures.faults ∙ i.calm;
      stepped = λ honest pages written good ends room free.
          let same = still_reads g.D.Disk i.still (c.shows_what_crashes_leave.ensures.quiet c.requires.usable
          honest) honest in
          (next_stepped g.E.Disk (i.stepped honest pages written good ends room free) c.loop-left-test.true room
          c.in-Some.page.deeds c.in-Some.page.next c.count_of-count.result c.count_of-count.ensures
          (λ p page. found (i.still.left.disk.device.still honest) p
          (subst (λ r. HasPage r c.loop-left.at c.args.end p) (sym same) page))
          free c.in_ok-do_first.ensures.done (omega (arith, c.if-left-count.false))).1;
    }

pub loop-left-preserved-else-not-branch-2 : goal.loop-left-preserved-else-not-branch-2
loop-left-preserved-else-not-branch-2 g c =
    let i = c.loop-left.invariant in
    let found = rw c.in-Some.is at c.in_ok-page.ensures.found in
    record {
      still = still_both g.D.Disk i.still c.page_at.ensures.still;
      calm = none_failed c.in_ok-page.ensures.faults ∙ i.calm;
      stepped = λ honest pages written good ends room free.
          let same = still_reads g.D.Disk i.still (c.shows_what_crashes_leave.ensures.quiet c.requires.usable
          honest) honest in
          (next_stepped g.E.Disk (i.stepped honest pages written good ends room free) c.loop-left-test.true room
          c.in-Some.page.deeds c.in-Some.page.next c.count_of-count.result c.count_of-count.ensures
          (λ p page. found (i.still.left.disk.device.still honest) p
          (subst (λ r. HasPage r c.loop-left.at c.args.end p) (sym same) page))
          free c.in_ok-do_first.ensures.done (omega (arith, c.if-left-count.false))).1;
    }

pub returns-clause-led : goal.returns-clause-led
returns-clause-led g c = λ honest pages written good ends room free. (
  refl,
  all_stepped g.E.Disk (c.loop-left.invariant.stepped honest pages written good ends room free)
      (omega (arith, c.loop-left-test.false)),
)

pub returns-in_err-page-clause-faults : goal.returns-in_err-page-clause-faults
returns-in_err-page-clause-faults g c =
    let p = err_from_is_err_and c.from_residual.result c.from_residual.ensures.1 in
    let failed : c.page_at.result ≡ Err p.0 = cc (p.1, p.2, c.in_err-page.was) in
    error_from c.page_at.ensures.faults steps_of_reads c.loop-left.invariant.calm failed p.1

pub returns-in_err-do_first-clause-faults : goal.returns-in_err-do_first-clause-faults
returns-in_err-do_first-clause-faults g c =
    let p = err_from_is_err_and c.from_residual-in_err-do_first.result c.from_residual-in_err-do_first.ensures.1 in
    let failed : c.do_first-in-loop-left.result ≡ Err p.0 = cc (p.1, p.2, c.in_err-do_first.was) in
    calm_from c.do_first-in-loop-left.ensures.errors steps_of_doing doing_no_fault
    (none_failed c.in_ok-page.ensures.faults ∙ c.loop-left.invariant.calm) failed p.1

pub returns-then-left-count-clause-faults : goal.returns-then-left-count-clause-faults
returns-then-left-count-clause-faults g c =
    calm_answer c.do_first.result c.do_first.ensures.errors steps_of_doing doing_no_fault
    (none_failed c.in_ok-page.ensures.faults ∙ c.loop-left.invariant.calm)
