use Rattle.std.proofs.Common.{◌≡◌, ◌<◌, ◌≤◌, ◌∙◌, arith, refl, subst, sym}
use Rattle.std.specs.Prelude.{Err}
use Rattle.std.proofs.lemmas.Result.{err_from_is_err_and}
use Rattle.past_pages.specs.Reading.{HasPage}
use Rattle.past_pages.proofs.Failing.{error_from, none_failed}
use Rattle.past_pages.proofs.StillReads.{still_both, still_none, still_reads}
use Rattle.desk_past.specs.Routes.{LeadsBack}
use Rattle.desk_past.proofs.Legs.{none_passed, one_left, page_on, reached}
use Rattle.desk_past.proofs.routes.reach_of.Goals as goal

pub loop-left-init : goal.loop-left-init
loop-left-init g c = record {
  still = still_none g.D.Disk c.args.store.now c.requires.usable;
  calm = refl;
  reaching = λ honest start pages same held good turns ends room.
      none_passed pages c.args.k c.args.first _ held good turns ends refl (omega (arith, same, c.requires.later));
}

pub returns-in_default-clause-reached : goal.returns-in_default-clause-reached
returns-in_default-clause-reached g c = λ honest start pages same held good turns ends room.
    let i = c.loop-left.invariant in
    let reads = still_reads g.D.Disk i.still (c.shows_what_crashes_leave.ensures.quiet c.requires.usable honest)
    honest in
    let next = one_left (i.reaching honest start pages same held good turns ends room) c.loop-left-test.true
    (omega (arith, same, room)) in
    absurd ((rw c.in_default.is at c.in_ok-page.ensures.found) (i.still.left.disk.device.still honest) next.0
    (subst (λ r. HasPage r c.loop-left.at c.args.end next.0) (sym reads) next.1))

pub returns-in_default-clause-still : goal.returns-in_default-clause-still
returns-in_default-clause-still g c = still_both g.D.Disk c.loop-left.invariant.still c.front_at.ensures.still

pub loop-left-preserved : goal.loop-left-preserved
loop-left-preserved g c =
    let i = c.loop-left.invariant in
    let found = rw c.in-Some.is at c.in_ok-page.ensures.found in
    record {
      still = still_both g.D.Disk i.still c.front_at.ensures.still;
      calm = none_failed c.in_ok-page.ensures.faults ∙ i.calm;
      reaching = λ honest start pages same held good turns ends room.
          let reads = still_reads g.D.Disk i.still (c.shows_what_crashes_leave.ensures.quiet c.requires.usable honest)
          honest in
          page_on (i.reaching honest start pages same held good turns ends room) c.loop-left-test.true
          (omega (arith, same, room)) c.in-Some.page.kind c.in-Some.page.next c.count.result _ c.count.ensures
          (omega (arith, c.saturating_sub-left.ensures))
          (λ p page. found (i.still.left.disk.device.still honest) p
          (subst (λ r. HasPage r c.loop-left.at c.args.end p) (sym reads) page))
          c.reach_behind-reach.ensures;
    }

pub returns-clause-reached : goal.returns-clause-reached
returns-clause-reached g c = λ honest start pages same held good turns ends room.
    let i = c.loop-left.invariant.reaching honest start pages same held good turns ends room in (
      reached i (omega (arith, c.loop-left-test.false)),
      subst (λ n. LeadsBack n c.args.k c.loop-left.reach.from) same i.earlier,
    )

pub returns-in_err-page-clause-still : goal.returns-in_err-page-clause-still
returns-in_err-page-clause-still g c = still_both g.D.Disk c.loop-left.invariant.still c.front_at.ensures.still

pub returns-in_err-page-clause-faults : goal.returns-in_err-page-clause-faults
returns-in_err-page-clause-faults g c =
    let p = err_from_is_err_and c.from_residual.result c.from_residual.ensures.1 in
    let failed : c.front_at.result ≡ Err p.0 = cc (p.1, p.2, c.in_err-page.was) in
    error_from c.front_at.ensures.faults (λ e named. named) c.loop-left.invariant.calm failed p.1
