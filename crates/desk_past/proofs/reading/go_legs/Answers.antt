use Rattle.std.proofs.Common.{◌≡◌, ◌∙◌, arith, refl, subst, sym}
use Rattle.std.specs.Prelude.{Err}
use Rattle.std.proofs.lemmas.Result.{err_from_is_err_and}
use Rattle.sector_disk.specs.Trail.{now}
use Rattle.past_pages.proofs.Failing.{error_from, none_failed}
use Rattle.past_pages.proofs.StillReads.{still_both, still_none, still_reads}
use Rattle.desk_past.specs.Past.{HasPages}
use Rattle.desk_past.proofs.Legs.{all_gone, leg_gone, none_gone}
use Rattle.desk_past.proofs.reading.go_legs.Goals as goal

pub loop-leg-init : goal.loop-leg-init
loop-leg-init g c = record {
  still = still_none g.D.Disk c.args.store.now c.requires.usable;
  calm = refl;
  gone = λ honest deeds are. none_gone g.E.Disk deeds c.args.shown.now are;
}

pub returns-in_err-step_pages-clause-still : goal.returns-in_err-step_pages-clause-still
returns-in_err-step_pages-clause-still g c = still_both g.D.Disk c.loop-leg.invariant.still c.step_pages.ensures.still

pub returns-then-not-branch-clause-still : goal.returns-then-not-branch-clause-still
returns-then-not-branch-clause-still g c =
    still_both g.D.Disk c.loop-leg.invariant.still c.step_pages.ensures.still

pub returns-then-not-branch-clause-led : goal.returns-then-not-branch-clause-led
returns-then-not-branch-clause-led g c = λ honest deeds are.
    let i = c.loop-leg.invariant in
    let same = still_reads g.D.Disk i.still (c.shows_what_crashes_leave.ensures.quiet c.requires.usable honest)
    honest in
    let led = leg_gone g.E.Disk (i.gone honest deeds are) c.in-Some.leg c.pop.new.self.items
    (rw c.in-Some.is at c.pop.ensures.items)
    (λ pages held. c.in_ok-step_pages.ensures.led (i.still.left.disk.device.still honest) pages
    (subst (λ r. HasPages r c.in-Some.leg.at pages) (sym same) held)) in
    absurd (let wrong : ⊥ = cc (led.0, c.if-not-branch.true) in wrong)

pub loop-leg-preserved : goal.loop-leg-preserved
loop-leg-preserved g c =
    let i = c.loop-leg.invariant in
    record {
      still = still_both g.D.Disk i.still c.step_pages.ensures.still;
      calm = none_failed c.in_ok-step_pages.ensures.faults ∙ i.calm;
      gone = λ honest deeds are.
          let same = still_reads g.D.Disk i.still (c.shows_what_crashes_leave.ensures.quiet c.requires.usable honest)
          honest in
          (leg_gone g.E.Disk (i.gone honest deeds are) c.in-Some.leg c.pop.new.self.items
          (rw c.in-Some.is at c.pop.ensures.items)
          (λ pages held. c.in_ok-step_pages.ensures.led (i.still.left.disk.device.still honest) pages
          (subst (λ r. HasPages r c.in-Some.leg.at pages) (sym same) held))).1;
    }

pub returns-clause-led : goal.returns-clause-led
returns-clause-led g c = λ honest deeds are. (
  refl,
  all_gone g.E.Disk (c.loop-leg.invariant.gone honest deeds are)
      (sym c.loop-leg.legs.ok.0 ∙ (rw c.in_default.is at c.pop.ensures.cases).0),
)

pub returns-in_err-step_pages-clause-faults : goal.returns-in_err-step_pages-clause-faults
returns-in_err-step_pages-clause-faults g c =
    let p = err_from_is_err_and c.from_residual.result c.from_residual.ensures.1 in
    let failed : c.step_pages.result ≡ Err p.0 = cc (p.1, p.2, c.in_err-step_pages.was) in
    error_from c.step_pages.ensures.faults (λ e named. named) c.loop-leg.invariant.calm failed p.1
