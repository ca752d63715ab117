use Rattle.std.proofs.Common.{◌≡◌, ◌<◌, ◌∙◌, arith, refl, subst, sym}
use Rattle.std.specs.Prelude.{Err}
use Rattle.std.proofs.lemmas.Bool.{false≢true}
use Rattle.std.proofs.lemmas.Result.{err_from_is_err_and}
use Rattle.past_pages.proofs.Failing.{error_from, none_failed}
use Rattle.past_pages.proofs.StillReads.{still_both, still_none, still_reads}
use Rattle.desk_past.specs.Past.{HasPages, all_deeds}
use Rattle.desk_past.specs.Routes.{IsReached}
use Rattle.desk_past.proofs.Legs.{fewer_left, left_of, no_way, still_within, way_on, whole_way}
use Rattle.desk_past.proofs.routes.way_to.Goals as goal

pub loop-from-init : goal.loop-from-init
loop-from-init g c = record {
  still = still_none g.D.Disk c.args.store.now c.requires.usable;
  calm = refl;
  within = (c.requires.later, omega arith);
  way = λ honest start pages same held good turns ends room.
      no_way start (all_deeds pages) c.args.k c.new-legs.ensures.items;
}

pub returns-in_default-2-clause-ways : goal.returns-in_default-2-clause-ways
returns-in_default-2-clause-ways g c = λ honest start pages same held good turns ends room.
    let i = c.loop-from.invariant in
    let within = rw c.in-AtMoment.is at i.within in
    let reads = still_reads g.D.Disk i.still (c.shows_what_crashes_leave.ensures.quiet c.requires.usable honest)
    honest in
    absurd ((rw c.in_default-2.is at c.in_ok-reach.ensures.reached) (i.still.left.disk.device.still honest) start pages
    same (subst (λ r. HasPages r c.args.first pages) (sym reads) held) good turns ends (omega (arith, within.1, room)))

pub returns-in_default-2-clause-still : goal.returns-in_default-2-clause-still
returns-in_default-2-clause-still g c = still_both g.D.Disk c.loop-from.invariant.still c.reach_of.ensures.still

pub returns-in_err-reach-clause-still : goal.returns-in_err-reach-clause-still
returns-in_err-reach-clause-still g c = still_both g.D.Disk c.loop-from.invariant.still c.reach_of.ensures.still

pub returns-in_err-add-clause-still : goal.returns-in_err-add-clause-still
returns-in_err-add-clause-still g c = still_both g.D.Disk c.loop-from.invariant.still c.reach_of.ensures.still

pub returns-then-not-leads_back-clause-still : goal.returns-then-not-leads_back-clause-still
returns-then-not-leads_back-clause-still g c = still_both g.D.Disk c.loop-from.invariant.still c.reach_of.ensures.still

pub returns-then-not-leads_back-clause-ways : goal.returns-then-not-leads_back-clause-ways
returns-then-not-leads_back-clause-ways g c = λ honest start pages same held good turns ends room.
    let i = c.loop-from.invariant in
    let within = rw c.in-AtMoment.is at i.within in
    let reads = still_reads g.D.Disk i.still (c.shows_what_crashes_leave.ensures.quiet c.requires.usable honest)
    honest in
    let fact = (rw c.in-Some.is at c.in_ok-reach.ensures.reached) (i.still.left.disk.device.still honest) start pages
    same (subst (λ r. HasPages r c.args.first pages) (sym reads) held) good turns ends
    (omega (arith, within.1, room)) in
    absurd (false≢true (sym c.if-not-leads_back.true ∙ c.leads_back.ensures.1 fact.1))

pub loop-from-preserved : goal.loop-from-preserved
loop-from-preserved g c =
    let i = c.loop-from.invariant in
    let within = rw c.in-AtMoment.is at i.within in
    record {
      still = still_both g.D.Disk i.still c.reach_of.ensures.still;
      calm = none_failed c.in_ok-reach.ensures.faults ∙ i.calm;
      within = still_within c.in-Some.reach.from c.args.before within.1
          (c.leads_back.ensures.0 c.if-not-leads_back.false);
      way = λ honest start pages same held good turns ends room.
          let reads = still_reads g.D.Disk i.still (c.shows_what_crashes_leave.ensures.quiet c.requires.usable honest)
          honest in
          let fact = (rw c.in-Some.is at c.in_ok-reach.ensures.reached) (i.still.left.disk.device.still honest) start
          pages same (subst (λ r. HasPages r c.args.first pages) (sym reads) held) good turns ends
          (omega (arith, within.1, room)) in
          way_on (rw c.in-AtMoment.is at (i.way honest start pages same held good turns ends room))
          (subst (λ r. IsReached r c.args.end start (all_deeds pages) c.in-AtMoment.to c.in-Some.reach.leg
          c.in-Some.reach.from) reads fact.0) c.in_ok-add.ensures;
    }

pub returns-clause-ways : goal.returns-clause-ways
returns-clause-ways g c = λ honest start pages same held good turns ends room.
    let i = c.loop-from.invariant in
    whole_way c.loop-from.from c.in_default.not-AtMoment (i.way honest start pages same held good turns ends room)

pub returns-in_err-reach-clause-faults : goal.returns-in_err-reach-clause-faults
returns-in_err-reach-clause-faults g c =
    let p = err_from_is_err_and c.from_residual.result c.from_residual.ensures.1 in
    let failed : c.reach_of.result ≡ Err p.0 = cc (p.1, p.2, c.in_err-reach.was) in
    error_from c.reach_of.ensures.faults (λ e named. named) c.loop-from.invariant.calm failed p.1

pub loop-from-smaller : goal.loop-from-smaller
loop-from-smaller g c = subst (λ n. left_of c.in-Some.reach.from < left_of n) (sym c.in-AtMoment.is)
    (fewer_left c.in-Some.reach.from c.in-AtMoment.to c.args.before (c.leads_back.ensures.0 c.if-not-leads_back.false))
