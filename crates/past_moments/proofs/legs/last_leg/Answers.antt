use Rattle.std.proofs.Common.{subst, sym}
use Rattle.past_pages.specs.Reading.{IsKindOf}
use Rattle.past_pages.proofs.StillReads.{still_both}
use Rattle.past_moments.specs.Moments.{GoesFrom, IsPagePlace}
use Rattle.past_moments.specs.declared.legs.Leg.{Leg}
use Rattle.past_moments.proofs.Carried.{extent_on, page_back, place_on}
use Rattle.past_moments.proofs.Ways.{leg_goes, leg_place, place_behind}
use Rattle.past_moments.proofs.legs.last_leg.Goals as goal

pub returns-in_err-kind-clause-still : goal.returns-in_err-kind-clause-still
returns-in_err-kind-clause-still g c = still_both g.D.Disk c.loop-here.invariant.still c.front_at.ensures.still

pub returns-in_default-clause-still : goal.returns-in_default-clause-still
returns-in_default-clause-still g c = still_both g.D.Disk c.loop-here.invariant.still c.front_at.ensures.still

pub loop-here-preserved : goal.loop-here-preserved
loop-here-preserved g c =
    let d = g.D.Disk in
    let i = c.loop-here.invariant in
    let quiet = c.shows_what_crashes_leave.ensures.quiet c.requires in
    let page = rw c.in-Some.is at c.in_ok-kind.ensures.page in
    record {
      still = still_both d i.still c.front_at.ensures.still;
      here = λ reaches is. place_behind d c.loop-here.here c.in-Some.next (IsKindOf c.in-Some.kind)
          (page_back d i.still quiet c.loop-here.here (IsKindOf c.in-Some.kind) c.in-Some.next
          (page (extent_on d i.still c.requires quiet c.args.extent.now reaches)
          (place_on d i.still c.requires quiet c.loop-here.here (i.here reaches is))));
      leg = λ reaches is. subst (λ (l : Leg). IsPagePlace d l.place c.args.store.now) (sym c.leg_behind-leg.ensures)
          (leg_place d c.loop-here.leg c.loop-here.here c.in-Some.next c.in-Some.kind (i.leg reaches is)
          (page_back d i.still quiet c.loop-here.here (IsKindOf c.in-Some.kind) c.in-Some.next
          (page (extent_on d i.still c.requires quiet c.args.extent.now reaches)
          (place_on d i.still c.requires quiet c.loop-here.here (i.here reaches is)))));
      from = λ reaches is. subst (λ (l : Leg). GoesFrom d l.place l.from c.args.store.now) (sym c.leg_behind-leg.ensures)
          (leg_goes d c.loop-here.leg c.loop-here.here c.in-Some.next c.in-Some.kind (i.from reaches is)
          (page_back d i.still quiet c.loop-here.here (IsKindOf c.in-Some.kind) c.in-Some.next
          (page (extent_on d i.still c.requires quiet c.args.extent.now reaches)
          (place_on d i.still c.requires quiet c.loop-here.here (i.here reaches is)))));
    }
