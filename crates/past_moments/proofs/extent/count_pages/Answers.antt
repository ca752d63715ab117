use Rattle.std.proofs.Common.{◌∙◌, arith, subst, sym}
use Rattle.past_pages.specs.Reading.{HasPage}
use Rattle.past_pages.proofs.StillReads.{still_looked, still_none, still_reads}
use Rattle.desk_past.proofs.Fronts.{all_counted, front_counted, none_counted}
use Rattle.past_moments.proofs.extent.count_pages.Goals as goal

pub loop-here-init : goal.loop-here-init
loop-here-init g c = record {
  still = still_none g.D.Disk c.args.store.now c.requires;
  counted = λ honest pages held good ends room. none_counted pages c.args.first held good ends;
}

pub returns-in_err-page-clause-still : goal.returns-in_err-page-clause-still
returns-in_err-page-clause-still g c =
    still_looked g.D.Disk c.front_in.result c.loop-here.invariant.still c.front_in.ensures.looks

pub returns-in_default-clause-still : goal.returns-in_default-clause-still
returns-in_default-clause-still g c =
    still_looked g.D.Disk c.front_in.result c.loop-here.invariant.still c.front_in.ensures.looks

pub returns-clause-whole : goal.returns-clause-whole
returns-clause-whole g c = λ honest pages held good ends room.
    all_counted (c.loop-here.invariant.counted honest pages held good ends room) (omega (arith, c.loop-here-test.false))

pub returns-in_default-behind_front-clause-still : goal.returns-in_default-behind_front-clause-still
returns-in_default-behind_front-clause-still g c =
    still_looked g.D.Disk c.front_in.result c.loop-here.invariant.still c.front_in.ensures.looks

pub loop-here-preserved : goal.loop-here-preserved
loop-here-preserved g c =
    let i = c.loop-here.invariant in
    let behind = rw c.in-Some-behind_front.is at c.behind_front.ensures in
    record {
      still = still_looked g.D.Disk c.front_in.result i.still c.front_in.ensures.looks;
      counted = λ honest pages held good ends room.
          let reads = still_reads g.D.Disk i.still (c.shows_what_crashes_leave.ensures.quiet c.requires honest) honest in
          front_counted (i.counted honest pages held good ends room) c.loop-here-test.true c.in-Some.page.kind
          c.in-Some-behind_front.next.at c.in-Some-behind_front.next.k
          (λ p page. let is = (rw c.in-Some.is at c.in_ok-page.ensures.found) (i.still.left.disk.device.still honest) p
          (subst (λ r. HasPage r c.loop-here.here.at c.args.end p) (sym reads) page)
          (omega (arith, room, i.still.left.disk.device.as_large)) in (is.0, behind.0 ∙ is.1)) behind.1;
    }
