use Rattle.std.proofs.Common.{◌≡◌, ◌∙◌, arith, refl, subst, sym}
use Rattle.std.specs.Prelude.{Err}
use Rattle.std.proofs.lemmas.Result.{err_from_is_err_and}
use Rattle.sector_disk.specs.Trail.{now}
use Rattle.past_pages.specs.Reading.{HasPage}
use Rattle.past_pages.proofs.Failing.{none_failed}
use Rattle.past_pages.proofs.StillReads.{still_both, still_none, still_reads}
use Rattle.told_pasts.proofs.Reached.{its_end, its_pages, its_room}
use Rattle.told_pasts.proofs.Replayed.{all_told, at_page, no_page_told, page_left, page_there, page_told, past_leads}
use Rattle.told_pasts.proofs.Stops.{looks_stop, stops_later, stops_missing, stops_none}
use Rattle.told_pasts.proofs.replay.add_pages.Goals as goal

pub loop-at-init : goal.loop-at-init
loop-at-init g c = record {
  still = still_none g.D.Disk c.args.store.now c.requires;
  calm = refl;
  told = λ h shows. no_page_told (now (g.D.Disk.trail c.args.store.now.disk)).reads c.args.reach.next
      h.past.keeps.remembers.pages c.args.first c.args.lines.now.items (its_pages g.D.Disk h)
      h.past.keeps.remembers.past.good (past_leads h.past.keeps.remembers) (its_end g.D.Disk h) shows;
}

pub loop-at-preserved : goal.loop-at-preserved
loop-at-preserved g c =
    let d = g.D.Disk in
    let i = c.loop-at.invariant in
    let quiet = c.shows_what_crashes_leave.ensures.quiet in
    let there = still_both d i.still c.in_ok-page.ensures.still in
    record {
      still = still_both d there c.in_ok-next.ensures.still;
      calm = none_failed c.in_ok-next.ensures.stops.faults ∙ none_failed c.in_ok-page.ensures.looks.faults ∙ i.calm;
      told = λ h shows.
          let was = i.told h shows in
          let left = page_left was c.loop-at-test.true in
          let same = still_reads d i.still (quiet h.past.keeps.usable h.past.honest) h.past.honest in
          let read = (rw c.in-Some.is at c.in_ok-page.ensures.found) (i.still.left.disk.device.still h.past.honest)
          left.0
          (subst (λ r. HasPage r c.loop-at.at c.args.reach.next left.0) (sym same)
          (page_there was left.0 left.1 left.2))
          (let room = its_room d h in omega (arith, room, i.still.left.disk.device.as_large)) in
          page_told was left.0 left.1 left.2
          (c.in_ok-next.ensures.told (at_page d there quiet h was c.in-Some.page.deeds left.0 left.1 left.2 read.0))
          (c.in_ok-next.ensures.next ∙ read.1);
    }

pub returns-in_err-page-clause-stops : goal.returns-in_err-page-clause-stops
returns-in_err-page-clause-stops g c =
    let p = err_from_is_err_and c.from_residual.result c.from_residual.ensures.1 in
    let failed : c.page_in.result ≡ Err p.0 = cc (p.2, c.in_err-page.was) in
    let i = c.loop-at.invariant in
    stops_later g.D.Disk i.still.usable i.calm (looks_stop g.D.Disk c.page_in.result c.page_in.ensures.looks)
    (λ known. i.still.usable) failed p.1

pub returns-in_default-clause-stops : goal.returns-in_default-clause-stops
returns-in_default-clause-stops g c =
    let d = g.D.Disk in
    let i = c.loop-at.invariant in
    stops_missing d (none_failed c.in_ok-page.ensures.looks.faults ∙ i.calm) (λ known.
    let h = known.0 in
    let was = i.told h known.1 in
    let left = page_left was c.loop-at-test.true in
    let same = still_reads d i.still (c.shows_what_crashes_leave.ensures.quiet h.past.keeps.usable h.past.honest)
    h.past.honest in
    (rw c.in_default.is at c.in_ok-page.ensures.found) (i.still.left.disk.device.still h.past.honest) left.0
    (subst (λ r. HasPage r c.loop-at.at c.args.reach.next left.0) (sym same) (page_there was left.0 left.1 left.2))
    (let room = its_room d h in omega (arith, room, i.still.left.disk.device.as_large)))

pub returns-in_err-next-clause-stops : goal.returns-in_err-next-clause-stops
returns-in_err-next-clause-stops g c =
    let p = err_from_is_err_and c.from_residual-in_err-next.result c.from_residual-in_err-next.ensures.1 in
    let failed : c.add_page.result ≡ Err p.0 = cc (p.2, c.in_err-next.was) in
    let d = g.D.Disk in
    let i = c.loop-at.invariant in
    stops_later d c.in_ok-page.ensures.still.usable (none_failed c.in_ok-page.ensures.looks.faults ∙ i.calm)
    c.add_page.ensures.stops (λ known.
    let h = known.0 in
    let quiet = c.shows_what_crashes_leave.ensures.quiet in
    let was = i.told h known.1 in
    let left = page_left was c.loop-at-test.true in
    let same = still_reads d i.still (quiet h.past.keeps.usable h.past.honest) h.past.honest in
    let read = (rw c.in-Some.is at c.in_ok-page.ensures.found) (i.still.left.disk.device.still h.past.honest) left.0
    (subst (λ r. HasPage r c.loop-at.at c.args.reach.next left.0) (sym same) (page_there was left.0 left.1 left.2))
    (let room = its_room d h in omega (arith, room, i.still.left.disk.device.as_large)) in
    at_page d (still_both d i.still c.in_ok-page.ensures.still) quiet h was c.in-Some.page.deeds left.0 left.1 left.2
    read.0) failed p.1

pub returns-clause-told : goal.returns-clause-told
returns-clause-told g c = λ h shows. all_told (c.loop-at.invariant.told h shows) (omega (arith, c.loop-at-test.false))

pub returns-clause-still : goal.returns-clause-still
returns-clause-still g c = c.loop-at.invariant.still

pub returns-clause-stops : goal.returns-clause-stops
returns-clause-stops g c = stops_none g.D.Disk c.loop-at.invariant.calm
