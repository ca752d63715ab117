use Rattle.std.proofs.Common.{◌≡◌, inl, ◌+◌, ◌∙◌, arith, subst}
use Rattle.std.proofs.lemmas.Result.{on_ok_weaker}
use Rattle.sector_disk.specs.Trail.{now}
use Rattle.store_layout.specs.declared.layout.TheConstants.{IMAGES}
use Rattle.past_pages.specs.Laying.{HasLaid}
use Rattle.past_pages.proofs.Laid.{laid_in, slot_laid_in, store_laid}
use Rattle.past_pages.proofs.StillReads.{resized, still_both, still_none, still_reads}
use Rattle.past_pages.proofs.laying.lay.Goals as goal

pub returns-in_err-lay_slot-clause-still : goal.returns-in_err-lay_slot-clause-still
returns-in_err-lay_slot-clause-still g c = still_both g.D.Disk c.lay_some.ensures.still c.lay_slot.ensures.still

pub returns-clause-still : goal.returns-clause-still
returns-clause-still g c =
    still_both g.D.Disk (still_both g.D.Disk c.lay_some.ensures.still c.lay_slot.ensures.still)
    c.lay_slot-2.ensures.still

pub returns-clause-stands : goal.returns-clause-stands
returns-clause-stands g c = on_ok_weaker c.lay_slot-2.result (λ laid honest other t at.
    let d = g.D.Disk in
    let quiet = c.shows_what_crashes_leave.ensures.quiet c.requires.usable honest in
    let one = c.lay_some.ensures.still in
    let two = still_both d one c.lay_slot.ensures.still in
    let reads = (now (d.trail c.args.store.now.disk)).reads in
    let held = c.lay_some.ensures.device in
    let held_on = c.lay_slot.ensures.device in
    let front = c.in_ok-lay_some.ensures.laid honest other (λ n low. inl (c.requires.blank.zeros n)) in
    let first = slot_laid_in (still_reads d one quiet honest)
    (c.in_ok-lay_slot.ensures.laid (one.left.disk.device.still honest) (held.still other)) front.stays.laying in
    let second = slot_laid_in (still_reads d two quiet honest)
    (laid (two.left.disk.device.still honest) (held_on.still (held.still other))) first.stays.laying in
    let before = (now (g.E.Disk.trail c.args.disk.now)).reads in
    resized _ _ t (omega (
      arith,
      c.requires.blank.room,
      held.as_large,
      held_on.as_large,
      c.lay_slot-2.ensures.device.as_large,
    ))
    (store_laid reads c.args.base
    (subst (λ n. HasLaid reads c.args.base 0 n before (now (g.E.Disk.trail c.lay_some.new.disk)).reads)
    c.image_at.ensures front) first second t at)) c.lay_slot-2.ensures.laid
