use Rattle.std.proofs.Common.{◌≡◌, ◌+◌, ◌∙◌, ap, arith, refl, subst}
use Rattle.std.proofs.lemmas.Result.{on_ok_weaker}
use Rattle.sector_disk.specs.Trail.{now}
use Rattle.store_layout.specs.Layout.{head, head_of}
use Rattle.past_pages.specs.Laying.{HasLaidHead}
use Rattle.past_pages.proofs.Laid.{head_laid, laid_in, stays_both, stays_none}
use Rattle.past_pages.proofs.StillReads.{still_both, still_looked, still_none, still_reads}
use Rattle.past_pages.proofs.laying.lay_slot.Goals as goal

pub returns-in_err-lay_some-clause-still : goal.returns-in_err-lay_some-clause-still
returns-in_err-lay_some-clause-still g c =
    still_both g.D.Disk
    (still_looked g.D.Disk c.sector_at.result (still_none g.D.Disk c.args.store.now c.requires.usable)
    c.sector_at.ensures.looks)
    c.lay_some.ensures.still

pub returns-clause-still : goal.returns-clause-still
returns-clause-still g c =
    still_both g.D.Disk
    (still_both g.D.Disk
    (still_looked g.D.Disk c.sector_at.result (still_none g.D.Disk c.args.store.now c.requires.usable)
    c.sector_at.ensures.looks)
    c.lay_some.ensures.still) c.lay_some-2.ensures.still

pub returns-clause-laid : goal.returns-clause-laid
returns-clause-laid g c = on_ok_weaker c.lay_some-2.result (λ laid honest other laying.
    let d = g.D.Disk in
    let quiet = c.shows_what_crashes_leave.ensures.quiet c.requires.usable honest in
    let looked = still_looked d c.sector_at.result (still_none d c.args.store.now c.requires.usable)
    c.sector_at.ensures.looks in
    let both = still_both d looked c.lay_some.ensures.still in
    let reads = (now (d.trail c.args.store.now.disk)).reads in
    let new = (now (g.E.Disk.trail c.lay_some-2.new.disk)).reads in
    let is : c.of-head.result ≡ head (λ n. reads (c.args.base + n)) c.args.slot = c.of-head.ensures
    ∙ ap head_of (c.in_ok-sector.ensures.bytes honest ∙ ap (λ n. reads (c.args.base + n)) c.slot_head.ensures) in
    let first = laid_in (still_reads d looked quiet honest)
    (c.in_ok-lay_some.ensures.laid (looked.left.disk.device.still honest) other) laying in
    let second = laid_in (still_reads d both quiet honest)
    (laid (both.left.disk.device.still honest) (c.lay_some.ensures.device.still other)) first.stays.laying in
    record {
      stays = stays_both reads c.args.base first.stays second.stays;
      named = λ good. subst (λ h. HasLaidHead reads c.args.base c.args.slot h new) is
          (head_laid reads c.args.base c.args.slot c.of-head.result c.requires.slot
          (c.is_good.ensures.0 c.if-not-is_good.false) first c.image_at.ensures (omega arith) second
          c.area_start.ensures refl);
    }) c.lay_some-2.ensures.laid
