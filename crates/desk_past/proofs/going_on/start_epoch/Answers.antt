use Rattle.std.proofs.Common.{◌≡◌, ◌∙◌, ap, sym}
use Rattle.std.specs.Prelude.{max}
use Rattle.std.proofs.lemmas.Bool.{cond-false, cond-true}
use Rattle.sector_disk.specs.Trail.{now}
use Rattle.past_pages.proofs.StillReads.{still_both, still_looked, still_none, still_reads}
use Rattle.desk_past.specs.Going.{slot_epoch}
use Rattle.desk_past.proofs.Found.{start_there}
use Rattle.desk_past.proofs.going_on.start_epoch.Goals as goal

pub returns-in_err-first-clause-still : goal.returns-in_err-first-clause-still
returns-in_err-first-clause-still g c = still_both g.D.Disk
    (still_looked g.D.Disk c.sector_at.result (still_none g.D.Disk c.args.store.now c.requires.usable)
    c.sector_at.ensures.looks)
    c.slot_epoch.ensures.still

pub returns-in_err-second-clause-still : goal.returns-in_err-second-clause-still
returns-in_err-second-clause-still g c = still_both g.D.Disk
    (still_both g.D.Disk
    (still_looked g.D.Disk c.sector_at.result (still_none g.D.Disk c.args.store.now c.requires.usable)
    c.sector_at.ensures.looks)
    c.slot_epoch.ensures.still) c.slot_epoch-2.ensures.still

pub returns-then-has_label-clause-still : goal.returns-then-has_label-clause-still
returns-then-has_label-clause-still g c = still_both g.D.Disk
    (still_both g.D.Disk
    (still_looked g.D.Disk c.sector_at.result (still_none g.D.Disk c.args.store.now c.requires.usable)
    c.sector_at.ensures.looks)
    c.slot_epoch.ensures.still) c.slot_epoch-2.ensures.still

pub returns-else-has_label-clause-still : goal.returns-else-has_label-clause-still
returns-else-has_label-clause-still g c = still_both g.D.Disk
    (still_both g.D.Disk
    (still_looked g.D.Disk c.sector_at.result (still_none g.D.Disk c.args.store.now c.requires.usable)
    c.sector_at.ensures.looks)
    c.slot_epoch.ensures.still) c.slot_epoch-2.ensures.still

pub returns-then-has_label-clause-epoch : goal.returns-then-has_label-clause-epoch
returns-then-has_label-clause-epoch g c = λ honest.
    let d = g.D.Disk in
    let quiet = c.shows_what_crashes_leave.ensures.quiet c.requires.usable honest in
    let first = still_looked d c.sector_at.result (still_none d c.args.store.now c.requires.usable)
    c.sector_at.ensures.looks in
    let second = still_both d first c.slot_epoch.ensures.still in
    let reads = (now (d.trail c.args.store.now.disk)).reads in
    start_there reads c.args.base _ c.in_ok-first.first c.in_ok-second.second c.in_ok-label.label c.has_label.result
    (c.in_ok-label.ensures.bytes honest)
    (c.in_ok-first.ensures.epoch (first.left.disk.device.still honest)
    ∙ ap (λ r. slot_epoch r c.args.base 0) (still_reads d first quiet honest))
    (c.in_ok-second.ensures.epoch (second.left.disk.device.still honest)
    ∙ ap (λ r. slot_epoch r c.args.base 1) (still_reads d second quiet honest))
    c.has_label.ensures
    (c.max.ensures ∙ sym (cond-true c.has_label.result _ _ c.if-has_label.true))

pub returns-else-has_label-clause-epoch : goal.returns-else-has_label-clause-epoch
returns-else-has_label-clause-epoch g c = λ honest.
    let d = g.D.Disk in
    let quiet = c.shows_what_crashes_leave.ensures.quiet c.requires.usable honest in
    let first = still_looked d c.sector_at.result (still_none d c.args.store.now c.requires.usable)
    c.sector_at.ensures.looks in
    let second = still_both d first c.slot_epoch.ensures.still in
    let reads = (now (d.trail c.args.store.now.disk)).reads in
    start_there reads c.args.base _ c.in_ok-first.first c.in_ok-second.second c.in_ok-label.label c.has_label.result
    (c.in_ok-label.ensures.bytes honest)
    (c.in_ok-first.ensures.epoch (first.left.disk.device.still honest)
    ∙ ap (λ r. slot_epoch r c.args.base 0) (still_reads d first quiet honest))
    (c.in_ok-second.ensures.epoch (second.left.disk.device.still honest)
    ∙ ap (λ r. slot_epoch r c.args.base 1) (still_reads d second quiet honest))
    c.has_label.ensures
    (sym (cond-false c.has_label.result _ _ c.if-has_label.false))
