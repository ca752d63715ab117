use Rattle.std.proofs.Common.{◌≡◌, ◌+◌, ◌∙◌, ap, sym}
use Rattle.std.proofs.lemmas.Bool.{cond-false, cond-true}
use Rattle.sector_disk.specs.Trail.{now}
use Rattle.past_pages.proofs.StillReads.{still_looked, still_none, still_reads}
use Rattle.desk_past.proofs.Found.{slot_there}
use Rattle.desk_past.proofs.going_on.slot_epoch.Goals as goal

pub returns-in_err-head-clause-still : goal.returns-in_err-head-clause-still
returns-in_err-head-clause-still g c =
    still_looked g.D.Disk c.sector_at-2.result
    (still_looked g.D.Disk c.sector_at.result (still_none g.D.Disk c.args.store.now c.requires.usable)
    c.sector_at.ensures.looks)
    c.sector_at-2.ensures.looks

pub returns-then-is_open_gate-clause-still : goal.returns-then-is_open_gate-clause-still
returns-then-is_open_gate-clause-still g c =
    still_looked g.D.Disk c.sector_at-2.result
    (still_looked g.D.Disk c.sector_at.result (still_none g.D.Disk c.args.store.now c.requires.usable)
    c.sector_at.ensures.looks)
    c.sector_at-2.ensures.looks

pub returns-else-is_open_gate-clause-still : goal.returns-else-is_open_gate-clause-still
returns-else-is_open_gate-clause-still g c =
    still_looked g.D.Disk c.sector_at-2.result
    (still_looked g.D.Disk c.sector_at.result (still_none g.D.Disk c.args.store.now c.requires.usable)
    c.sector_at.ensures.looks)
    c.sector_at-2.ensures.looks

pub returns-then-is_open_gate-clause-epoch : goal.returns-then-is_open_gate-clause-epoch
returns-then-is_open_gate-clause-epoch g c = λ honest.
    let d = g.D.Disk in
    let first = still_looked d c.sector_at.result (still_none d c.args.store.now c.requires.usable)
    c.sector_at.ensures.looks in
    let same = still_reads d first (c.shows_what_crashes_leave.ensures.quiet c.requires.usable honest) honest in
    let reads = (now (d.trail c.args.store.now.disk)).reads in
    slot_there reads c.args.base c.args.slot _ c.in_ok-gate.gate c.in_ok-head.head c.is_open_gate.result
    (c.in_ok-gate.ensures.bytes honest ∙ ap (λ n. reads (c.args.base + n)) c.slot_gate.ensures)
    (c.in_ok-head.ensures.bytes (first.left.disk.device.still honest) ∙ ap (λ r. r (c.args.base + c.slot_head.result))
    same
    ∙ ap (λ n. reads (c.args.base + n)) c.slot_head.ensures)
    c.is_open_gate.ensures
    (ap (λ h. h.epoch) c.of.ensures ∙ sym (cond-true c.is_open_gate.result _ _ c.if-is_open_gate.true))

pub returns-else-is_open_gate-clause-epoch : goal.returns-else-is_open_gate-clause-epoch
returns-else-is_open_gate-clause-epoch g c = λ honest.
    let d = g.D.Disk in
    let first = still_looked d c.sector_at.result (still_none d c.args.store.now c.requires.usable)
    c.sector_at.ensures.looks in
    let same = still_reads d first (c.shows_what_crashes_leave.ensures.quiet c.requires.usable honest) honest in
    let reads = (now (d.trail c.args.store.now.disk)).reads in
    slot_there reads c.args.base c.args.slot _ c.in_ok-gate.gate c.in_ok-head.head c.is_open_gate.result
    (c.in_ok-gate.ensures.bytes honest ∙ ap (λ n. reads (c.args.base + n)) c.slot_gate.ensures)
    (c.in_ok-head.ensures.bytes (first.left.disk.device.still honest) ∙ ap (λ r. r (c.args.base + c.slot_head.result))
    same
    ∙ ap (λ n. reads (c.args.base + n)) c.slot_head.ensures)
    c.is_open_gate.ensures
    (sym (cond-false c.is_open_gate.result _ _ c.if-is_open_gate.false))
