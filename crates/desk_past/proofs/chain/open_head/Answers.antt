use Rattle.std.proofs.Common.{◌≡◌, ◌+◌, ◌∙◌, ap, sym}
use Rattle.std.specs.Prelude.{Bool, Some, None, if◌then◌else◌}
use Rattle.sector_disk.specs.Trail.{Content, now}
use Rattle.store_layout.specs.Layout.{head_of, is_open}
use Rattle.past_pages.proofs.StillReads.{still_looked, still_none, still_reads}
use Rattle.desk_past.specs.Chain.{open_head}
use Rattle.desk_past.proofs.Chaining.{head_open, head_shut}
use Rattle.desk_past.proofs.chain.open_head.Goals as goal

pub returns-in_err-head-clause-still : goal.returns-in_err-head-clause-still
returns-in_err-head-clause-still g c = let d = g.D.Disk in
    (still_looked d c.sector_at-2.result (still_looked d c.sector_at.result
    (still_none d c.args.store.now c.requires.usable) c.sector_at.ensures.looks) c.sector_at-2.ensures.looks)

pub returns-then-is_open_gate-clause-still : goal.returns-then-is_open_gate-clause-still
returns-then-is_open_gate-clause-still g c = let d = g.D.Disk in
    (still_looked d c.sector_at-2.result (still_looked d c.sector_at.result
    (still_none d c.args.store.now c.requires.usable) c.sector_at.ensures.looks) c.sector_at-2.ensures.looks)

pub returns-then-is_open_gate-clause-head : goal.returns-then-is_open_gate-clause-head
returns-then-is_open_gate-clause-head g c = λ honest.
    let d = g.D.Disk in
    let first = (still_looked d c.sector_at.result (still_none d c.args.store.now c.requires.usable)
    c.sector_at.ensures.looks) in
    let same = still_reads d first (c.shows_what_crashes_leave.ensures.quiet c.requires.usable honest) honest in
    let reads = (now (d.trail c.args.store.now.disk)).reads in
    head_open reads c.args.base c.args.slot c.in_ok-gate.gate c.in_ok-head.head
    (c.in_ok-gate.ensures.bytes honest ∙ ap (λ n. reads (c.args.base + n)) c.slot_gate.ensures)
    (c.in_ok-head.ensures.bytes (first.left.disk.device.still honest)
    ∙ ap (λ (r : Content). r (c.args.base + c.slot_head.result)) same
    ∙ ap (λ n. reads (c.args.base + n)) c.slot_head.ensures)
    (sym c.is_open_gate.ensures ∙ c.if-is_open_gate.true) c.of.ensures

pub returns-else-is_open_gate-clause-still : goal.returns-else-is_open_gate-clause-still
returns-else-is_open_gate-clause-still g c = let d = g.D.Disk in
    (still_looked d c.sector_at-2.result (still_looked d c.sector_at.result
    (still_none d c.args.store.now c.requires.usable) c.sector_at.ensures.looks) c.sector_at-2.ensures.looks)

pub returns-else-is_open_gate-clause-head : goal.returns-else-is_open_gate-clause-head
returns-else-is_open_gate-clause-head g c = λ honest.
    let d = g.D.Disk in
    let first = (still_looked d c.sector_at.result (still_none d c.args.store.now c.requires.usable)
    c.sector_at.ensures.looks) in
    let same = still_reads d first (c.shows_what_crashes_leave.ensures.quiet c.requires.usable honest) honest in
    let reads = (now (d.trail c.args.store.now.disk)).reads in
    head_shut reads c.args.base c.args.slot c.in_ok-gate.gate c.in_ok-head.head
    (c.in_ok-gate.ensures.bytes honest ∙ ap (λ n. reads (c.args.base + n)) c.slot_gate.ensures)
    (c.in_ok-head.ensures.bytes (first.left.disk.device.still honest)
    ∙ ap (λ (r : Content). r (c.args.base + c.slot_head.result)) same
    ∙ ap (λ n. reads (c.args.base + n)) c.slot_head.ensures)
    (sym c.is_open_gate.ensures ∙ c.if-is_open_gate.false)
