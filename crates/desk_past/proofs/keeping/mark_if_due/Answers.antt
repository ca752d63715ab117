use Rattle.std.proofs.Common.{arith, rules}
use Rattle.store_layout.specs.declared.layout.TheConstants.{STORE_SECTORS}
use Rattle.past_pages.proofs.StillReads.{still_none}
use Rattle.desk_past.proofs.Begun.{desktop_spared, spared_none}
use Rattle.desk_past.proofs.Remembering.{read_moments}
use Rattle.desk_past.proofs.Sparing.{device_used, only_as, only_none, uses_only}
use Rattle.desk_past.proofs.keeping.mark_if_due.Goals as goal

pub returns-in_err-events-clause-any_moment : goal.returns-in_err-events-clause-any_moment
returns-in_err-events-clause-any_moment g c = λ honest start deeds desktop was.
    read_moments g.D.Disk was.keeps honest (c.shows_what_crashes_leave.ensures.quiet was.keeps.usable honest)
    c.args.store.now (still_none g.D.Disk c.args.store.now was.keeps.usable).left.disk

pub returns-then-not-is_mark_due-clause-any_moment : goal.returns-then-not-is_mark_due-clause-any_moment
returns-then-not-is_mark_due-clause-any_moment g c = λ honest start deeds desktop was.
    read_moments g.D.Disk was.keeps honest (c.shows_what_crashes_leave.ensures.quiet was.keeps.usable honest)
    c.args.store.now (still_none g.D.Disk c.args.store.now was.keeps.usable).left.disk

pub returns-in_err-events-clause-moments : goal.returns-in_err-events-clause-moments
returns-in_err-events-clause-moments g c = desktop_spared g.D.Disk STORE_SECTORS 0
    c.args.store.now c.args.store.now (omega arith) c.shows_what_crashes_leave.ensures.durable
    (spared_none g.D.Disk STORE_SECTORS 0 c.shows_what_crashes_leave.ensures.quiet)

pub returns-then-not-is_mark_due-clause-moments : goal.returns-then-not-is_mark_due-clause-moments
returns-then-not-is_mark_due-clause-moments g c = desktop_spared g.D.Disk STORE_SECTORS 0
    c.args.store.now c.args.store.now (omega arith) c.shows_what_crashes_leave.ensures.durable
    (spared_none g.D.Disk STORE_SECTORS 0 c.shows_what_crashes_leave.ensures.quiet)

pub returns-in_err-events-clause-device : goal.returns-in_err-events-clause-device
returns-in_err-events-clause-device g c =
    uses_only g.D.Disk (search rules) (only_none g.D.Disk c.shows_what_crashes_leave.ensures.quiet)

pub returns-then-not-is_mark_due-clause-device : goal.returns-then-not-is_mark_due-clause-device
returns-then-not-is_mark_due-clause-device g c =
    uses_only g.D.Disk (search rules) (only_none g.D.Disk c.shows_what_crashes_leave.ensures.quiet)

pub returns-clause-device : goal.returns-clause-device
returns-clause-device g c =
    let low = c.saturating_sub.ensures in
    uses_only g.D.Disk (device_used g.D.Disk c.write_mark.ensures.device)
    (only_as g.D.Disk c.write_mark.ensures.device.others (λ honest s at n up. (up.0, omega (arith, up.1, low))))
