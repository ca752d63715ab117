use Rattle.std.proofs.Common.{◌≡◌, ◌+◌, ◌-◌, ◌<◌, inl, inr, ◌∙◌, ap, arith, rules, subst, sym}
use Rattle.std.proofs.lemmas.Bool.{false≢true}
use Rattle.std.proofs.lemmas.Result.{on_ok_weaker}
use Rattle.sector_disk.proofs.Touching.{chained, weakened}
use Rattle.store_layout.specs.declared.head.PastEnd.{PastEnd}
use Rattle.store_layout.specs.declared.layout.TheConstants.{STORE_SECTORS}
use Rattle.past_pages.specs.Parts.{IsPastPart}
use Rattle.past_pages.specs.declared.parts.TheConstants.{LEAST_ROOM}
use Rattle.past_pages.proofs.StillReads.{still_both, still_looked, still_none, still_reads}
use Rattle.desk_past.specs.Keeping.{HasPageRoom}
use Rattle.desk_past.proofs.Begun.{aside_looked, aside_read, desktop_spared, desktop_then, renewed_aside, same_both, spared_read}
use Rattle.desk_past.proofs.Over.{can_still, due_still, forgets_behind, lies_still, over_still, way_behind}
use Rattle.desk_past.proofs.Remembering.{leaves_then, read_keeps, read_moments, room_still}
use Rattle.desk_past.proofs.Rooms.{behind_start}
use Rattle.desk_past.proofs.Sparing.{in_part, oldest_then, only_as, only_behind_read, only_read, uses_only}
use Rattle.desk_past.proofs.Ways.{room_renewed, way_aside, way_renewed}
use Rattle.desk_past.proofs.keeping.turn_over.Goals as goal

-- ---- nothing is written

pub returns-in_err-told-clause-any_moment : goal.returns-in_err-told-clause-any_moment
returns-in_err-told-clause-any_moment g c = λ honest start deeds desktop keeps can.
    read_moments g.D.Disk keeps honest (c.shows_what_crashes_leave.ensures.quiet keeps.usable honest)
    c.past.new.self c.past.ensures.looks.disk

pub returns-in_err-told-clause-none_forgotten : goal.returns-in_err-told-clause-none_forgotten
returns-in_err-told-clause-none_forgotten g c = λ honest start deeds desktop keeps lies.
    weakened (read_moments g.D.Disk keeps honest (c.shows_what_crashes_leave.ensures.quiet keeps.usable honest)
    c.past.new.self c.past.ensures.looks.disk) (λ c was. inl was)

pub returns-in_err-told-clause-moments : goal.returns-in_err-told-clause-moments
returns-in_err-told-clause-moments g c = desktop_spared g.D.Disk STORE_SECTORS 0 c.args.store.now c.past.new.self
    (omega arith) c.shows_what_crashes_leave.ensures.durable
    (spared_read g.D.Disk STORE_SECTORS 0 c.past.ensures.looks.disk c.shows_what_crashes_leave.ensures.quiet)

pub returns-in_err-told-clause-device : goal.returns-in_err-told-clause-device
returns-in_err-told-clause-device g c = uses_only g.D.Disk (search rules)
    (only_read g.D.Disk c.past.ensures.looks.disk c.shows_what_crashes_leave.ensures.quiet)

pub returns-in_default-clause-any_moment : goal.returns-in_default-clause-any_moment
returns-in_default-clause-any_moment g c = λ honest start deeds desktop keeps can.
    read_moments g.D.Disk keeps honest (c.shows_what_crashes_leave.ensures.quiet keeps.usable honest)
    c.past.new.self c.past.ensures.looks.disk

pub returns-in_default-clause-none_forgotten : goal.returns-in_default-clause-none_forgotten
returns-in_default-clause-none_forgotten g c = λ honest start deeds desktop keeps lies.
    weakened (read_moments g.D.Disk keeps honest (c.shows_what_crashes_leave.ensures.quiet keeps.usable honest)
    c.past.new.self c.past.ensures.looks.disk) (λ c was. inl was)

pub returns-in_default-clause-moments : goal.returns-in_default-clause-moments
returns-in_default-clause-moments g c = desktop_spared g.D.Disk STORE_SECTORS 0 c.args.store.now c.past.new.self
    (omega arith) c.shows_what_crashes_leave.ensures.durable
    (spared_read g.D.Disk STORE_SECTORS 0 c.past.ensures.looks.disk c.shows_what_crashes_leave.ensures.quiet)

pub returns-in_default-clause-ended : goal.returns-in_default-clause-ended
returns-in_default-clause-ended g c = λ honest start deeds desktop keeps can.
    let next = ap (λ (x : PastEnd). x.next)
    (c.in_ok-told.ensures.told honest keeps.remembers.standing keeps.remembers.past.stands) in
    let part = subst (λ n. IsPastPart n start.base can.end)
    (sym (c.sectors.ensures ∙ c.past.ensures.looks.disk.device.as_large)) can.part in
    absurd (c.in_default.ensures.all start.base can.end part
    (omega (arith, behind_start g.D.Disk keeps, next)) (omega (arith, can.room.page, next)))

pub returns-in_default-clause-gone_over : goal.returns-in_default-clause-gone_over
returns-in_default-clause-gone_over g c = λ honest start deeds desktop keeps can.
    let next = ap (λ (x : PastEnd). x.next)
    (c.in_ok-told.ensures.told honest keeps.remembers.standing keeps.remembers.past.stands) in
    let part = subst (λ n. IsPastPart n start.base can.lies.end)
    (sym (c.sectors.ensures ∙ c.past.ensures.looks.disk.device.as_large)) can.lies.part in
    absurd (c.in_default.ensures.all start.base can.lies.end part
    (omega (arith, behind_start g.D.Disk keeps, next)) (omega (arith, can.lies.within, next)))

pub returns-in_default-clause-made : goal.returns-in_default-clause-made
returns-in_default-clause-made g c = way_aside g.D.Disk c.requires.able
    (aside_looked g.D.Disk c.past.result c.requires.able.0 c.past.ensures.looks)

pub returns-in_default-clause-device : goal.returns-in_default-clause-device
returns-in_default-clause-device g c = uses_only g.D.Disk (search rules)
    (only_read g.D.Disk c.past.ensures.looks.disk c.shows_what_crashes_leave.ensures.quiet)

-- ---- the epoch ends

pub returns-in_err-end_epoch-clause-any_moment : goal.returns-in_err-end_epoch-clause-any_moment
returns-in_err-end_epoch-clause-any_moment g c = λ honest start deeds desktop keeps can.
    let d = g.D.Disk in
    let quiet = c.shows_what_crashes_leave.ensures.quiet keeps.usable honest in
    let run = c.past.ensures.looks.disk in
    leaves_then d c.args.store.now c.past.new.self c.end_epoch.new.store run.device
    (read_moments d keeps honest quiet c.past.new.self run)
    (c.end_epoch.ensures.any_moment (run.device.still honest) start deeds desktop
    (read_keeps d keeps honest quiet run (c.past.ensures.looks.usable ∙ keeps.usable)))

pub returns-in_err-end_epoch-clause-none_forgotten : goal.returns-in_err-end_epoch-clause-none_forgotten
returns-in_err-end_epoch-clause-none_forgotten g c = λ honest start deeds desktop keeps lies.
    let d = g.D.Disk in
    let quiet = c.shows_what_crashes_leave.ensures.quiet keeps.usable honest in
    let run = c.past.ensures.looks.disk in
    weakened (leaves_then d c.args.store.now c.past.new.self c.end_epoch.new.store run.device
    (read_moments d keeps honest quiet c.past.new.self run)
    (c.end_epoch.ensures.any_moment (run.device.still honest) start deeds desktop
    (read_keeps d keeps honest quiet run (c.past.ensures.looks.usable ∙ keeps.usable)))) (λ c was. inl was)

pub returns-in_err-end_epoch-clause-moments : goal.returns-in_err-end_epoch-clause-moments
returns-in_err-end_epoch-clause-moments g c =
    let d = g.D.Disk in
    desktop_then d c.end_epoch.new.store c.past.ensures.looks.disk.device
    (desktop_spared d STORE_SECTORS 0 c.args.store.now c.past.new.self (omega arith)
    c.shows_what_crashes_leave.ensures.durable
    (spared_read d STORE_SECTORS 0 c.past.ensures.looks.disk c.shows_what_crashes_leave.ensures.quiet))
    (aside_looked d c.past.result c.requires.able.0 c.past.ensures.looks) c.end_epoch.ensures.moments

pub returns-in_err-end_epoch-clause-device : goal.returns-in_err-end_epoch-clause-device
returns-in_err-end_epoch-clause-device g c =
    let d = g.D.Disk in
    let run = c.past.ensures.looks.disk in
    uses_only d (search rules) (only_as d (only_behind_read d c.end_epoch.new.store run
    c.shows_what_crashes_leave.ensures.quiet (λ usable. c.past.ensures.looks.usable ∙ usable)
    c.end_epoch.ensures.device.others) (λ honest s at n up.
    inl (in_part _ _ _ _ _ _ n (c.sectors.ensures ∙ run.device.as_large) c.in-Some.ensures.is c.in-Some.ensures.within.0
    c.in-Some.ensures.within.1 (ap (λ (x : PastEnd). x.next) (c.in_ok-told.ensures.told honest s at))
    (up.0, omega (arith, up.1)))))

pub returns-then-branch-clause-any_moment : goal.returns-then-branch-clause-any_moment
returns-then-branch-clause-any_moment g c = λ honest start deeds desktop keeps can.
    let d = g.D.Disk in
    let quiet = c.shows_what_crashes_leave.ensures.quiet keeps.usable honest in
    let run = c.past.ensures.looks.disk in
    leaves_then d c.args.store.now c.past.new.self c.end_epoch.new.store run.device
    (read_moments d keeps honest quiet c.past.new.self run)
    (c.end_epoch.ensures.any_moment (run.device.still honest) start deeds desktop
    (read_keeps d keeps honest quiet run (c.past.ensures.looks.usable ∙ keeps.usable)))

pub returns-then-branch-clause-none_forgotten : goal.returns-then-branch-clause-none_forgotten
returns-then-branch-clause-none_forgotten g c = λ honest start deeds desktop keeps lies.
    let d = g.D.Disk in
    let quiet = c.shows_what_crashes_leave.ensures.quiet keeps.usable honest in
    let run = c.past.ensures.looks.disk in
    weakened (leaves_then d c.args.store.now c.past.new.self c.end_epoch.new.store run.device
    (read_moments d keeps honest quiet c.past.new.self run)
    (c.end_epoch.ensures.any_moment (run.device.still honest) start deeds desktop
    (read_keeps d keeps honest quiet run (c.past.ensures.looks.usable ∙ keeps.usable)))) (λ c was. inl was)

pub returns-then-branch-clause-moments : goal.returns-then-branch-clause-moments
returns-then-branch-clause-moments g c =
    let d = g.D.Disk in
    desktop_then d c.end_epoch.new.store c.past.ensures.looks.disk.device
    (desktop_spared d STORE_SECTORS 0 c.args.store.now c.past.new.self (omega arith)
    c.shows_what_crashes_leave.ensures.durable
    (spared_read d STORE_SECTORS 0 c.past.ensures.looks.disk c.shows_what_crashes_leave.ensures.quiet))
    (aside_looked d c.past.result c.requires.able.0 c.past.ensures.looks) c.end_epoch.ensures.moments

pub returns-then-branch-clause-device : goal.returns-then-branch-clause-device
returns-then-branch-clause-device g c =
    let d = g.D.Disk in
    let run = c.past.ensures.looks.disk in
    uses_only d (search rules) (only_as d (only_behind_read d c.end_epoch.new.store run
    c.shows_what_crashes_leave.ensures.quiet (λ usable. c.past.ensures.looks.usable ∙ usable)
    c.end_epoch.ensures.device.others) (λ honest s at n up.
    inl (in_part _ _ _ _ _ _ n (c.sectors.ensures ∙ run.device.as_large) c.in-Some.ensures.is c.in-Some.ensures.within.0
    c.in-Some.ensures.within.1 (ap (λ (x : PastEnd). x.next) (c.in_ok-told.ensures.told honest s at))
    (up.0, omega (arith, up.1)))))

pub returns-then-branch-clause-ended : goal.returns-then-branch-clause-ended
returns-then-branch-clause-ended g c = λ honest start deeds desktop keeps can.
    let run = c.past.ensures.looks.disk in (
      c.in_ok-end_epoch.ensures.ended (run.device.still honest) start deeds desktop
          (read_keeps g.D.Disk keeps honest (c.shows_what_crashes_leave.ensures.quiet keeps.usable honest) run
          (c.past.ensures.looks.usable ∙ keeps.usable)),
      room_renewed g.D.Disk (c.in_ok-end_epoch.ensures.renewed c.if-branch.true),
    )

pub returns-then-branch-clause-gone_over : goal.returns-then-branch-clause-gone_over
returns-then-branch-clause-gone_over g c = λ honest start deeds desktop keeps can.
    let run = c.past.ensures.looks.disk in (
      inl (c.in_ok-end_epoch.ensures.ended (run.device.still honest) start deeds desktop
          (read_keeps g.D.Disk keeps honest (c.shows_what_crashes_leave.ensures.quiet keeps.usable honest) run
          (c.past.ensures.looks.usable ∙ keeps.usable))),
      room_renewed g.D.Disk (c.in_ok-end_epoch.ensures.renewed c.if-branch.true),
    )

pub returns-then-branch-clause-made : goal.returns-then-branch-clause-made
returns-then-branch-clause-made g c =
    let d = g.D.Disk in
    way_renewed d c.requires.able c.requires.due (renewed_aside d c.past.ensures.looks.disk.device
    (aside_looked d c.past.result c.requires.able.0 c.past.ensures.looks)
    (c.in_ok-end_epoch.ensures.renewed c.if-branch.true))

-- ---- the part is full, and the next one begins

pub begin_next-requires-clause-able : goal.begin_next-requires-clause-able
begin_next-requires-clause-able g c =
    let d = g.D.Disk in
    can_still d (still_both d (still_looked d c.past.result (still_none d c.args.store.now c.requires.able.0)
    c.past.ensures.looks) (c.in_ok-end_epoch.ensures.still c.if-branch.false)) c.requires.able

pub begin_next-requires-clause-due : goal.begin_next-requires-clause-due
begin_next-requires-clause-due g c =
    let d = g.D.Disk in
    due_still d (still_both d (still_looked d c.past.result (still_none d c.args.store.now c.requires.able.0)
    c.past.ensures.looks) (c.in_ok-end_epoch.ensures.still c.if-branch.false)) c.requires.due

pub returns-clause-any_moment : goal.returns-clause-any_moment
returns-clause-any_moment g c = λ honest start deeds desktop keeps can.
    let d = g.D.Disk in
    let quiet = c.shows_what_crashes_leave.ensures.quiet keeps.usable honest in
    let run = c.past.ensures.looks.disk in
    let next = ap (λ (x : PastEnd). x.next)
    (c.in_ok-told.ensures.told honest keeps.remembers.standing keeps.remembers.past.stands) in
    let part = subst (λ n. IsPastPart n start.base can.end) (sym (c.sectors.ensures ∙ run.device.as_large)) can.part in
    let found = c.in-Some.ensures.all start.base can.end part
    (omega (arith, behind_start d keeps, next)) (omega (arith, can.room.page, next)) in
    absurd (room_still d keeps honest quiet c.past.new.self run (c.past.ensures.looks.usable ∙ keeps.usable)
    (can.end - LEAST_ROOM) can.room (λ mid room. c.in_ok-end_epoch.ensures.full c.if-branch.false
    (run.device.still honest)
    start deeds desktop mid (subst (λ n. HasPageRoom d (n - LEAST_ROOM) mid) (sym found.1) room)))

pub returns-clause-ended : goal.returns-clause-ended
returns-clause-ended g c = on_ok_weaker c.begin_next.result (λ begun honest start deeds desktop keeps can.
    let d = g.D.Disk in
    let quiet = c.shows_what_crashes_leave.ensures.quiet keeps.usable honest in
    let run = c.past.ensures.looks.disk in
    let next = ap (λ (x : PastEnd). x.next)
    (c.in_ok-told.ensures.told honest keeps.remembers.standing keeps.remembers.past.stands) in
    let part = subst (λ n. IsPastPart n start.base can.end) (sym (c.sectors.ensures ∙ run.device.as_large)) can.part in
    let found = c.in-Some.ensures.all start.base can.end part
    (omega (arith, behind_start d keeps, next)) (omega (arith, can.room.page, next)) in
    absurd (room_still d keeps honest quiet c.past.new.self run (c.past.ensures.looks.usable ∙ keeps.usable)
    (can.end - LEAST_ROOM) can.room (λ mid room. c.in_ok-end_epoch.ensures.full c.if-branch.false
    (run.device.still honest)
    start deeds desktop mid (subst (λ n. HasPageRoom d (n - LEAST_ROOM) mid) (sym found.1) room))))
    c.begin_next.ensures.begun

pub returns-clause-none_forgotten : goal.returns-clause-none_forgotten
returns-clause-none_forgotten g c = λ honest start deeds desktop keeps lies.
    let d = g.D.Disk in
    let quiet = c.shows_what_crashes_leave.ensures.quiet keeps.usable honest in
    let next = ap (λ (x : PastEnd). x.next)
    (c.in_ok-told.ensures.told honest keeps.remembers.standing keeps.remembers.past.stands) in
    let still = still_both d (still_looked d c.past.result (still_none d c.args.store.now keeps.usable)
    c.past.ensures.looks) (c.in_ok-end_epoch.ensures.still c.if-branch.false) in
    lies_still d keeps honest quiet c.end_epoch.new.store still.left.disk still.usable lies (λ mid same there.
    forgets_behind d c.begin_next.new.store still (read_moments d keeps honest quiet c.end_epoch.new.store
    still.left.disk)
    (c.begin_next.ensures.none_forgotten (still.left.disk.device.still honest) start deeds desktop mid
    (same ∙ sym next) there))

pub returns-clause-gone_over : goal.returns-clause-gone_over
returns-clause-gone_over g c = on_ok_weaker c.begin_next.result (λ begun honest start deeds desktop keeps can.
    let d = g.D.Disk in
    let quiet = c.shows_what_crashes_leave.ensures.quiet keeps.usable honest in
    let next = ap (λ (x : PastEnd). x.next)
    (c.in_ok-told.ensures.told honest keeps.remembers.standing keeps.remembers.past.stands) in
    let still = still_both d (still_looked d c.past.result (still_none d c.args.store.now keeps.usable)
    c.past.ensures.looks) (c.in_ok-end_epoch.ensures.still c.if-branch.false) in
    over_still d keeps honest quiet c.end_epoch.new.store still.left.disk still.usable still.left.epoch can
    (λ mid same over.
    let behind = begun (still.left.disk.device.still honest) start deeds desktop mid (same ∙ sym next) over in
    (inr behind.0, behind.1))) c.begin_next.ensures.begun

pub returns-clause-moments : goal.returns-clause-moments
returns-clause-moments g c =
    let d = g.D.Disk in
    let still = still_both d (still_looked d c.past.result (still_none d c.args.store.now c.requires.able.0)
    c.past.ensures.looks) (c.in_ok-end_epoch.ensures.still c.if-branch.false) in
    desktop_then d c.begin_next.new.store still.left.disk.device
    (desktop_spared d STORE_SECTORS 0 c.args.store.now c.end_epoch.new.store (omega arith)
    c.shows_what_crashes_leave.ensures.durable
    (spared_read d STORE_SECTORS 0 still.left.disk c.shows_what_crashes_leave.ensures.quiet))
    (aside_read d still) c.begin_next.ensures.moments

pub returns-clause-made : goal.returns-clause-made
returns-clause-made g c = on_ok_weaker c.begin_next.result (λ made.
    let d = g.D.Disk in
    way_behind d c.begin_next.new.store c.requires.able (still_both d (still_looked d c.past.result
    (still_none d c.args.store.now c.requires.able.0) c.past.ensures.looks)
    (c.in_ok-end_epoch.ensures.still c.if-branch.false)) made) c.begin_next.ensures.made

pub returns-clause-device : goal.returns-clause-device
returns-clause-device g c =
    let d = g.D.Disk in
    let still = still_both d (still_looked d c.past.result (still_none d c.args.store.now c.requires.able.0)
    c.past.ensures.looks) (c.in_ok-end_epoch.ensures.still c.if-branch.false) in
    uses_only d (search rules) (only_as d (only_behind_read d c.begin_next.new.store still.left.disk
    c.shows_what_crashes_leave.ensures.quiet (λ _. still.usable) c.begin_next.ensures.device.others)
    (λ honest s at n there. inr (oldest_then d still
    (c.shows_what_crashes_leave.ensures.quiet c.requires.able.0 honest) honest s.past.next _ n
    (ap (λ (x : PastEnd). x.next) (c.in_ok-told.ensures.told honest s at)) there)))
