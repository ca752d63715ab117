use Rattle.std.proofs.Common.{◌∙◌, ap, arith, rules}
use Rattle.store_layout.specs.declared.layout.TheConstants.{STORE_SECTORS}
use Rattle.std.proofs.lemmas.Option.{IfSome_then}
use Rattle.std.proofs.lemmas.Result.{IfOk-weaker}
use Rattle.past_pages.proofs.StillReads.{read_behind, usable_of}
use Rattle.desk_past.proofs.Told.{none_then}
use Rattle.desk_past.proofs.Remembering.{leaves_then, read_moments, told_room_still, told_still}
use Rattle.desk_past.proofs.Begun.{aside_looked, desktop_spared, desktop_then, spared_read}
use Rattle.desk_past.proofs.Sparing.{only_as, only_behind_read, only_read, uses_only}
use Rattle.store_layout.specs.declared.head.PastEnd.{PastEnd}
use Rattle.desk_past.proofs.keeping.write_page.Goals as goal

pub returns-in_err-told-clause-any_moment : goal.returns-in_err-told-clause-any_moment
returns-in_err-told-clause-any_moment g c = λ honest start deeds desktop keeps.
    read_moments g.D.Disk keeps honest (c.shows_what_crashes_leave.ensures.quiet keeps.usable honest)
    c.past.new.self c.past.ensures.looks.disk

pub returns-clause-any_moment : goal.returns-clause-any_moment
returns-clause-any_moment g c = λ honest start deeds desktop keeps.
    let d = g.D.Disk in
    let quiet = c.shows_what_crashes_leave.ensures.quiet keeps.usable honest in
    let run = c.past.ensures.looks.disk in
    leaves_then d c.args.store.now c.past.new.self c.write_page_at.new.store run.device
    (read_moments d keeps honest quiet c.past.new.self run)
    (told_still d keeps honest quiet c.past.new.self run (c.past.ensures.looks.usable ∙ keeps.usable) _
    (c.in_ok-told.ensures.told honest keeps.remembers.standing keeps.remembers.past.stands)
    (c.write_page_at.ensures.any_moment (run.device.still honest) start deeds desktop))

pub returns-clause-written : goal.returns-clause-written
returns-clause-written g c = IfOk-weaker c.write_page_at.result _ _
    (λ end fact. IfSome_then end fact (λ n written. (
      λ honest s at.
          let later = written.0 in
          let next = ap (λ (x : PastEnd). x.next) (c.in_ok-told.ensures.told honest s at) in omega (arith, later, next),
      λ honest start deeds desktop keeps.
          told_still g.D.Disk keeps honest (c.shows_what_crashes_leave.ensures.quiet keeps.usable honest)
          c.past.new.self
          c.past.ensures.looks.disk (c.past.ensures.looks.usable ∙ keeps.usable) _
          (c.in_ok-told.ensures.told honest keeps.remembers.standing keeps.remembers.past.stands)
          (written.1 (c.past.ensures.looks.disk.device.still honest) start deeds desktop),
    ))) c.write_page_at.ensures.written

pub returns-clause-none : goal.returns-clause-none
returns-clause-none g c = IfOk-weaker c.write_page_at.result _ _
    (λ end fact. none_then end fact (λ still.
    read_behind g.D.Disk c.past.result c.past.ensures.looks still
    (usable_of c.args.store.now.must_reopen c.past.ensures.looks.reopen.1 c.in_ok-told.was)))
    c.write_page_at.ensures.none

pub returns-clause-full : goal.returns-clause-full
returns-clause-full g c = IfOk-weaker c.write_page_at.result _ _
    (λ found fact. none_then found fact (λ full honest start deeds desktop keeps room.
    told_room_still g.D.Disk keeps honest (c.shows_what_crashes_leave.ensures.quiet keeps.usable honest) c.past.new.self
    c.past.ensures.looks.disk (c.past.ensures.looks.usable ∙ keeps.usable) c.args.end _
    (c.in_ok-told.ensures.told honest keeps.remembers.standing keeps.remembers.past.stands) room
    (full (c.past.ensures.looks.disk.device.still honest) start deeds desktop))) c.write_page_at.ensures.full

pub returns-in_err-told-clause-moments : goal.returns-in_err-told-clause-moments
returns-in_err-told-clause-moments g c = desktop_spared g.D.Disk STORE_SECTORS 0 c.args.store.now c.past.new.self
    (omega arith) c.shows_what_crashes_leave.ensures.durable
    (spared_read g.D.Disk STORE_SECTORS 0 c.past.ensures.looks.disk c.shows_what_crashes_leave.ensures.quiet)

pub returns-clause-moments : goal.returns-clause-moments
returns-clause-moments g c = λ usable honest.
    let d = g.D.Disk in
    let run = c.past.ensures.looks.disk in
    desktop_then d c.write_page_at.new.store run.device
    (desktop_spared d STORE_SECTORS 0 c.args.store.now c.past.new.self (omega arith)
    c.shows_what_crashes_leave.ensures.durable
    (spared_read d STORE_SECTORS 0 run c.shows_what_crashes_leave.ensures.quiet))
    (aside_looked d c.past.result usable c.past.ensures.looks) c.write_page_at.ensures.moments
    usable honest

pub returns-in_err-told-clause-device : goal.returns-in_err-told-clause-device
returns-in_err-told-clause-device g c = uses_only g.D.Disk (search rules)
    (only_read g.D.Disk c.past.ensures.looks.disk c.shows_what_crashes_leave.ensures.quiet)

pub returns-clause-device : goal.returns-clause-device
returns-clause-device g c =
    let d = g.D.Disk in
    uses_only d (search rules) (only_as d (only_behind_read d c.write_page_at.new.store c.past.ensures.looks.disk
    c.shows_what_crashes_leave.ensures.quiet (λ usable. c.past.ensures.looks.usable ∙ usable)
    c.write_page_at.ensures.device.others) (λ honest s at n up.
    let next = ap (λ (x : PastEnd). x.next) (c.in_ok-told.ensures.told honest s at) in
    (omega (arith, next, up.0), up.1)))
