use Rattle.std.proofs.Common.{◌+◌, ◌-◌, ◌∙◌, List, ap, arith, false, length, refl, rules, subst, sym, ℕ}
use Rattle.sector_disk.specs.Stored.{last_sector}
use Rattle.sector_disk.specs.Trail.{now}
use Rattle.desktop_definitions.specs.Desktop.{Desktop}
use Rattle.store_layout.specs.declared.layout.TheConstants.{STORE_SECTORS}
use Rattle.past_pages.specs.Marks.{IsCopyPage}
use Rattle.past_pages.proofs.StillReads.{still_none, usable_of}
use Rattle.desk_past.proofs.Begun.{desktop_spared, spared_none, spared_read, spared_then, spared_write}
use Rattle.desk_past.proofs.Marking.{shown_desktop}
use Rattle.desk_past.proofs.Remembering.{leaves_then, mark_keeps, mark_moments, new_page_still, read_moments}
use Rattle.desk_past.proofs.Sparing.{only_behind_read, only_none, only_read, only_there, uses_only}
use Rattle.desk_past.proofs.keeping.write_mark.Goals as goal

-- ---- nothing is written

pub returns-in_err-_info-clause-any_moment : goal.returns-in_err-_info-clause-any_moment
returns-in_err-_info-clause-any_moment g c = λ honest start deeds desktop was.
    read_moments g.D.Disk was.keeps honest (c.shows_what_crashes_leave.ensures.quiet was.keeps.usable honest)
    c.args.store.now (still_none g.D.Disk c.args.store.now was.keeps.usable).left.disk

pub returns-in_err-bytes-clause-any_moment : goal.returns-in_err-bytes-clause-any_moment
returns-in_err-bytes-clause-any_moment g c = λ honest start deeds desktop was.
    read_moments g.D.Disk was.keeps honest (c.shows_what_crashes_leave.ensures.quiet was.keeps.usable honest)
    c.mark_page.new.store c.mark_page.ensures.looks.disk

pub returns-in_default-clause-any_moment : goal.returns-in_default-clause-any_moment
returns-in_default-clause-any_moment g c = λ honest start deeds desktop was.
    read_moments g.D.Disk was.keeps honest (c.shows_what_crashes_leave.ensures.quiet was.keeps.usable honest)
    c.mark_page.new.store c.mark_page.ensures.looks.disk

pub returns-in_default-end_behind-clause-any_moment : goal.returns-in_default-end_behind-clause-any_moment
returns-in_default-end_behind-clause-any_moment g c = λ honest start deeds desktop was.
    read_moments g.D.Disk was.keeps honest (c.shows_what_crashes_leave.ensures.quiet was.keeps.usable honest)
    c.mark_page.new.store c.mark_page.ensures.looks.disk

pub returns-in_default-clause-written : goal.returns-in_default-clause-written
returns-in_default-clause-written g c = λ honest start deeds desktop was.
    new_page_still g.D.Disk was honest (c.shows_what_crashes_leave.ensures.quiet was.keeps.usable honest)
    c.mark_page.new.store c.mark_page.ensures.looks.disk (c.mark_page.ensures.usable ∙ was.keeps.usable)

pub returns-in_default-end_behind-clause-written : goal.returns-in_default-end_behind-clause-written
returns-in_default-end_behind-clause-written g c = λ honest start deeds desktop was.
    new_page_still g.D.Disk was honest (c.shows_what_crashes_leave.ensures.quiet was.keeps.usable honest)
    c.mark_page.new.store c.mark_page.ensures.looks.disk (c.mark_page.ensures.usable ∙ was.keeps.usable)

pub returns-in_err-_info-clause-moments : goal.returns-in_err-_info-clause-moments
returns-in_err-_info-clause-moments g c = desktop_spared g.D.Disk STORE_SECTORS 0
    c.args.store.now c.args.store.now (omega arith) c.shows_what_crashes_leave.ensures.durable
    (spared_none g.D.Disk STORE_SECTORS 0 c.shows_what_crashes_leave.ensures.quiet)

pub returns-in_err-bytes-clause-moments : goal.returns-in_err-bytes-clause-moments
returns-in_err-bytes-clause-moments g c = desktop_spared g.D.Disk STORE_SECTORS 0
    c.args.store.now c.mark_page.new.store (omega arith) c.shows_what_crashes_leave.ensures.durable
    (spared_read g.D.Disk STORE_SECTORS 0 c.mark_page.ensures.looks.disk c.shows_what_crashes_leave.ensures.quiet)

pub returns-in_default-clause-moments : goal.returns-in_default-clause-moments
returns-in_default-clause-moments g c = desktop_spared g.D.Disk STORE_SECTORS 0
    c.args.store.now c.mark_page.new.store (omega arith) c.shows_what_crashes_leave.ensures.durable
    (spared_read g.D.Disk STORE_SECTORS 0 c.mark_page.ensures.looks.disk c.shows_what_crashes_leave.ensures.quiet)

pub returns-in_default-end_behind-clause-moments : goal.returns-in_default-end_behind-clause-moments
returns-in_default-end_behind-clause-moments g c = desktop_spared g.D.Disk STORE_SECTORS 0
    c.args.store.now c.mark_page.new.store (omega arith) c.shows_what_crashes_leave.ensures.durable
    (spared_read g.D.Disk STORE_SECTORS 0 c.mark_page.ensures.looks.disk c.shows_what_crashes_leave.ensures.quiet)

pub returns-in_err-_info-clause-device : goal.returns-in_err-_info-clause-device
returns-in_err-_info-clause-device g c =
    uses_only g.D.Disk (search rules) (only_none g.D.Disk c.shows_what_crashes_leave.ensures.quiet)

pub returns-in_err-bytes-clause-device : goal.returns-in_err-bytes-clause-device
returns-in_err-bytes-clause-device g c = uses_only g.D.Disk (search rules)
    (only_read g.D.Disk c.mark_page.ensures.looks.disk c.shows_what_crashes_leave.ensures.quiet)

pub returns-in_default-clause-device : goal.returns-in_default-clause-device
returns-in_default-clause-device g c = uses_only g.D.Disk (search rules)
    (only_read g.D.Disk c.mark_page.ensures.looks.disk c.shows_what_crashes_leave.ensures.quiet)

pub returns-in_default-end_behind-clause-device : goal.returns-in_default-end_behind-clause-device
returns-in_default-end_behind-clause-device g c = uses_only g.D.Disk (search rules)
    (only_read g.D.Disk c.mark_page.ensures.looks.disk c.shows_what_crashes_leave.ensures.quiet)

-- ---- the mark is written

pub returns-in_err-write_behind-clause-any_moment : goal.returns-in_err-write_behind-clause-any_moment
returns-in_err-write_behind-clause-any_moment g c = λ honest start deeds desktop was.
    let d = g.D.Disk in
    let run = c.mark_page.ensures.looks.disk in
    let quiet = c.shows_what_crashes_leave.ensures.quiet was.keeps.usable honest in
    let usable = c.mark_page.ensures.usable ∙ was.keeps.usable in
    leaves_then d c.args.store.now c.mark_page.new.store c.write_behind.new.self run.device
    (read_moments d was.keeps honest quiet c.mark_page.new.store run)
    (mark_moments d (new_page_still d was honest quiet c.mark_page.new.store run usable) (run.device.still honest)
    (c.shows_what_crashes_leave-2.ensures.quiet usable (run.device.still honest)) c.write_behind.new.self _ _ refl
    c.write_behind.ensures.only c.write_behind.ensures.any_moment)

pub returns-clause-any_moment : goal.returns-clause-any_moment
returns-clause-any_moment g c = λ honest start deeds desktop was.
    let d = g.D.Disk in
    let run = c.mark_page.ensures.looks.disk in
    let quiet = c.shows_what_crashes_leave.ensures.quiet was.keeps.usable honest in
    let usable = c.mark_page.ensures.usable ∙ was.keeps.usable in
    leaves_then d c.args.store.now c.mark_page.new.store c.write_behind.new.self run.device
    (read_moments d was.keeps honest quiet c.mark_page.new.store run)
    (mark_moments d (new_page_still d was honest quiet c.mark_page.new.store run usable) (run.device.still honest)
    (c.shows_what_crashes_leave-2.ensures.quiet usable (run.device.still honest)) c.write_behind.new.self _ _ refl
    c.write_behind.ensures.only c.write_behind.ensures.any_moment)

pub returns-clause-written : goal.returns-clause-written
returns-clause-written g c = λ honest start deeds desktop was.
    let d = g.D.Disk in
    let run = c.mark_page.ensures.looks.disk in
    let quiet = c.shows_what_crashes_leave.ensures.quiet was.keeps.usable honest in
    let usable = c.mark_page.ensures.usable ∙ was.keeps.usable in
    let r = was.keeps.remembers in
    let is = shown_desktop (now (d.trail c.args.store.now.disk)) r.standing c.standing_law.ensures
    (c.shows_what_crashes_leave.ensures.durable was.keeps.usable honest) r.past.stands ∙ r.is in
    let same = c.as_slice.ensures.value in
    let long = ap length same ∙ sym (c.len.ensures ∙ c.in-Some.bytes.ok.0) in
    mark_keeps d (new_page_still d was honest quiet c.mark_page.new.store run usable) (run.device.still honest)
    (c.shows_what_crashes_leave-2.ensures.quiet usable (run.device.still honest)) c.write_behind.new.self _ _ refl
    c.write_behind.ensures.only c.in-Some-end_behind.next c.in_ok-write_behind.ensures.ok
    (subst (λ (x : Desktop × List ℕ). IsCopyPage false x.0 x.1) (λ i. (is i, sym same i))
    ((rw c.in-Some.is at c.in_ok-bytes.ensures.page) honest))
    (ap (λ n. c.args.past.next + (last_sector n + 1)) long ∙ sym c.in-Some-end_behind.ensures.count)
    (search (rules, arith))
    (let before = c.in-Some-end_behind.ensures.before in omega (arith, before))

pub returns-in_err-write_behind-clause-moments : goal.returns-in_err-write_behind-clause-moments
returns-in_err-write_behind-clause-moments g c =
    let d = g.D.Disk in
    let base = c.args.past.next in
    let limit = c.in-Some-end_behind.next.next - c.args.past.next in
    let usable = usable_of c.args.store.now.must_reopen c.info.ensures.reopen c.in_ok-_info.was in
    let run = c.mark_page.ensures.looks.disk in
    desktop_spared d base limit c.args.store.now c.write_behind.new.self c.in-Some-end_behind.ensures.behind
    c.shows_what_crashes_leave.ensures.durable
    (spared_then d base limit {mid = c.mark_page.new.store} c.write_behind.new.self run.device
    (c.mark_page.ensures.usable ∙ usable)
    (spared_read d base limit run c.shows_what_crashes_leave.ensures.quiet)
    (spared_write d base limit _ _ (omega arith) (omega arith)
    c.write_behind.ensures.only c.shows_what_crashes_leave-2.ensures.quiet))

pub returns-clause-moments : goal.returns-clause-moments
returns-clause-moments g c =
    let d = g.D.Disk in
    let base = c.args.past.next in
    let limit = c.in-Some-end_behind.next.next - c.args.past.next in
    let usable = usable_of c.args.store.now.must_reopen c.info.ensures.reopen c.in_ok-_info.was in
    let run = c.mark_page.ensures.looks.disk in
    desktop_spared d base limit c.args.store.now c.write_behind.new.self c.in-Some-end_behind.ensures.behind
    c.shows_what_crashes_leave.ensures.durable
    (spared_then d base limit {mid = c.mark_page.new.store} c.write_behind.new.self run.device
    (c.mark_page.ensures.usable ∙ usable)
    (spared_read d base limit run c.shows_what_crashes_leave.ensures.quiet)
    (spared_write d base limit _ _ (omega arith) (omega arith)
    c.write_behind.ensures.only c.shows_what_crashes_leave-2.ensures.quiet))

pub returns-in_err-write_behind-clause-device : goal.returns-in_err-write_behind-clause-device
returns-in_err-write_behind-clause-device g c =
    let d = g.D.Disk in
    let more = c.in-Some-end_behind.ensures.later in
    let room = c.in-Some-end_behind.ensures.room in
    uses_only d (search rules) (only_behind_read d {mid = c.mark_page.new.store} c.write_behind.new.self
    c.mark_page.ensures.looks.disk
    c.shows_what_crashes_leave.ensures.quiet (λ usable. c.mark_page.ensures.usable ∙ usable)
    (only_there d _ _ (λ next n there. (there.0, omega (arith, there.1, more, room, c.min-end.ensures)))
    c.write_behind.ensures.only c.shows_what_crashes_leave-2.ensures.quiet))

pub returns-clause-device : goal.returns-clause-device
returns-clause-device g c =
    let d = g.D.Disk in
    let more = c.in-Some-end_behind.ensures.later in
    let room = c.in-Some-end_behind.ensures.room in
    uses_only d (search rules) (only_behind_read d {mid = c.mark_page.new.store} c.write_behind.new.self
    c.mark_page.ensures.looks.disk
    c.shows_what_crashes_leave.ensures.quiet (λ usable. c.mark_page.ensures.usable ∙ usable)
    (only_there d _ _ (λ next n there. (there.0, omega (arith, there.1, more, room, c.min-end.ensures)))
    c.write_behind.ensures.only c.shows_what_crashes_leave-2.ensures.quiet))
