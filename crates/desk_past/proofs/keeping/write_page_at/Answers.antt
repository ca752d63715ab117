use Rattle.std.proofs.Common.{◌+◌, ◌-◌, ◌^◌, ◌<◌, ◌∙◌, ap, arith, length, refl, rules, subst, sym}
use Rattle.sector_disk.specs.Trail.{now}
use Rattle.past_pages.proofs.Told.{ok_of, shown_as}
use Rattle.past_pages.specs.Page.{journal_of}
use Rattle.past_pages.proofs.StillReads.{still_left, still_none, usable_of}
use Rattle.desk_past.proofs.Told.{counts_on, page_ends_at}
use Rattle.desk_past.proofs.Remembering.{read_moments, read_then_moments, read_then_page}
use Rattle.desk_past.proofs.Begun.{desktop_spared, spared_none, spared_read, spared_then, spared_write}
use Rattle.desk_past.proofs.Rooms.{behind_start}
use Rattle.desk_past.proofs.Sparing.{only_behind_read, only_none, only_read, only_there, uses_only}
use Rattle.sector_disk.specs.Stored.{last_sector}
use Rattle.store_layout.specs.declared.layout.TheConstants.{STORE_SECTORS}
use Rattle.store_layout.specs.declared.head.PastEnd.{PastEnd}
use Rattle.desk_past.proofs.keeping.write_page_at.Goals as goal

pub returns-in_err-bytes-clause-any_moment : goal.returns-in_err-bytes-clause-any_moment
returns-in_err-bytes-clause-any_moment g c = λ honest start deeds desktop keeps told.
    read_moments g.D.Disk keeps honest (c.shows_what_crashes_leave.ensures.quiet keeps.usable honest)
    c.page_read.new.store c.page_read.ensures.looks.disk

pub returns-in_default-end_behind-clause-any_moment : goal.returns-in_default-end_behind-clause-any_moment
returns-in_default-end_behind-clause-any_moment g c = λ honest start deeds desktop keeps told.
    read_moments g.D.Disk keeps honest (c.shows_what_crashes_leave.ensures.quiet keeps.usable honest)
    c.page_read.new.store c.page_read.ensures.looks.disk

pub returns-in_default-end_behind-clause-none : goal.returns-in_default-end_behind-clause-none
returns-in_default-end_behind-clause-none g c =
    let usable = usable_of c.args.store.now.must_reopen c.info.ensures.reopen c.in_ok-info.was in
    still_left g.D.Disk (still_none g.D.Disk c.args.store.now usable) c.page_read.ensures.looks
    c.page_read.ensures.usable

pub returns-in_err-write_behind-clause-any_moment : goal.returns-in_err-write_behind-clause-any_moment
returns-in_err-write_behind-clause-any_moment g c = λ honest start deeds desktop keeps told.
    let run = c.page_read.ensures.looks.disk in
    let usable = c.page_read.ensures.usable ∙ keeps.usable in
    read_then_moments g.D.Disk c.page_read.new.store c.write_behind.new.self keeps honest
    (c.shows_what_crashes_leave.ensures.quiet keeps.usable honest) run usable
    (c.shows_what_crashes_leave-2.ensures.quiet usable (run.device.still honest)) _ _ (ap (λ x. x.next) told)
    c.write_behind.ensures.only c.write_behind.ensures.any_moment

pub returns-clause-any_moment : goal.returns-clause-any_moment
returns-clause-any_moment g c = λ honest start deeds desktop keeps told.
    let run = c.page_read.ensures.looks.disk in
    let usable = c.page_read.ensures.usable ∙ keeps.usable in
    read_then_moments g.D.Disk c.page_read.new.store c.write_behind.new.self keeps honest
    (c.shows_what_crashes_leave.ensures.quiet keeps.usable honest) run usable
    (c.shows_what_crashes_leave-2.ensures.quiet usable (run.device.still honest)) _ _ (ap (λ x. x.next) told)
    c.write_behind.ensures.only c.write_behind.ensures.any_moment

pub returns-clause-written : goal.returns-clause-written
returns-clause-written g c = (
  let later = c.in-Some-end_behind.ensures.later in omega (arith, later),
  λ honest start deeds desktop keeps told.
      let d = g.D.Disk in
      let run = c.page_read.ensures.looks.disk in
      let usable = c.page_read.ensures.usable ∙ keeps.usable in
      let same = (rw c.in-Some.is at c.in_ok-bytes.ensures.page) honest keeps.remembers.standing
      keeps.remembers.past.stands in
      let is = shown_as (now (d.trail c.args.store.now.disk)) keeps.remembers.standing c.standing_law.ensures
      (c.info.ensures.durable keeps.usable honest) keeps.remembers.past.stands in
      let info_is = ap (ok_of c.in_ok-info.info) (sym c.in_ok-info.was ∙ c.info.ensures.value keeps.usable) in
      read_then_page d c.page_read.new.store c.write_behind.new.self keeps honest
      (c.shows_what_crashes_leave.ensures.quiet keeps.usable honest) run usable
      (c.shows_what_crashes_leave-2.ensures.quiet usable (run.device.still honest)) _ _ (ap (λ x. x.next) told)
      c.write_behind.ensures.only c.in-Some-end_behind.next c.in_ok-write_behind.ensures.ok
      (c.as_slice.ensures.value ∙ same)
      (subst (λ l. length l < 2 ^ 32) (sym c.as_slice.ensures.value) (rw c.in-Some.is at c.in_ok-bytes.ensures.short))
      (page_ends_at c.args.told.next c.in-Some-end_behind.next.next c.len.result (journal_of keeps.remembers.standing)
      c.in-Some-end_behind.ensures.count
      (c.len.ensures ∙ c.in-Some.bytes.ok.0) same)
      (search (rules, arith))
      (counts_on _ _ keeps.remembers.standing _ (sym (ap (λ x. x.before) told)) c.in-Some-end_behind.ensures.before
      (is.events ∙ sym (ap (λ x. x.events) info_is))),
)

pub returns-in_default-clause-any_moment : goal.returns-in_default-clause-any_moment
returns-in_default-clause-any_moment g c = λ honest start deeds desktop keeps told.
    read_moments g.D.Disk keeps honest (c.shows_what_crashes_leave.ensures.quiet keeps.usable honest)
    c.page_read.new.store c.page_read.ensures.looks.disk

pub returns-in_default-clause-none : goal.returns-in_default-clause-none
returns-in_default-clause-none g c =
    let usable = usable_of c.args.store.now.must_reopen c.info.ensures.reopen c.in_ok-info.was in
    still_left g.D.Disk (still_none g.D.Disk c.args.store.now usable) c.page_read.ensures.looks
    c.page_read.ensures.usable

pub returns-in_err-info-clause-moments : goal.returns-in_err-info-clause-moments
returns-in_err-info-clause-moments g c = desktop_spared g.D.Disk STORE_SECTORS 0
    c.args.store.now c.args.store.now (omega arith) c.shows_what_crashes_leave.ensures.durable
    (spared_none g.D.Disk STORE_SECTORS 0 c.shows_what_crashes_leave.ensures.quiet)

pub returns-in_err-bytes-clause-moments : goal.returns-in_err-bytes-clause-moments
returns-in_err-bytes-clause-moments g c = desktop_spared g.D.Disk STORE_SECTORS 0
    c.args.store.now c.page_read.new.store (omega arith) c.shows_what_crashes_leave.ensures.durable
    (spared_read g.D.Disk STORE_SECTORS 0 c.page_read.ensures.looks.disk c.shows_what_crashes_leave.ensures.quiet)

pub returns-in_default-clause-moments : goal.returns-in_default-clause-moments
returns-in_default-clause-moments g c = desktop_spared g.D.Disk STORE_SECTORS 0
    c.args.store.now c.page_read.new.store (omega arith) c.shows_what_crashes_leave.ensures.durable
    (spared_read g.D.Disk STORE_SECTORS 0 c.page_read.ensures.looks.disk c.shows_what_crashes_leave.ensures.quiet)

pub returns-in_default-end_behind-clause-moments : goal.returns-in_default-end_behind-clause-moments
returns-in_default-end_behind-clause-moments g c = desktop_spared g.D.Disk STORE_SECTORS 0
    c.args.store.now c.page_read.new.store (omega arith) c.shows_what_crashes_leave.ensures.durable
    (spared_read g.D.Disk STORE_SECTORS 0 c.page_read.ensures.looks.disk c.shows_what_crashes_leave.ensures.quiet)

pub returns-in_err-write_behind-clause-moments : goal.returns-in_err-write_behind-clause-moments
returns-in_err-write_behind-clause-moments g c =
    let d = g.D.Disk in
    let base = c.args.told.next in
    let limit = c.in-Some-end_behind.next.next - c.args.told.next in
    let usable = usable_of c.args.store.now.must_reopen c.info.ensures.reopen c.in_ok-info.was in
    let run = c.page_read.ensures.looks.disk in
    desktop_spared d base limit c.args.store.now c.write_behind.new.self c.in-Some-end_behind.ensures.behind
    c.shows_what_crashes_leave.ensures.durable
    (spared_then d base limit {mid = c.page_read.new.store} c.write_behind.new.self run.device
    (c.page_read.ensures.usable ∙ usable)
    (spared_read d base limit run c.shows_what_crashes_leave.ensures.quiet)
    (spared_write d base limit _ _ (omega arith) (omega arith)
    c.write_behind.ensures.only c.shows_what_crashes_leave-2.ensures.quiet))

pub returns-clause-moments : goal.returns-clause-moments
returns-clause-moments g c =
    let d = g.D.Disk in
    let base = c.args.told.next in
    let limit = c.in-Some-end_behind.next.next - c.args.told.next in
    let usable = usable_of c.args.store.now.must_reopen c.info.ensures.reopen c.in_ok-info.was in
    let run = c.page_read.ensures.looks.disk in
    desktop_spared d base limit c.args.store.now c.write_behind.new.self c.in-Some-end_behind.ensures.behind
    c.shows_what_crashes_leave.ensures.durable
    (spared_then d base limit {mid = c.page_read.new.store} c.write_behind.new.self run.device
    (c.page_read.ensures.usable ∙ usable)
    (spared_read d base limit run c.shows_what_crashes_leave.ensures.quiet)
    (spared_write d base limit _ _ (omega arith) (omega arith)
    c.write_behind.ensures.only c.shows_what_crashes_leave-2.ensures.quiet))

pub returns-in_default-end_behind-clause-full : goal.returns-in_default-end_behind-clause-full
returns-in_default-end_behind-clause-full g c = λ honest start deeds desktop keeps told room.
    let same = (rw c.in-Some.is at c.in_ok-bytes.ensures.page) honest keeps.remembers.standing
    keeps.remembers.past.stands in
    let is = shown_as (now (g.D.Disk.trail c.args.store.now.disk)) keeps.remembers.standing c.standing_law.ensures
    (c.info.ensures.durable keeps.usable honest) keeps.remembers.past.stands in
    let info_is = ap (ok_of c.in_ok-info.info) (sym c.in_ok-info.was ∙ c.info.ensures.value keeps.usable) in
    let len = c.len.ensures ∙ c.in-Some.bytes.ok.0 in
    let short = (rw c.in-Some.is at c.in_ok-bytes.ensures.short) in
    let next = ap (λ (x : PastEnd). x.next) told in
    let before = ap (λ (x : PastEnd). x.before) told in
    let ends = page_ends_at c.args.told.next (c.args.told.next + (last_sector c.len.result + 1)) c.len.result
    (journal_of keeps.remembers.standing) refl len same in
    let count = is.events ∙ sym (ap (λ x. x.events) info_is) in
    c.in_default-end_behind.ensures.none
    (omega (arith, short, len))
    (omega (arith, behind_start g.D.Disk keeps, keeps.behind, next))
    (omega (
      arith,
      ends,
      room.page,
      room.inside,
      next,
      c.min-end.ensures,
      c.sectors.ensures,
      c.page_read.ensures.looks.disk.device.as_large,
    ))
    (omega (arith, room.few, before, count))

pub returns-in_err-info-clause-device : goal.returns-in_err-info-clause-device
returns-in_err-info-clause-device g c =
    uses_only g.D.Disk (search rules) (only_none g.D.Disk c.shows_what_crashes_leave.ensures.quiet)

pub returns-in_err-bytes-clause-device : goal.returns-in_err-bytes-clause-device
returns-in_err-bytes-clause-device g c = uses_only g.D.Disk (search rules)
    (only_read g.D.Disk c.page_read.ensures.looks.disk c.shows_what_crashes_leave.ensures.quiet)

pub returns-in_default-clause-device : goal.returns-in_default-clause-device
returns-in_default-clause-device g c = uses_only g.D.Disk (search rules)
    (only_read g.D.Disk c.page_read.ensures.looks.disk c.shows_what_crashes_leave.ensures.quiet)

pub returns-in_default-end_behind-clause-device : goal.returns-in_default-end_behind-clause-device
returns-in_default-end_behind-clause-device g c = uses_only g.D.Disk (search rules)
    (only_read g.D.Disk c.page_read.ensures.looks.disk c.shows_what_crashes_leave.ensures.quiet)

pub returns-in_err-write_behind-clause-device : goal.returns-in_err-write_behind-clause-device
returns-in_err-write_behind-clause-device g c =
    let d = g.D.Disk in
    let more = c.in-Some-end_behind.ensures.later in
    let room = c.in-Some-end_behind.ensures.room in
    uses_only d (search rules) (only_behind_read d {mid = c.page_read.new.store} c.write_behind.new.self
    c.page_read.ensures.looks.disk
    c.shows_what_crashes_leave.ensures.quiet (λ usable. c.page_read.ensures.usable ∙ usable)
    (only_there d _ _ (λ next n there. (there.0, omega (arith, there.1, more, room, c.min-end.ensures)))
    c.write_behind.ensures.only c.shows_what_crashes_leave-2.ensures.quiet))

pub returns-clause-device : goal.returns-clause-device
returns-clause-device g c =
    let d = g.D.Disk in
    let more = c.in-Some-end_behind.ensures.later in
    let room = c.in-Some-end_behind.ensures.room in
    uses_only d (search rules) (only_behind_read d {mid = c.page_read.new.store} c.write_behind.new.self
    c.page_read.ensures.looks.disk
    c.shows_what_crashes_leave.ensures.quiet (λ usable. c.page_read.ensures.usable ∙ usable)
    (only_there d _ _ (λ next n there. (there.0, omega (arith, there.1, more, room, c.min-end.ensures)))
    c.write_behind.ensures.only c.shows_what_crashes_leave-2.ensures.quiet))
