use Rattle.std.proofs.Common.{◌^◌, ◌<◌, ◌∙◌, ap, arith, length, subst, sym}
use Rattle.sector_disk.specs.Trail.{now}
use Rattle.store_layout.specs.declared.head.PastEnd.{PastEnd}
use Rattle.past_pages.specs.Parts.{IsPastPart}
use Rattle.past_pages.proofs.StillReads.{still_left, still_looked, still_none, still_shows}
use Rattle.past_pages.proofs.Told.{ok_of, shown_as}
use Rattle.desk_past.proofs.Brought.{few_ahead, page_few, is_ahead, room_ahead}
use Rattle.desk_past.proofs.Rooms.{behind_start}
use Rattle.desk_past.proofs.Sparing.{in_part}
use Rattle.desk_past.proofs.ahead.page_ahead.Goals as goal

pub returns-in_err-told-clause-still : goal.returns-in_err-told-clause-still
returns-in_err-told-clause-still g c =
    still_looked g.D.Disk c.past.result (still_none g.D.Disk c.args.store.now c.requires) c.past.ensures.looks

pub returns-in_default-clause-still : goal.returns-in_default-clause-still
returns-in_default-clause-still g c =
    still_looked g.D.Disk c.past.result (still_none g.D.Disk c.args.store.now c.requires) c.past.ensures.looks

pub returns-in_err-info-clause-still : goal.returns-in_err-info-clause-still
returns-in_err-info-clause-still g c =
    still_looked g.D.Disk c.past.result (still_none g.D.Disk c.args.store.now c.requires) c.past.ensures.looks

pub returns-in_err-journal-clause-still : goal.returns-in_err-journal-clause-still
returns-in_err-journal-clause-still g c = still_left g.D.Disk
    (still_looked g.D.Disk c.past.result (still_none g.D.Disk c.args.store.now c.requires) c.past.ensures.looks)
    c.page_read.ensures.looks c.page_read.ensures.usable

pub returns-in_default-2-clause-still : goal.returns-in_default-2-clause-still
returns-in_default-2-clause-still g c = still_left g.D.Disk
    (still_looked g.D.Disk c.past.result (still_none g.D.Disk c.args.store.now c.requires) c.past.ensures.looks)
    c.page_read.ensures.looks c.page_read.ensures.usable

pub returns-in_err-ahead-clause-still : goal.returns-in_err-ahead-clause-still
returns-in_err-ahead-clause-still g c = still_left g.D.Disk
    (still_looked g.D.Disk c.past.result (still_none g.D.Disk c.args.store.now c.requires) c.past.ensures.looks)
    c.page_read.ensures.looks c.page_read.ensures.usable

pub returns-in_default-3-clause-still : goal.returns-in_default-3-clause-still
returns-in_default-3-clause-still g c = still_left g.D.Disk
    (still_looked g.D.Disk c.past.result (still_none g.D.Disk c.args.store.now c.requires) c.past.ensures.looks)
    c.page_read.ensures.looks c.page_read.ensures.usable

pub returns-clause-still : goal.returns-clause-still
returns-clause-still g c = still_left g.D.Disk
    (still_looked g.D.Disk c.past.result (still_none g.D.Disk c.args.store.now c.requires) c.past.ensures.looks)
    c.page_read.ensures.looks c.page_read.ensures.usable

pub returns-in_default-clause-none : goal.returns-in_default-clause-none
returns-in_default-clause-none g c = λ honest start deeds desktop p keeps is_page good can.
    let d = g.D.Disk in
    let s = keeps.remembers.standing in
    let first = still_looked d c.past.result (still_none d c.args.store.now c.requires) c.past.ensures.looks in
    let told = c.in_ok-told.ensures.told honest s keeps.remembers.past.stands in
    let next = ap (λ (x : PastEnd). x.next) told in
    let part = subst (λ n. IsPastPart n start.base can.end) (sym (c.sectors.ensures ∙ first.left.disk.device.as_large))
    can.part in
    absurd (c.in_default.ensures.all start.base can.end part
    (omega (arith, behind_start d keeps, next)) (omega (arith, can.room.pages, next)))

pub returns-in_default-2-clause-none : goal.returns-in_default-2-clause-none
returns-in_default-2-clause-none g c = λ honest start deeds desktop p keeps is_page good can.
    (rw c.in_default-2.is at c.in_ok-journal.ensures.none) (c.past.ensures.looks.disk.device.still honest)

pub returns-in_default-3-clause-none : goal.returns-in_default-3-clause-none
returns-in_default-3-clause-none g c = λ honest start deeds desktop p keeps is_page good can.
    let d = g.D.Disk in
    let s = keeps.remembers.standing in
    let first = still_looked d c.past.result (still_none d c.args.store.now c.requires) c.past.ensures.looks in
    let told = c.in_ok-told.ensures.told honest s keeps.remembers.past.stands in
    let next = ap (λ (x : PastEnd). x.next) told in
    let part = subst (λ n. IsPastPart n start.base can.end) (sym (c.sectors.ensures ∙ first.left.disk.device.as_large))
    can.part in
    let mid = first.left.disk.device.still honest in
    let shows = still_shows d first (c.shows_what_crashes_leave.ensures.quiet keeps.usable honest) honest s
    keeps.remembers.past.stands in
    let is = shown_as (now (d.trail c.past.new.self.disk)) s c.standing_law.ensures
    (c.info.ensures.durable first.usable mid) shows in
    let info_is = ap (ok_of c.in_ok-info.info) (sym c.in_ok-info.was ∙ c.info.ensures.value first.usable) in
    let many = is.events ∙ sym (ap (λ x. x.events) info_is) in
    let journal = (rw c.in-Some-2.is at c.in_ok-journal.ensures.page) mid s shows in
    let found = c.in-Some.ensures.all start.base can.end part
    (omega (arith, behind_start d keeps, next)) (omega (arith, can.room.pages, next)) in
    (rw c.in_default-3.is at c.in_ok-ahead.ensures.none)
    (rw c.in-Some-2.is at c.in_ok-journal.ensures.short)
    (subst (λ l. length l < 2 ^ 33) (sym is_page) (page_few p good))
    (omega (arith, behind_start d keeps, keeps.behind, next))
    (room_ahead d keeps p _ c.in_ok-info.info.events _ _ told many journal is_page can _
    (omega (
      arith,
      found.1,
      can.room.inside,
      c.min-end.ensures,
      c.sectors-2.ensures,
      c.page_read.ensures.looks.disk.device.as_large,
      first.left.disk.device.as_large,
    )))
    (few_ahead d keeps p _ c.in_ok-info.info.events _ _ told many journal is_page can)

pub returns-clause-ahead : goal.returns-clause-ahead
returns-clause-ahead g c = λ honest start deeds desktop p keeps is_page good.
    let d = g.D.Disk in
    let s = keeps.remembers.standing in
    let first = still_looked d c.past.result (still_none d c.args.store.now c.requires) c.past.ensures.looks in
    let told = c.in_ok-told.ensures.told honest s keeps.remembers.past.stands in
    let next = ap (λ (x : PastEnd). x.next) told in
    let mid = first.left.disk.device.still honest in
    let shows = still_shows d first (c.shows_what_crashes_leave.ensures.quiet keeps.usable honest) honest s
    keeps.remembers.past.stands in
    let is = shown_as (now (d.trail c.past.new.self.disk)) s c.standing_law.ensures
    (c.info.ensures.durable first.usable mid) shows in
    let info_is = ap (ok_of c.in_ok-info.info) (sym c.in_ok-info.was ∙ c.info.ensures.value first.usable) in
    let many = is.events ∙ sym (ap (λ x. x.events) info_is) in
    let journal = (rw c.in-Some-2.is at c.in_ok-journal.ensures.page) mid s shows in
    let at = rw c.in-Some-3.is at c.in_ok-ahead.ensures in
    is_ahead d keeps p _ c.in_ok-info.info.events _ _ told many journal is_page
    (rw c.in-Some-2.is at c.in_ok-journal.ensures.short) good
    at.bytes at.from.0 at.limit.1
    (omega (
      arith,
      at.limit.2,
      c.min-end.ensures,
      c.sectors-2.ensures,
      c.page_read.ensures.looks.disk.device.as_large,
      first.left.disk.device.as_large,
    ))
    at.next at.before

pub returns-clause-fit : goal.returns-clause-fit
returns-clause-fit g c =
    let at = rw c.in-Some-3.is at c.in_ok-ahead.ensures in
    record {
      behind = at.from.1;
      some = at.limit.0;
      numbered = omega (arith, at.limit.1, at.limit.2, c.min-end.type_inv);
      room = omega (arith, at.limit.1, at.limit.2, c.min-end.ensures, c.sectors-2.ensures);
      fits = at.fits;
    }

pub returns-clause-inside : goal.returns-clause-inside
returns-clause-inside g c = λ honest s shows n there.
    let next = ap (λ (x : PastEnd). x.next) (c.in_ok-told.ensures.told honest s shows) in
    let at = rw c.in-Some-3.is at c.in_ok-ahead.ensures in
    let from = at.from.0 in
    in_part _ _ _ _ _ _ n (c.sectors.ensures ∙ c.past.ensures.looks.disk.device.as_large) c.in-Some.ensures.is
    c.in-Some.ensures.within.0 c.in-Some.ensures.within.1 next
    (omega (arith, there.0, from, next), omega (arith, there.1, at.limit.1, at.limit.2, c.min-end.ensures))
