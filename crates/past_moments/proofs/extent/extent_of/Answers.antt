use Rattle.std.proofs.Common.{◌≡◌, ◌∙◌, ◌+◌, ap, arith, subst, sym}
use Rattle.sector_disk.specs.Trail.{now}
use Rattle.store_layout.specs.declared.head.PastEnd.{PastEnd}
use Rattle.store_layout.specs.declared.layout.TheConstants.{STORE_SECTORS}
use Rattle.past_pages.specs.Parts.{IsPastPart}
use Rattle.past_pages.proofs.StillReads.{still_both, still_left, still_looked, still_none, still_reads, still_shows}
use Rattle.past_pages.proofs.Told.{ok_of, shown_as}
use Rattle.desk_past.specs.Past.{first_page}
use Rattle.desk_past.proofs.Rooms.{behind_start}
use Rattle.past_moments.specs.Moments.{IsExtentOf}
use Rattle.past_moments.proofs.Counting.{all_of, extent_is, journal_is, pages_then}
use Rattle.past_moments.proofs.extent.extent_of.Goals as goal

pub returns-in_err-told-clause-still : goal.returns-in_err-told-clause-still
returns-in_err-told-clause-still g c =
    still_looked g.D.Disk c.past.result (still_none g.D.Disk c.args.store.now c.requires) c.past.ensures.looks

pub returns-in_default-clause-still : goal.returns-in_default-clause-still
returns-in_default-clause-still g c =
    still_looked g.D.Disk c.past.result (still_none g.D.Disk c.args.store.now c.requires) c.past.ensures.looks

pub returns-in_default-checked_add-clause-still : goal.returns-in_default-checked_add-clause-still
returns-in_default-checked_add-clause-still g c =
    still_looked g.D.Disk c.past.result (still_none g.D.Disk c.args.store.now c.requires) c.past.ensures.looks

pub returns-in_err-count-clause-still : goal.returns-in_err-count-clause-still
returns-in_err-count-clause-still g c = still_both g.D.Disk
    (still_looked g.D.Disk c.past.result (still_none g.D.Disk c.args.store.now c.requires) c.past.ensures.looks)
    c.count_pages.ensures.still

pub returns-in_default-2-clause-still : goal.returns-in_default-2-clause-still
returns-in_default-2-clause-still g c = still_both g.D.Disk
    (still_looked g.D.Disk c.past.result (still_none g.D.Disk c.args.store.now c.requires) c.past.ensures.looks)
    c.count_pages.ensures.still

pub returns-in_err-info-clause-still : goal.returns-in_err-info-clause-still
returns-in_err-info-clause-still g c = still_both g.D.Disk
    (still_looked g.D.Disk c.past.result (still_none g.D.Disk c.args.store.now c.requires) c.past.ensures.looks)
    c.count_pages.ensures.still

pub returns-in_err-events-clause-still : goal.returns-in_err-events-clause-still
returns-in_err-events-clause-still g c = still_left g.D.Disk (still_both g.D.Disk
    (still_looked g.D.Disk c.past.result (still_none g.D.Disk c.args.store.now c.requires) c.past.ensures.looks)
    c.count_pages.ensures.still) c.history.ensures.looks c.history.ensures.usable

pub returns-in_err-with_journal-clause-still : goal.returns-in_err-with_journal-clause-still
returns-in_err-with_journal-clause-still g c = still_left g.D.Disk (still_both g.D.Disk
    (still_looked g.D.Disk c.past.result (still_none g.D.Disk c.args.store.now c.requires) c.past.ensures.looks)
    c.count_pages.ensures.still) c.history.ensures.looks c.history.ensures.usable

pub returns-clause-still : goal.returns-clause-still
returns-clause-still g c = still_left g.D.Disk (still_both g.D.Disk
    (still_looked g.D.Disk c.past.result (still_none g.D.Disk c.args.store.now c.requires) c.past.ensures.looks)
    c.count_pages.ensures.still) c.history.ensures.looks c.history.ensures.usable

pub returns-clause-is : goal.returns-clause-is
returns-clause-is g c =
    all_of _ (λ extent. IsExtentOf g.D.Disk extent c.args.store.now) c.in_ok-with_journal.ensures.base c.in_ok-with_journal.ensures.end c.in_ok-with_journal.ensures.first
    c.in_ok-with_journal.ensures.before c.in_ok-with_journal.ensures.journal
    (λ extent base end first_is before journal. λ past lies.
    let d = g.D.Disk in
    let s = past.keeps.remembers.standing in
    let r = past.keeps.remembers.past in
    let first = still_looked d c.past.result (still_none d c.args.store.now c.requires) c.past.ensures.looks in
    let quiet = c.shows_what_crashes_leave.ensures.quiet c.requires past.honest in
    let told = c.in_ok-told.ensures.told past.honest s r.stands in
    let next = ap (λ (x : PastEnd). x.next) told in
    let part = subst (λ n. IsPastPart n past.start.base lies.end)
    (sym (c.sectors.ensures ∙ first.left.disk.device.as_large)) lies.part in
    let found = c.in-Some.ensures.all past.start.base lies.end part
    (omega (arith, behind_start d past.keeps, next)) (omega (arith, lies.within, next)) in
    let at : c.in-Some-checked_add.first ≡ first_page past.start =
    c.in-Some-checked_add.ensures.1 ∙ ap (λ n. n + STORE_SECTORS) found.0 in
    let mid = first.left.disk.device.still past.honest in
    let pages = pages_then d past (now (d.trail c.past.new.self.disk)).reads c.in-Some-checked_add.first c.in_ok-told.told.next
    (still_reads d first quiet past.honest) at next in
    let count = (rw c.in-Some-2.is at c.in_ok-count.ensures.whole) mid past.keeps.remembers.pages pages.0 r.good
    pages.1 (omega (arith, r.room, next, first.left.disk.device.as_large)) in
    let second = still_both d first c.count_pages.ensures.still in
    let later = second.left.disk.device.still past.honest in
    let shows = still_shows d second quiet past.honest s r.stands in
    let is = shown_as (now (d.trail c.count_pages.new.store.disk)) s c.standing_law.ensures
    (c.info.ensures.durable second.usable later) shows in
    let info_is = ap (ok_of c.in_ok-info.info) (sym c.in_ok-info.was ∙ c.info.ensures.value second.usable) in
    let many = is.events ∙ sym (ap (λ x. x.events) info_is) in
    extent_is d past extent c.in_ok-told.told c.in-Some.part.base c.in-Some-2.count told base found.0 count end
    first_is before.0 before.1 (journal ∙ journal_is c.in_ok-info.info.events (c.in_ok-events.ensures.events later s shows) many))
