use Rattle.std.proofs.Common.{◌+◌, ◌<◌, ◌∙◌, ℕ, arith, ap, subst}
use Rattle.sector_disk.specs.Trail.{now}
use Rattle.past_pages.proofs.StillReads.{still_both, still_reads}
use Rattle.desk_past.proofs.Opened.{copied_stands}
use Rattle.former_stores.specs.Laying.{IsLaid}
use Rattle.former_stores.proofs.Laid.{both_some, found_under, laid_as}
use Rattle.former_stores.proofs.laying.laid.Goals as goal

-- the sectors of the start, and those behind

pub returns-clause-found : goal.returns-clause-found
returns-clause-found g c =
    let d = g.D.Disk in
    let e = g.E.Disk in
    let first = c.in_ok-copy_sectors.ensures in
    let second = c.in_ok-copy_sectors-2.ensures in
    let one = c.copy_sectors.ensures in
    let two = c.copy_sectors-2.ensures in
    let reads = (now (d.trail c.args.store.now.disk)).reads in
    let behind = c.requires.pages.behind in
    let room = c.requires.blank.0.room in
    let same = λ (honest : d.honest c.args.store.now.disk). still_reads d one.still
    (c.shows_what_crashes_leave.ensures.quiet c.requires.usable honest) honest in
    let pages = λ (honest : d.honest c.args.store.now.disk) (other : e.honest c.args.disk) (k : ℕ) (low : k < c.args.count).
    second.copied (one.still.left.disk.device.still honest) (one.device.still other) k low
    ∙ ap (λ r. r (c.args.from + k)) (same honest) in
    found_under c.opened.result (both_some _ _ c.opened.result c.opened.ensures.ok c.opened.ensures.untouched) c.opened.ensures.none
    (λ shown honest other is. subst (λ n. IsLaid e reads c.args.base c.args.from c.args.count n shown)
    (two.device.as_large ∙ one.device.as_large)
    (laid_as e c.standing_law.ensures reads (now (e.trail c.copy_sectors.new.disk)).reads c.args.base c.args.from c.args.count
    c.copy_sectors-2.new.disk shown behind (omega (arith, room, one.device.as_large, two.device.as_large))
    (two.device.still (one.device.still other)) (first.copied honest other) (pages honest other)
    (second.others (one.device.still other)) is.0 is.1))
    (λ honest other none t at. none (two.device.still (one.device.still other)) t
    (copied_stands e (λ n. reads (c.args.base + n)) t at (omega (arith, room, one.device.as_large, two.device.as_large))
    (λ n low. second.others (one.device.still other) n (λ within. omega (arith, within.0, low, behind))
    ∙ ap (now (e.trail c.copy_sectors.new.disk)).reads (omega arith) ∙ first.copied honest other n low)))

pub returns-in_err-copy_sectors-2-clause-still : goal.returns-in_err-copy_sectors-2-clause-still
returns-in_err-copy_sectors-2-clause-still g c =
    still_both g.D.Disk c.copy_sectors.ensures.still c.copy_sectors-2.ensures.still

pub returns-clause-still : goal.returns-clause-still
returns-clause-still g c = still_both g.D.Disk c.copy_sectors.ensures.still c.copy_sectors-2.ensures.still
