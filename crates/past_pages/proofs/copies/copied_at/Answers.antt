use Rattle.std.specs.Prelude.{Err}
use Rattle.std.proofs.Common.{◌≡◌, ◌+◌, ◌*◌, ◌∙◌, ap, arith, drop, length, refl, sym}
use Rattle.std.proofs.lemmas.Result.{err_from_is_err_and}
use Rattle.sector_disk.specs.Trail.{now}
use Rattle.sector_disk.specs.Stored.{stored}
use Rattle.sector_disk.specs.declared.disk.TheConstants.{SECTOR_BYTES}
use Rattle.past_pages.specs.Page.{of_copy, page_bytes}
use Rattle.past_pages.proofs.CopyReads.{not_copy}
use Rattle.past_pages.proofs.PageReads.{count_is, kind_is, sectors_are, spelled_there, version_is}
use Rattle.past_pages.proofs.StillReads.{still_both, still_reads}
use Rattle.past_pages.proofs.copies.copied_at.Goals as goal

pub returns-in_default-clause-found : goal.returns-in_default-clause-found
returns-in_default-clause-found g c = λ honest to has.
    let at = (now (g.D.Disk.trail c.args.store.now.disk)).reads in
    let read = c.as_slice.ensures.value ∙ c.in_ok-first.ensures.bytes honest in
    c.in_default.ensures.none
    (version_is at c.args.at (of_copy has.version has.far has.sectors to) has.page.held has.page.good _ _
    c.split_at.ensures.front read)

pub returns-then-front-ne-FAR_PAGE-clause-found : goal.returns-then-front-ne-FAR_PAGE-clause-found
returns-then-front-ne-FAR_PAGE-clause-found g c = λ honest to has.
    let at = (now (g.D.Disk.trail c.args.store.now.disk)).reads in
    let read = c.as_slice.ensures.value ∙ c.in_ok-first.ensures.bytes honest in
    not_copy has.far
    (kind_is at c.args.at (of_copy has.version has.far has.sectors to) has.page.held has.page.good _ _
    c.split_at.ensures.front read c.in-Some.front.kind c.in-Some.ensures.kind)
    c.if-front-ne-MARK_PAGE.true c.if-front-ne-FAR_PAGE.true

pub returns-then-sectors-end-clause-found : goal.returns-then-sectors-end-clause-found
returns-then-sectors-end-clause-found g c = λ honest to has.
    let at = (now (g.D.Disk.trail c.args.store.now.disk)).reads in
    let read = c.as_slice.ensures.value ∙ c.in_ok-first.ensures.bytes honest in
    let are = sectors_are at c.args.at (of_copy has.version has.far has.sectors to) has.page.held has.page.good _ _
    c.split_at.ensures.front read c.in-Some.front.spelled
    c.in-Some-sectors_for.sectors c.in-Some.ensures.spelled c.in-Some-sectors_for.ensures.count in
    omega (arith, are, has.page.within, c.if-sectors-end.true)

pub returns-in_err-bytes-clause-still : goal.returns-in_err-bytes-clause-still
returns-in_err-bytes-clause-still g c = still_both g.D.Disk c.bytes_at.ensures.still c.bytes_at-2.ensures.still

pub returns-clause-still : goal.returns-clause-still
returns-clause-still g c = still_both g.D.Disk c.bytes_at.ensures.still c.bytes_at-2.ensures.still

pub returns-clause-found : goal.returns-clause-found
returns-clause-found g c = λ honest to has.
    let d = g.D.Disk in
    let p = of_copy has.version has.far has.sectors to in
    let at = (now (d.trail c.args.store.now.disk)).reads in
    let read = c.as_slice.ensures.value ∙ c.in_ok-first.ensures.bytes honest in
    let still = c.bytes_at.ensures.still in
    let same = still_reads d still (c.shows_what_crashes_leave.ensures.quiet c.requires.usable honest) honest in
    let are = sectors_are at c.args.at p has.page.held has.page.good _ _ c.split_at.ensures.front read
    c.in-Some.front.spelled
    c.in-Some-sectors_for.sectors c.in-Some.ensures.spelled c.in-Some-sectors_for.ensures.count in (
      count_is at c.args.at p has.page.held has.page.good _ _ c.split_at.ensures.front read c.in-Some.front.count
          c.in-Some.ensures.count,
      (
        drop (length (page_bytes p)) (stored at c.args.at (SECTOR_BYTES * c.in-Some-sectors_for.sectors)),
        spelled_there at c.args.at p has.page.held has.page.good c.in_ok-bytes.bytes.items
            (drop 16 c.in_ok-bytes.bytes.items)
            c.in-Some-sectors_for.sectors are
            (c.in_ok-bytes.ensures.bytes (still.left.disk.device.still honest)
            ∙ ap (λ r. stored r c.args.at (SECTOR_BYTES * c.in-Some-sectors_for.sectors)) same) refl,
      ),
    )
