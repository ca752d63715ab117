use Rattle.std.specs.Prelude.{Err}
use Rattle.std.proofs.lemmas.Result.{err_from_is_err_and}
use Rattle.std.proofs.Common.{◌≡◌, ◌+◌, ◌*◌, ◌∙◌, ap, arith, length, refl, sym}
use Rattle.sector_disk.specs.Trail.{now}
use Rattle.sector_disk.specs.Stored.{stored}
use Rattle.sector_disk.specs.declared.disk.TheConstants.{SECTOR_BYTES}
use Rattle.past_pages.proofs.Failing.{error_from, none_failed}
use Rattle.past_pages.proofs.PageReads.{count_is, kind_is, sectors_are, spelled_there, version_is}
use Rattle.past_pages.proofs.StillReads.{still_both, still_reads}
use Rattle.past_pages.proofs.pages.page_at.Goals as goal

pub split_at-requires : goal.split_at-requires
split_at-requires g c = let long = ap length c.as_slice.ensures.value in omega (arith, long, c.in_ok-first.ensures.long)

pub split_at-requires-2 : goal.split_at-requires-2
split_at-requires-2 g c =
    let long = ap length c.as_slice-2.ensures.value in
    omega (arith, long, c.in_ok-bytes.ensures.long, c.in-Some-sectors_for.ensures.count)

pub returns-in_default-clause-found : goal.returns-in_default-clause-found
returns-in_default-clause-found g c = λ honest p page.
    let at = (now (g.D.Disk.trail c.args.store.now.disk)).reads in
    let read = c.as_slice.ensures.value ∙ c.in_ok-first.ensures.bytes honest in
    c.in_default.ensures.none
    (version_is at c.args.at p page.held page.good _ _ c.split_at.ensures.front read)

pub returns-then-sectors-end-clause-found : goal.returns-then-sectors-end-clause-found
returns-then-sectors-end-clause-found g c = λ honest p page.
    let at = (now (g.D.Disk.trail c.args.store.now.disk)).reads in
    let read = c.as_slice.ensures.value ∙ c.in_ok-first.ensures.bytes honest in
    let are = sectors_are at c.args.at p page.held page.good _ _ c.split_at.ensures.front read c.in-Some.front.spelled
    c.in-Some-sectors_for.sectors c.in-Some.ensures.spelled c.in-Some-sectors_for.ensures.count in
    omega (arith, are, page.within, c.if-sectors-end.true)

pub returns-in_err-bytes-clause-still : goal.returns-in_err-bytes-clause-still
returns-in_err-bytes-clause-still g c = still_both g.D.Disk c.bytes_at.ensures.still c.bytes_at-2.ensures.still

pub returns-in_err-deeds-clause-still : goal.returns-in_err-deeds-clause-still
returns-in_err-deeds-clause-still g c = still_both g.D.Disk c.bytes_at.ensures.still c.bytes_at-2.ensures.still

pub returns-in_default-2-clause-still : goal.returns-in_default-2-clause-still
returns-in_default-2-clause-still g c = still_both g.D.Disk c.bytes_at.ensures.still c.bytes_at-2.ensures.still

pub returns-clause-still : goal.returns-clause-still
returns-clause-still g c = still_both g.D.Disk c.bytes_at.ensures.still c.bytes_at-2.ensures.still

pub returns-in_default-2-clause-found : goal.returns-in_default-2-clause-found
returns-in_default-2-clause-found g c = λ honest p page.
    let d = g.D.Disk in
    let at = (now (d.trail c.args.store.now.disk)).reads in
    let read = c.as_slice.ensures.value ∙ c.in_ok-first.ensures.bytes honest in
    let still = c.bytes_at.ensures.still in
    let same = still_reads d still (c.shows_what_crashes_leave.ensures.quiet c.requires.usable honest) honest in
    let are = sectors_are at c.args.at p page.held page.good _ _ c.split_at.ensures.front read c.in-Some.front.spelled
    c.in-Some-sectors_for.sectors c.in-Some.ensures.spelled c.in-Some-sectors_for.ensures.count in
    (rw c.in_default-2.is at c.in_ok-deeds.ensures) p _
    (kind_is at c.args.at p page.held page.good _ _ c.split_at.ensures.front read c.in-Some.front.kind
    c.in-Some.ensures.kind)
    (count_is at c.args.at p page.held page.good _ _ c.split_at.ensures.front read c.in-Some.front.count
    c.in-Some.ensures.count) page.good.valid
    (spelled_there at c.args.at p page.held page.good _ _ c.in-Some-sectors_for.sectors are
    (c.as_slice-2.ensures.value ∙ c.in_ok-bytes.ensures.bytes (still.left.disk.device.still honest)
    ∙ ap (λ r. stored r c.args.at (SECTOR_BYTES * c.in-Some-sectors_for.sectors)) same)
    c.split_at-2.ensures.back)

pub returns-clause-found : goal.returns-clause-found
returns-clause-found g c = λ honest p page.
    let d = g.D.Disk in
    let at = (now (d.trail c.args.store.now.disk)).reads in
    let read = c.as_slice.ensures.value ∙ c.in_ok-first.ensures.bytes honest in
    let still = c.bytes_at.ensures.still in
    let same = still_reads d still (c.shows_what_crashes_leave.ensures.quiet c.requires.usable honest) honest in
    let are = sectors_are at c.args.at p page.held page.good _ _ c.split_at.ensures.front read c.in-Some.front.spelled
    c.in-Some-sectors_for.sectors c.in-Some.ensures.spelled c.in-Some-sectors_for.ensures.count in (
      (rw c.in-Some-2.is at c.in_ok-deeds.ensures) p _
          (kind_is at c.args.at p page.held page.good _ _ c.split_at.ensures.front read c.in-Some.front.kind
          c.in-Some.ensures.kind)
          (count_is at c.args.at p page.held page.good _ _ c.split_at.ensures.front read c.in-Some.front.count
          c.in-Some.ensures.count) page.good.valid
          (spelled_there at c.args.at p page.held page.good _ _ c.in-Some-sectors_for.sectors are
          (c.as_slice-2.ensures.value ∙ c.in_ok-bytes.ensures.bytes (still.left.disk.device.still honest)
          ∙ ap (λ r. stored r c.args.at (SECTOR_BYTES * c.in-Some-sectors_for.sectors)) same)
          c.split_at-2.ensures.back),
      ap (λ n. c.args.at + n) are,
    )

pub returns-in_err-bytes-clause-faults : goal.returns-in_err-bytes-clause-faults
returns-in_err-bytes-clause-faults g c =
    let p = err_from_is_err_and c.from_residual-in_err-bytes.result c.from_residual-in_err-bytes.ensures.1 in
    let failed : c.bytes_at-2.result ≡ Err p.0 = cc (p.1, p.2, c.in_err-bytes.was) in
    error_from c.bytes_at-2.ensures.faults (λ e named. named) (none_failed c.in_ok-first.ensures.faults) failed p.1
