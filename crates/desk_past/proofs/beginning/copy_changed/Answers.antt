use Rattle.std.proofs.Common.{◌≡◌, ◌+◌, ◌≤◌, ◌∙◌, ap, arith, refl, sym}
use Rattle.std.specs.Prelude.{get_or}
use Rattle.sector_disk.specs.Trail.{now}
use Rattle.past_pages.proofs.StillReads.{still_reads}
use Rattle.desk_past.proofs.Begun.{aside_both, aside_read, spared_read, spared_then}
use Rattle.desk_past.proofs.Copied.{copies_as}
use Rattle.desk_past.proofs.beginning.copy_changed.Goals as goal

pub is_copied-requires : goal.is_copied-requires
is_copied-requires g c = record {
  usable = c.requires.usable;
  numbered = omega (arith, c.requires.start.numbered, c.requires.inside);
  there = omega (arith, c.requires.start.room, c.requires.inside);
}

pub copy_some-requires-clause-start : goal.copy_some-requires-clause-start
copy_some-requires-clause-start g c = record {
  behind = c.requires.start.behind;
  numbered = c.requires.start.numbered;
  room = omega (arith, c.requires.start.room, c.is_copied.ensures.still.left.disk.device.as_large);
}

pub returns-in_err-is_copied-clause-only : goal.returns-in_err-is_copied-clause-only
returns-in_err-is_copied-clause-only g c = spared_read g.D.Disk (c.args.base + c.args.from) c.args.count
    c.is_copied.ensures.still.left.disk c.shows_what_crashes_leave.ensures.quiet

pub returns-then-branch-clause-only : goal.returns-then-branch-clause-only
returns-then-branch-clause-only g c = spared_read g.D.Disk (c.args.base + c.args.from) c.args.count
    c.is_copied.ensures.still.left.disk c.shows_what_crashes_leave.ensures.quiet

pub returns-then-branch-clause-aside : goal.returns-then-branch-clause-aside
returns-then-branch-clause-aside g c = aside_read g.D.Disk c.is_copied.ensures.still

pub returns-then-branch-clause-copied : goal.returns-then-branch-clause-copied
returns-then-branch-clause-copied g c = λ honest n within j low.
    let d = g.D.Disk in
    let still = c.is_copied.ensures.still in
    let same = still_reads d still (c.shows_what_crashes_leave.ensures.quiet c.requires.usable honest) honest in
    ap (λ l. get_or l j 0) (ap (λ r. r (c.args.base + n)) same
    ∙ c.in_ok-is_copied.ensures.same c.if-branch.true honest n within)

pub returns-in_err-copy_some-clause-only : goal.returns-in_err-copy_some-clause-only
returns-in_err-copy_some-clause-only g c =
    let d = g.D.Disk in
    let at = c.args.base + c.args.from in
    let still = c.is_copied.ensures.still in
    spared_then d at c.args.count {mid = c.is_copied.new.store} c.copy_some.new.store still.left.disk.device
    still.usable
    (spared_read d at c.args.count still.left.disk c.shows_what_crashes_leave.ensures.quiet) c.copy_some.ensures.only

pub returns-clause-only : goal.returns-clause-only
returns-clause-only g c =
    let d = g.D.Disk in
    let at = c.args.base + c.args.from in
    let still = c.is_copied.ensures.still in
    spared_then d at c.args.count {mid = c.is_copied.new.store} c.copy_some.new.store still.left.disk.device
    still.usable
    (spared_read d at c.args.count still.left.disk c.shows_what_crashes_leave.ensures.quiet) c.copy_some.ensures.only

pub returns-clause-aside : goal.returns-clause-aside
returns-clause-aside g c =
    let still = c.is_copied.ensures.still in
    aside_both g.D.Disk still.left.disk.device (aside_read g.D.Disk still) c.in_ok-copy_some.ensures.aside

pub returns-clause-copied : goal.returns-clause-copied
returns-clause-copied g c = λ honest.
    let d = g.D.Disk in
    let still = c.is_copied.ensures.still in
    let same = still_reads d still (c.shows_what_crashes_leave.ensures.quiet c.requires.usable honest) honest in
    let c' = (now (d.trail c.copy_some.new.store.disk)).reads in
    copies_as c.args.base c.args.from c.args.count (now (d.trail c.is_copied.new.store.disk)).reads
    (now (d.trail c.args.store.now.disk)).reads c' c' (λ n within. refl) (λ n within. ap (λ r. r n) (sym same))
    (c.in_ok-copy_some.ensures.copied (still.left.disk.device.still honest))
