use Rattle.std.proofs.Common.{◌≡◌, ◌+◌, ◌*◌, ◌≤◌, ◌∙◌, ap, arith, length, subst, sym}
use Rattle.std.proofs.lemmas.List.{length-replicate}
use Rattle.sector_disk.specs.declared.disk.TheConstants.{SECTOR_BYTES}
use Rattle.sector_disk.specs.Trail.{now}
use Rattle.past_pages.proofs.StillReads.{still_reads}
use Rattle.past_pages.specs.Sectors.{AreBlank}
use Rattle.desk_past.proofs.Begun.{aside_both, aside_read, aside_written, spared_none, spared_read, spared_then, spared_write}
use Rattle.desk_past.proofs.Forgotten.{blank_held}
use Rattle.desk_past.proofs.forgetting.blank_some.Goals as goal

pub write_behind-requires : goal.write_behind-requires
write_behind-requires g c =
    let long = ap length (c.as_slice.ensures.value ∙ c.in_ok-zeros.ensures)
    ∙ length-replicate (c.args.count * SECTOR_BYTES) 0 in
    record {
      behind = c.requires.behind;
      some = c.requires.some.0;
      numbered = c.requires.room.0;
      room = omega (arith, c.requires.room.1, c.is_blank.ensures.still.left.disk.device.as_large);
      fits = omega (arith, long);
    }

-- ---- they have zeros already

pub returns-in_err-is_blank-clause-only : goal.returns-in_err-is_blank-clause-only
returns-in_err-is_blank-clause-only g c = spared_read g.D.Disk c.args.from c.args.count
    c.is_blank.ensures.still.left.disk c.shows_what_crashes_leave.ensures.quiet

pub returns-then-branch-clause-only : goal.returns-then-branch-clause-only
returns-then-branch-clause-only g c = spared_read g.D.Disk c.args.from c.args.count
    c.is_blank.ensures.still.left.disk c.shows_what_crashes_leave.ensures.quiet

pub returns-then-branch-clause-aside : goal.returns-then-branch-clause-aside
returns-then-branch-clause-aside g c = aside_read g.D.Disk c.is_blank.ensures.still

pub returns-then-branch-clause-blank : goal.returns-then-branch-clause-blank
returns-then-branch-clause-blank g c = λ honest.
    let d = g.D.Disk in
    let still = c.is_blank.ensures.still in
    subst (λ r. AreBlank c.args.from c.args.count r)
    (sym (still_reads d still (c.shows_what_crashes_leave.ensures.quiet c.requires.usable honest) honest))
    (c.in_ok-is_blank.ensures.blank c.if-branch.true honest)

-- ---- they are overwritten

pub returns-in_err-zeros-clause-only : goal.returns-in_err-zeros-clause-only
returns-in_err-zeros-clause-only g c = spared_read g.D.Disk c.args.from c.args.count
    c.is_blank.ensures.still.left.disk c.shows_what_crashes_leave.ensures.quiet

pub returns-in_err-write_behind-clause-only : goal.returns-in_err-write_behind-clause-only
returns-in_err-write_behind-clause-only g c =
    let d = g.D.Disk in
    let still = c.is_blank.ensures.still in
    spared_then d c.args.from c.args.count {mid = c.is_blank.new.store} c.write_behind.new.self still.left.disk.device
    still.usable (spared_read d c.args.from c.args.count still.left.disk c.shows_what_crashes_leave.ensures.quiet)
    (spared_write d c.args.from c.args.count c.args.from c.args.count (omega arith) (omega arith)
    c.write_behind.ensures.only
    c.shows_what_crashes_leave-2.ensures.quiet)

pub returns-clause-only : goal.returns-clause-only
returns-clause-only g c =
    let d = g.D.Disk in
    let still = c.is_blank.ensures.still in
    spared_then d c.args.from c.args.count {mid = c.is_blank.new.store} c.write_behind.new.self still.left.disk.device
    still.usable (spared_read d c.args.from c.args.count still.left.disk c.shows_what_crashes_leave.ensures.quiet)
    (spared_write d c.args.from c.args.count c.args.from c.args.count (omega arith) (omega arith)
    c.write_behind.ensures.only
    c.shows_what_crashes_leave-2.ensures.quiet)

pub returns-clause-aside : goal.returns-clause-aside
returns-clause-aside g c = let still = c.is_blank.ensures.still in
    aside_both g.D.Disk still.left.disk.device (aside_read g.D.Disk still)
    (aside_written g.D.Disk c.in_ok-write_behind.ensures.ok)

pub returns-clause-blank : goal.returns-clause-blank
returns-clause-blank g c = λ honest. blank_held c.args.from c.args.count
    (now (g.D.Disk.trail c.write_behind.new.self.disk)).reads _
    (c.as_slice.ensures.value ∙ c.in_ok-zeros.ensures)
    (c.in_ok-write_behind.ensures.ok.held (c.is_blank.ensures.still.left.disk.device.still honest))
