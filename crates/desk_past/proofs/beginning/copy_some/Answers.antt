use Rattle.std.proofs.Common.{◌≡◌, ◌+◌, ◌*◌, ◌≤◌, ◌∙◌, ap, arith, length}
use Rattle.sector_disk.specs.Trail.{now}
use Rattle.desk_past.proofs.Begun.{aside_both, aside_read, aside_written, device_of, same_both, spared_read, spared_then}
use Rattle.desk_past.proofs.Begun.{spared_write}
use Rattle.desk_past.proofs.Copied.{copied_from}
use Rattle.desk_past.proofs.beginning.copy_some.Goals as goal

pub write_behind-requires : goal.write_behind-requires
write_behind-requires g c =
    let large = c.bytes_at.ensures.still.left.disk.device.as_large in
    let long = ap length c.as_slice.ensures.value in
    record {
      behind = omega (arith, c.requires.start.behind);
      some = c.requires.some;
      numbered = omega (arith, c.requires.start.numbered, c.requires.inside);
      room = omega (arith, c.requires.start.room, c.requires.inside, large);
      fits = omega (arith, long, c.in_ok-bytes.ensures.long);
    }

pub returns-in_err-bytes-clause-only : goal.returns-in_err-bytes-clause-only
returns-in_err-bytes-clause-only g c = spared_read g.D.Disk (c.args.base + c.args.from) c.args.count
    c.bytes_at.ensures.still.left.disk c.shows_what_crashes_leave.ensures.quiet

pub returns-in_err-write_behind-clause-only : goal.returns-in_err-write_behind-clause-only
returns-in_err-write_behind-clause-only g c =
    let d = g.D.Disk in
    let at = c.args.base + c.args.from in
    let still = c.bytes_at.ensures.still in
    spared_then d at c.args.count {mid = c.bytes_at.new.store} c.write_behind.new.self still.left.disk.device
    still.usable
    (spared_read d at c.args.count still.left.disk c.shows_what_crashes_leave.ensures.quiet)
    (spared_write d at c.args.count at c.args.count (omega arith) (omega arith) c.write_behind.ensures.only
    c.shows_what_crashes_leave-2.ensures.quiet)

pub returns-clause-only : goal.returns-clause-only
returns-clause-only g c =
    let d = g.D.Disk in
    let at = c.args.base + c.args.from in
    let still = c.bytes_at.ensures.still in
    spared_then d at c.args.count {mid = c.bytes_at.new.store} c.write_behind.new.self still.left.disk.device
    still.usable
    (spared_read d at c.args.count still.left.disk c.shows_what_crashes_leave.ensures.quiet)
    (spared_write d at c.args.count at c.args.count (omega arith) (omega arith) c.write_behind.ensures.only
    c.shows_what_crashes_leave-2.ensures.quiet)

pub returns-clause-aside : goal.returns-clause-aside
returns-clause-aside g c =
    let still = c.bytes_at.ensures.still in
    aside_both g.D.Disk still.left.disk.device (aside_read g.D.Disk still)
    (aside_written g.D.Disk c.in_ok-write_behind.ensures.ok)

pub returns-clause-copied : goal.returns-clause-copied
returns-clause-copied g c = λ honest.
    let d = g.D.Disk in
    copied_from c.args.base c.args.from c.args.count (now (d.trail c.args.store.now.disk)).reads
    (now (d.trail c.write_behind.new.self.disk)).reads _
    (c.as_slice.ensures.value ∙ c.in_ok-bytes.ensures.bytes honest)
    (c.in_ok-write_behind.ensures.ok.held (c.bytes_at.ensures.still.left.disk.device.still honest))
