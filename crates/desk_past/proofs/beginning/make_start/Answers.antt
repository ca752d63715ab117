use Rattle.std.proofs.Common.{◌≡◌, ◌+◌, ◌≤◌, ◌∙◌, ap, arith, refl, sym}
use Rattle.std.proofs.lemmas.Bool.{false≢true}
use Rattle.sector_disk.specs.Trail.{now}
use Rattle.store_layout.specs.declared.layout.TheConstants.{STORE_SECTORS}
use Rattle.past_pages.proofs.StillReads.{still_reads}
use Rattle.desk_past.proofs.Begun.{aside_both, aside_read, same_both, spares_read, spares_then}
use Rattle.desk_past.proofs.Copied.{copies_as, spared_reads}
use Rattle.desk_past.proofs.beginning.make_start.Goals as goal

pub copy_behind-requires-clause-start : goal.copy_behind-requires-clause-start
copy_behind-requires-clause-start g c = record {
  behind = c.requires.behind;
  numbered = c.requires.numbered;
  room = omega (arith, c.requires.room, c.events_before.ensures.disk.device.as_large);
}

pub is_copied-requires-clause-numbered : goal.is_copied-requires-clause-numbered
is_copied-requires-clause-numbered g c = omega (arith, c.requires.numbered)

pub is_copied-requires-clause-there : goal.is_copied-requires-clause-there
is_copied-requires-clause-there g c =
    omega (
      arith,
      c.requires.room,
      c.events_before.ensures.disk.device.as_large,
      c.copy_behind.ensures.device.same.as_large,
    )

pub returns-in_err-before-clause-others : goal.returns-in_err-before-clause-others
returns-in_err-before-clause-others g c =
    spares_read g.D.Disk c.args.base c.events_before.ensures.disk c.shows_what_crashes_leave.ensures.quiet

pub returns-in_default-clause-others : goal.returns-in_default-clause-others
returns-in_default-clause-others g c =
    spares_read g.D.Disk c.args.base c.events_before.ensures.disk c.shows_what_crashes_leave.ensures.quiet

pub returns-in_err-copy_behind-clause-others : goal.returns-in_err-copy_behind-clause-others
returns-in_err-copy_behind-clause-others g c =
    let d = g.D.Disk in
    spares_then d c.args.base c.copy_behind.new.store c.events_before.ensures.disk.device
    c.in_ok-before.ensures.still.usable
    (spares_read d c.args.base c.events_before.ensures.disk c.shows_what_crashes_leave.ensures.quiet)
    c.copy_behind.ensures.others

pub returns-in_err-is_copied-clause-others : goal.returns-in_err-is_copied-clause-others
returns-in_err-is_copied-clause-others g c =
    let d = g.D.Disk in
    let device = c.events_before.ensures.disk.device in
    spares_then d c.args.base c.is_copied.new.store (same_both d device c.copy_behind.ensures.device.same)
    c.in_ok-copy_behind.ensures.aside.usable
    (spares_then d c.args.base c.copy_behind.new.store device c.in_ok-before.ensures.still.usable
    (spares_read d c.args.base c.events_before.ensures.disk c.shows_what_crashes_leave.ensures.quiet)
    c.copy_behind.ensures.others)
    (spares_read d c.args.base c.is_copied.ensures.still.left.disk c.shows_what_crashes_leave-3.ensures.quiet)

pub returns-then-not-branch-clause-others : goal.returns-then-not-branch-clause-others
returns-then-not-branch-clause-others g c =
    let d = g.D.Disk in
    let device = c.events_before.ensures.disk.device in
    spares_then d c.args.base c.is_copied.new.store (same_both d device c.copy_behind.ensures.device.same)
    c.in_ok-copy_behind.ensures.aside.usable
    (spares_then d c.args.base c.copy_behind.new.store device c.in_ok-before.ensures.still.usable
    (spares_read d c.args.base c.events_before.ensures.disk c.shows_what_crashes_leave.ensures.quiet)
    c.copy_behind.ensures.others)
    (spares_read d c.args.base c.is_copied.ensures.still.left.disk c.shows_what_crashes_leave-3.ensures.quiet)

pub returns-clause-others : goal.returns-clause-others
returns-clause-others g c =
    let d = g.D.Disk in
    let device = c.events_before.ensures.disk.device in
    spares_then d c.args.base c.is_copied.new.store (same_both d device c.copy_behind.ensures.device.same)
    c.in_ok-copy_behind.ensures.aside.usable
    (spares_then d c.args.base c.copy_behind.new.store device c.in_ok-before.ensures.still.usable
    (spares_read d c.args.base c.events_before.ensures.disk c.shows_what_crashes_leave.ensures.quiet)
    c.copy_behind.ensures.others)
    (spares_read d c.args.base c.is_copied.ensures.still.left.disk c.shows_what_crashes_leave-3.ensures.quiet)

pub returns-clause-start : goal.returns-clause-start
returns-clause-start g c =
    let d = g.D.Disk in
    let first = c.events_before.ensures.disk.device in
    let device = same_both d first c.copy_behind.ensures.device.same in
    let second = c.in_ok-copy_behind.ensures.aside in
    let still = c.is_copied.ensures.still in
    record {
      was = c.in_ok-before.ensures.usable;
      aside = aside_both d device (aside_both d first (aside_read d c.in_ok-before.ensures.still) second)
          (aside_read d still);
      same = λ honest n low.
          let same = still_reads d still
          (c.shows_what_crashes_leave-3.ensures.quiet second.usable (device.still honest)) (device.still honest) in
          ap (λ r. r (c.args.base + n)) same
          ∙ c.in_ok-is_copied.ensures.same c.if-not-branch.false (device.still honest) n
          (omega arith, omega (arith, low))
          ∙ ap (λ r. r n) (sym same);
      counted = λ honest s at. (rw c.in-Some.is at c.in_ok-before.ensures.sum) honest s at;
    }

pub returns-in_default-clause-none : goal.returns-in_default-clause-none
returns-in_default-clause-none g c = λ honest s at. (rw c.in_default.is at c.in_ok-before.ensures.sum) honest s at

pub returns-then-not-branch-clause-none : goal.returns-then-not-branch-clause-none
returns-then-not-branch-clause-none g c = λ honest.
    let d = g.D.Disk in
    let second = c.events_before.ensures.disk.device.still honest in
    let spares = c.copy_behind.ensures.others in
    let mid = (now (d.trail c.events_before.new.store.disk)).reads in
    let c' = (now (d.trail c.copy_behind.new.store.disk)).reads in
    let all = copies_as c.args.base 0 STORE_SECTORS mid c' c' c' (λ n within. refl)
    (λ n within. spared_reads d spares c.in_ok-before.ensures.still.usable second n
    (λ inside. omega (arith, inside.0, c.requires.behind, within.1))) (c.in_ok-copy_behind.ensures.copied second) in
    absurd (false≢true (sym c.if-not-branch.true
    ∙ c.in_ok-is_copied.ensures.all (c.copy_behind.ensures.device.same.still second) all))

-- ---- something was written behind the store, or nothing

pub returns-in_default-clause-aside : goal.returns-in_default-clause-aside
returns-in_default-clause-aside g c = aside_read g.D.Disk c.in_ok-before.ensures.still

pub returns-then-not-branch-clause-aside : goal.returns-then-not-branch-clause-aside
returns-then-not-branch-clause-aside g c =
    let d = g.D.Disk in
    let first = c.events_before.ensures.disk.device in
    aside_both d (same_both d first c.copy_behind.ensures.device.same)
    (aside_both d first (aside_read d c.in_ok-before.ensures.still) c.in_ok-copy_behind.ensures.aside)
    (aside_read d c.is_copied.ensures.still)

pub returns-clause-aside : goal.returns-clause-aside
returns-clause-aside g c =
    let d = g.D.Disk in
    let first = c.events_before.ensures.disk.device in
    aside_both d (same_both d first c.copy_behind.ensures.device.same)
    (aside_both d first (aside_read d c.in_ok-before.ensures.still) c.in_ok-copy_behind.ensures.aside)
    (aside_read d c.is_copied.ensures.still)
