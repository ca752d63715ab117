use Rattle.std.proofs.Common.{rules}
use Rattle.desk_past.proofs.Begun.{aside_both, desktop_then, renewed_aside, same_both}
use Rattle.desk_past.proofs.Marking.{only_then_from}
use Rattle.desk_past.proofs.Remembering.{leaves_then, read_keeps, turn_keeps, turn_moments}
use Rattle.desk_past.proofs.Sparing.{only_then_within, uses_only}
use Rattle.desk_past.proofs.keeping.end_epoch.Goals as goal

-- ---- there is no room

pub returns-in_default-clause-ended : goal.returns-in_default-clause-ended
returns-in_default-clause-ended g c = λ honest start deeds desktop keeps.
    let still = rw c.in_default.is at c.in_ok-past.ensures.none in
    read_keeps g.D.Disk keeps honest (c.shows_what_crashes_leave.ensures.quiet keeps.usable honest) still.left.disk
    still.usable

pub returns-in_default-clause-still : goal.returns-in_default-clause-still
returns-in_default-clause-still g c = λ is. rw c.in_default.is at c.in_ok-past.ensures.none

pub returns-in_err-past-clause-device : goal.returns-in_err-past-clause-device
returns-in_err-past-clause-device g c = uses_only g.D.Disk (search rules) c.write_page.ensures.device.others

pub returns-in_default-clause-device : goal.returns-in_default-clause-device
returns-in_default-clause-device g c = uses_only g.D.Disk (search rules) c.write_page.ensures.device.others

-- ---- the page is written, and the mark can't be

pub returns-in_err-past-2-clause-any_moment : goal.returns-in_err-past-2-clause-any_moment
returns-in_err-past-2-clause-any_moment g c = λ honest start deeds desktop keeps.
    let fresh = (rw c.in-Some.is at c.in_ok-past.ensures.written).1 honest start deeds desktop keeps in
    leaves_then g.D.Disk c.args.store.now c.write_page.new.store c.mark_if_due.new.store
    c.write_page.ensures.device.same (c.write_page.ensures.any_moment honest start deeds desktop keeps)
    (c.mark_if_due.ensures.any_moment (c.write_page.ensures.device.same.still honest) start deeds desktop fresh)

pub returns-in_err-past-2-clause-moments : goal.returns-in_err-past-2-clause-moments
returns-in_err-past-2-clause-moments g c = desktop_then g.D.Disk c.mark_if_due.new.store
    c.write_page.ensures.device.same c.write_page.ensures.moments c.in_ok-past.ensures.aside
    c.mark_if_due.ensures.moments

pub returns-in_err-past-2-clause-device : goal.returns-in_err-past-2-clause-device
returns-in_err-past-2-clause-device g c = uses_only g.D.Disk (search rules)
    (only_then_from g.D.Disk c.mark_if_due.new.store c.args.end c.in-Some.past.next c.write_page.ensures.device.same
    (λ usable. c.in_ok-past.ensures.aside.usable) c.write_page.ensures.moments
    (rw c.in-Some.is at c.in_ok-past.ensures.written).0 c.write_page.ensures.device.others
    c.mark_if_due.ensures.device.others)

-- ---- a checkpoint behind them

pub returns-in_err-checkpoint_with-clause-any_moment : goal.returns-in_err-checkpoint_with-clause-any_moment
returns-in_err-checkpoint_with-clause-any_moment g c = λ honest start deeds desktop keeps.
    let d = g.D.Disk in
    let fresh = (rw c.in-Some.is at c.in_ok-past.ensures.written).1 honest start deeds desktop keeps in
    let second = c.write_page.ensures.device.same.still honest in
    let marked = c.in_ok-past-2.ensures.written second start deeds desktop fresh in
    let third = c.mark_if_due.ensures.device.same.still second in
    let quiet = c.shows_what_crashes_leave-2.ensures.quiet marked.keeps.usable third in
    leaves_then d c.args.store.now c.write_page.new.store c.checkpoint_with.new.self c.write_page.ensures.device.same
    (c.write_page.ensures.any_moment honest start deeds desktop keeps)
    (leaves_then d c.write_page.new.store c.mark_if_due.new.store c.checkpoint_with.new.self
    c.mark_if_due.ensures.device.same (c.mark_if_due.ensures.any_moment second start deeds desktop fresh)
    (turn_moments d marked third quiet c.checkpoint_with.new.self c.checkpoint_with.ensures.behaves.within
    c.checkpoint_with.ensures.standings))

pub returns-clause-any_moment : goal.returns-clause-any_moment
returns-clause-any_moment g c = λ honest start deeds desktop keeps.
    let d = g.D.Disk in
    let fresh = (rw c.in-Some.is at c.in_ok-past.ensures.written).1 honest start deeds desktop keeps in
    let second = c.write_page.ensures.device.same.still honest in
    let marked = c.in_ok-past-2.ensures.written second start deeds desktop fresh in
    let third = c.mark_if_due.ensures.device.same.still second in
    let quiet = c.shows_what_crashes_leave-2.ensures.quiet marked.keeps.usable third in
    leaves_then d c.args.store.now c.write_page.new.store c.checkpoint_with.new.self c.write_page.ensures.device.same
    (c.write_page.ensures.any_moment honest start deeds desktop keeps)
    (leaves_then d c.write_page.new.store c.mark_if_due.new.store c.checkpoint_with.new.self
    c.mark_if_due.ensures.device.same (c.mark_if_due.ensures.any_moment second start deeds desktop fresh)
    (turn_moments d marked third quiet c.checkpoint_with.new.self c.checkpoint_with.ensures.behaves.within
    c.checkpoint_with.ensures.standings))

pub returns-clause-ended : goal.returns-clause-ended
returns-clause-ended g c = λ honest start deeds desktop keeps.
    let d = g.D.Disk in
    let fresh = (rw c.in-Some.is at c.in_ok-past.ensures.written).1 honest start deeds desktop keeps in
    let second = c.write_page.ensures.device.same.still honest in
    let marked = c.in_ok-past-2.ensures.written second start deeds desktop fresh in
    let third = c.mark_if_due.ensures.device.same.still second in
    let quiet = c.shows_what_crashes_leave-2.ensures.quiet marked.keeps.usable third in
    turn_keeps d marked third quiet c.checkpoint_with.new.self c.checkpoint_with.ensures.behaves.within
    c.in_ok-checkpoint_with.ensures.ok.usable c.in_ok-checkpoint_with.ensures.next.shows

pub returns-in_err-checkpoint_with-clause-moments : goal.returns-in_err-checkpoint_with-clause-moments
returns-in_err-checkpoint_with-clause-moments g c =
    let d = g.D.Disk in
    let first = c.write_page.ensures.device.same in
    desktop_then d c.checkpoint_with.new.self (same_both d first c.mark_if_due.ensures.device.same)
    (desktop_then d c.mark_if_due.new.store first c.write_page.ensures.moments c.in_ok-past.ensures.aside
    c.mark_if_due.ensures.moments)
    (aside_both d first c.in_ok-past.ensures.aside c.in_ok-past-2.ensures.aside) c.checkpoint_with.ensures.any_moment

pub returns-clause-moments : goal.returns-clause-moments
returns-clause-moments g c =
    let d = g.D.Disk in
    let first = c.write_page.ensures.device.same in
    desktop_then d c.checkpoint_with.new.self (same_both d first c.mark_if_due.ensures.device.same)
    (desktop_then d c.mark_if_due.new.store first c.write_page.ensures.moments c.in_ok-past.ensures.aside
    c.mark_if_due.ensures.moments)
    (aside_both d first c.in_ok-past.ensures.aside c.in_ok-past-2.ensures.aside) c.checkpoint_with.ensures.any_moment

pub returns-clause-renewed : goal.returns-clause-renewed
returns-clause-renewed g c = λ is.
    let d = g.D.Disk in
    let first = c.write_page.ensures.device.same in
    renewed_aside d (same_both d first c.mark_if_due.ensures.device.same)
    (aside_both d first c.in_ok-past.ensures.aside c.in_ok-past-2.ensures.aside) c.in_ok-checkpoint_with.ensures.ok

pub returns-in_err-checkpoint_with-clause-device : goal.returns-in_err-checkpoint_with-clause-device
returns-in_err-checkpoint_with-clause-device g c =
    let d = g.D.Disk in
    let first = c.write_page.ensures.device.same in
    uses_only d (search rules) (only_then_within d c.checkpoint_with.new.self
    (same_both d first c.mark_if_due.ensures.device.same) (λ usable. c.in_ok-past-2.ensures.aside.usable)
    c.shows_what_crashes_leave-2.ensures.quiet
    (only_then_from d c.mark_if_due.new.store c.args.end c.in-Some.past.next first
    (λ usable. c.in_ok-past.ensures.aside.usable) c.write_page.ensures.moments
    (rw c.in-Some.is at c.in_ok-past.ensures.written).0 c.write_page.ensures.device.others
    c.mark_if_due.ensures.device.others) c.checkpoint_with.ensures.behaves.within)

pub returns-clause-device : goal.returns-clause-device
returns-clause-device g c =
    let d = g.D.Disk in
    let first = c.write_page.ensures.device.same in
    uses_only d (search rules) (only_then_within d c.checkpoint_with.new.self
    (same_both d first c.mark_if_due.ensures.device.same) (λ usable. c.in_ok-past-2.ensures.aside.usable)
    c.shows_what_crashes_leave-2.ensures.quiet
    (only_then_from d c.mark_if_due.new.store c.args.end c.in-Some.past.next first
    (λ usable. c.in_ok-past.ensures.aside.usable) c.write_page.ensures.moments
    (rw c.in-Some.is at c.in_ok-past.ensures.written).0 c.write_page.ensures.device.others
    c.mark_if_due.ensures.device.others) c.checkpoint_with.ensures.behaves.within)
