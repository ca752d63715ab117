use Rattle.std.proofs.Common.{refl}
use Rattle.page_disks.specs.contracts.disk.RecordedDiskDisk.TheImpl.{ghosts}
use Rattle.desk_page.proofs.ShownStill.{forgets, keeps_past}
use Rattle.desk_page.proofs.forgetting.forgotten.Goals as goal

pub returns-then-not-is_forgotten-clause-done : goal.returns-then-not-is_forgotten-clause-done
returns-then-not-is_forgotten-clause-done c =
    keeps_past c.showing_law.ensures c.args.page c.forget.new.store (c.in_ok-usable.ensures.usable refl)
    c.forget.ensures.device.same.as_large c.forget.ensures.any_moment
    (c.shows_what_crashes_leave.ensures.durable c.in_ok-is_forgotten.ensures.usable) _
    (c.in_ok-is_forgotten.ensures.refused c.if-not-is_forgotten.true tt) c.in_ok-is_forgotten.ensures.usable refl refl refl

pub returns-clause-done : goal.returns-clause-done
returns-clause-done c =
    forgets c.showing_law.ensures c.args.page c.forget.new.store (c.in_ok-usable.ensures.usable refl)
    c.forget.ensures.device.same.as_large c.forget.ensures.any_moment
    (c.shows_what_crashes_leave.ensures.durable c.in_ok-is_forgotten.ensures.usable) c.seated_again.result c.in_ok-page.page
    c.in_ok-page.scene (c.in_ok-is_forgotten.ensures.forgotten c.if-not-is_forgotten.false tt) c.seated_again.ensures.store
    c.seated_again.ensures.sitting c.seated_again.ensures.parser c.in_ok-page.ensures.handed
