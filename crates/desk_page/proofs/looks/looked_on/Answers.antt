use Rattle.std.proofs.Common.{refl}
use Rattle.std.proofs.lemmas.Result.{err_from_is_err_and}
use Rattle.past_looks.proofs.Carrying.{looker_alike}
use Rattle.desk_page.specs.Looks.PressesLook.{looks_on}
use Rattle.page_disks.specs.contracts.disk.RecordedDiskDisk.TheImpl.{ghosts}
use Rattle.desk_page.proofs.looks.looked_on.Goals as goal

pub returns-in_ok-scene-in-Ok-clause-looks : goal.returns-in_ok-scene-in-Ok-clause-looks
returns-in_ok-scene-in-Ok-clause-looks c =
    let seen = c.in_ok-scene-in-Ok.ensures.scene in
    looks_on _ _ (record { read = c.go_on.ensures.still; sitting = refl; parser = refl })
    (record {
      shows = seen.shows;
      durable = c.shows_what_crashes_leave.ensures.durable c.go_on.ensures.still.usable;
    })
    (λ is. looker_alike ghosts c.go_on.new.self _ seen.same (c.in-Ok.ensures.looker is))

pub returns-in_err-scene-in-Ok-clause-errors : goal.returns-in_err-scene-in-Ok-clause-errors
returns-in_err-scene-in-Ok-clause-errors c =
    let p = err_from_is_err_and c.from_residual.result c.from_residual.ensures.1 in
    rw (p.1, p.2) c.in_err-scene-in-Ok.ensures.errors
