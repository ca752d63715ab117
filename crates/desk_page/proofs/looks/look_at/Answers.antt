use Rattle.std.proofs.Common.{refl}
use Rattle.std.proofs.lemmas.Result.{err_from_is_err_and}
use Rattle.desk_page.specs.Looks.LooksAtPast.{has_none}
use Rattle.page_disks.specs.contracts.disk.RecordedDiskDisk.TheImpl.{ghosts}
use Rattle.desk_page.proofs.Looked.{looks_at}
use Rattle.desk_page.proofs.Turning.{withheld_so}
use Rattle.desk_page.proofs.looks.look_at.Goals as goal

pub returns-in-Ok-None-clause-looks : goal.returns-in-Ok-None-clause-looks
returns-in-Ok-None-clause-looks c = has_none _ (record { read = c.of.ensures.still; sitting = refl; parser = refl })

pub returns-in_ok-scene-in-Ok-Some-clause-looks : goal.returns-in_ok-scene-in-Ok-Some-clause-looks
returns-in_ok-scene-in-Ok-Some-clause-looks c = looks_at ghosts c.args.page _ c.in-Ok-Some.looker c.in_ok-scene-in-Ok-Some.scene
    (record { read = c.of.ensures.still; sitting = refl; parser = refl })
    (rw c.in-Ok-Some.field-0-is at c.in-Ok-Some.ensures.is)
    c.in_ok-scene-in-Ok-Some.ensures.scene (c.shows_what_crashes_leave.ensures.durable c.of.ensures.still.usable)

pub returns-in_err-scene-in-Ok-Some-clause-withheld : goal.returns-in_err-scene-in-Ok-Some-clause-withheld
returns-in_err-scene-in-Ok-Some-clause-withheld c =
    let p = err_from_is_err_and c.from_residual-in_err-scene-in-Ok-Some.result
    c.from_residual-in_err-scene-in-Ok-Some.ensures.1 in
    rw (p.1, p.2) (withheld_so c.args.page c.in_err-scene-in-Ok-Some.field-0.0 c.in_err-scene-in-Ok-Some.ensures.errors)
