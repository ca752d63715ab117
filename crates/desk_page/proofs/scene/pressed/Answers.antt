use Rattle.std.proofs.Common.{refl, ◌∙◌, ap, Err}
use Rattle.std.proofs.lemmas.Result.{err_from_is_err_and}
use Rattle.page_disks.specs.contracts.disk.RecordedDiskDisk.TheImpl.{ghosts}
use Rattle.desk_page.proofs.Turning.{not_settled, not_travelled, presses}
use Rattle.desk_page.proofs.scene.pressed.Goals as goal

pub travel_on-requires-clause-durable : goal.travel_on-requires-clause-durable
travel_on-requires-clause-durable c = c.in_ok-usable-2.ensures.durable refl

pub returns-clause-done : goal.returns-clause-done
returns-clause-done c =
    presses ghosts c.args.bytes.now c.as_slice.result.now c.args.page c.hear.new.page _
    (c.as_slice.ensures.value ∙ c.in-Ok.ensures)
    (c.in_ok-hear.ensures.done tt (c.in_ok-usable.ensures.durable refl)) c.in_ok-hear.ensures.parser
    c.in_ok-travel_on.ensures.travelled c.in_ok-travel_on.ensures.rests c.settled.result c.settled.ensures.handed

pub returns-clause-failed : goal.returns-clause-failed
returns-clause-failed c =
    not_settled ghosts c.args.bytes.now c.args.page
    (record { store = c.travel_on.new.store; sitting = c.travel_on.new.sitting; parser = c.hear.new.page.parser })
    c.settled.result c.in_ok-travel_on.ensures.usable c.settled.ensures.withheld

pub returns-in_err-travel_on-clause-failed : goal.returns-in_err-travel_on-clause-failed
returns-in_err-travel_on-clause-failed c =
    let p = err_from_is_err_and c.from_residual-in_err-travel_on.result c.from_residual-in_err-travel_on.ensures.1 in
    rw (p.1, p.2) (not_travelled ghosts c.args.bytes.now c.as_slice.result.now c.args.page c.hear.new.page
    c.travel_on.new.sitting c.travel_on.new.store c.in_err-travel_on.field-0.0
    (c.as_slice.ensures.value ∙ c.in-Ok.ensures)
    (c.in_ok-hear.ensures.done tt (c.in_ok-usable.ensures.durable refl)) c.in_err-travel_on.ensures.errors
    (λ is. c.in_err-travel_on.ensures.endless (ap (λ e. Err e) is)))
