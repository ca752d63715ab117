use Rattle.std.proofs.Common.{◌∙◌, Err, ap, refl}
use Rattle.std.proofs.lemmas.Result.{err_from_is_err_and, on_ok_weaker}
use Rattle.desk_sitting.specs.Sittings.{refused}
use Rattle.desk_sitting.specs.Travels.{took_back, took_import}
use Rattle.status_line.specs.declared.saying.Saying.TheVariants.{NotBack}
use Rattle.desk_sitting.proofs.Travelling.{goes_back, goes_not, goes_over, goes_unread}
use Rattle.desk_sitting.proofs.travels.take_back.Goals as goal

pub returns-in_err-look_behind : goal.returns-in_err-look_behind
returns-in_err-look_behind g c =
    let p = err_from_is_err_and c.from_residual.result c.from_residual.ensures.1 in
    goes_unread g.D.Disk c.in_err-look_behind.field-0.0 c.from_residual.result c.args.store.now c.look_behind.new.store
    c.requires.usable (p.1 ∙ ap (λ e. Err e) p.2) c.in_err-look_behind.ensures.looks

pub returns-in-Ok-Events : goal.returns-in-Ok-Events
returns-in-Ok-Events g c =
    let e = c.in-Ok-Events.ensures in
    let k = c.in_ok-look_behind.ensures in
    goes_back g.D.Disk c.args.sitting.now k.knows.0 k.knows.1 c.settle-count.result c.settle-count.ensures.count c.requires.asked
    c.requires.usable k.looks tt _ c.in-Ok-Events.events.items c.place-from.result c.place.result
    (rw c.in-Ok-Events.field-0-is at e.ok) e.device c.place-from.ensures c.place.ensures
    (c.took_back.ensures ∙ ap (took_back c.in-Ok-Events.events.items c.place-from.result c.place.result)
    c.settle-count.ensures.sitting)

pub returns-in-Ok-Import : goal.returns-in-Ok-Import
returns-in-Ok-Import g c =
    let e = c.in-Ok-Import.ensures in
    let k = c.in_ok-look_behind.ensures in
    goes_over g.D.Disk c.args.sitting.now k.knows.0 k.knows.1 c.settle-count.result c.settle-count.ensures.count c.requires.asked
    c.requires.usable k.looks tt _ c.in-Ok-Import.documents.items c.place-from.result c.place-in-Ok-Import.result
    (rw c.in-Ok-Import.field-0-is at e.ok) e.device c.place-from.ensures c.place-in-Ok-Import.ensures
    (c.took_import.ensures
    ∙ ap (λ ds. took_import ds c.place-from.result c.place-in-Ok-Import.result c.settle-count.new.self) c.as_slice.ensures.value
    ∙ ap (took_import c.in-Ok-Import.documents.items c.place-from.result c.place-in-Ok-Import.result)
    c.settle-count.ensures.sitting)

pub returns-in-Err : goal.returns-in-Err
returns-in-Err g c =
    let e = c.in-Err.ensures in
    let k = c.in_ok-look_behind.ensures in
    goes_not g.D.Disk c.args.sitting.now k.knows.0 k.knows.1 c.settle-count.result c.settle-count.ensures.count c.requires.asked
    c.requires.usable k.looks c.in-Err.error c.stay.result e.in_use e.stops e.reopen e.device e.any_moment (e.left refl)
    c.stay.ensures.stays
    (on_ok_weaker c.stay.result (λ is. is ∙ ap (refused NotBack) c.settle-count.ensures.sitting) c.stay.ensures.said)
    c.stay.ensures.passed
