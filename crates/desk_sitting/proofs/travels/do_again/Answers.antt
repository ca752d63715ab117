use Rattle.std.proofs.Common.{◌∙◌, Err, None, Some, ap}
use Rattle.std.proofs.lemmas.Result.{err_from_is_err_and}
use Rattle.desk_sitting.specs.Travels.{did_import}
use Rattle.desk_sitting.proofs.Travelling.{fails_import, goes_import, goes_on, goes_unread, goes_wrong, nothing_again}
use Rattle.desk_sitting.proofs.travels.do_again.Goals as goal

pub returns-in_err-look_ahead : goal.returns-in_err-look_ahead
returns-in_err-look_ahead g c =
    let p = err_from_is_err_and c.from_residual.result c.from_residual.ensures.1 in
    goes_unread g.D.Disk c.in_err-look_ahead.field-0.0 c.from_residual.result c.args.store.now c.look_ahead.new.store
    c.requires.usable (p.1 ∙ ap (λ e. Err e) p.2) c.in_err-look_ahead.ensures.looks

-- no event is next

pub returns-in_err-import_again-in-None : goal.returns-in_err-import_again-in-None
returns-in_err-import_again-in-None g c =
    let k = c.in_ok-look_ahead.ensures in
    let e = c.in_err-import_again-in-None.ensures in
    let p = err_from_is_err_and c.from_residual-in_err-import_again-in-None.result
    c.from_residual-in_err-import_again-in-None.ensures.1 in
    fails_import g.D.Disk c.args.sitting.now k.knows.0 k.knows.1 c.requires.asked c.requires.usable k.looks c.place-from.result
    c.place-from.ensures c.next_again.new.self c.next_again.result c.next_again.ensures.event c.next_again.ensures.sitting
    c.in_err-import_again-in-None.field-0.0 c.from_residual-in_err-import_again-in-None.result (p.1 ∙ ap (λ e. Err e) p.2)
    c.in-None.is e.breaks e.device

pub returns-in-None-2 : goal.returns-in-None-2
returns-in-None-2 g c =
    let k = c.in_ok-look_ahead.ensures in
    let e = c.in_ok-import_again-in-None.ensures in
    nothing_again g.D.Disk c.args.sitting.now k.knows.0 k.knows.1 c.requires.asked c.requires.usable k.looks c.place-from.result
    c.place-from.ensures c.next_again.new.self c.next_again.result c.next_again.ensures.event c.next_again.ensures.sitting
    tt _ c.in-None.is (rw c.in-None-2.is at e.none) e.device c.end_there.ensures

pub returns-in-Some-2 : goal.returns-in-Some-2
returns-in-Some-2 g c =
    let k = c.in_ok-look_ahead.ensures in
    let e = c.in_ok-import_again-in-None.ensures in
    goes_import g.D.Disk c.args.sitting.now k.knows.0 k.knows.1 c.requires.asked c.requires.usable k.looks c.place-from.result
    c.place-from.ensures c.next_again.new.self c.next_again.result c.next_again.ensures.event c.next_again.ensures.sitting
    tt _ c.in-Some-2.documents.items c.place.result c.in-None.is
    (rw c.in-Some-2.is at e.brought) e.device c.place.ensures
    (c.did_import.ensures ∙ ap (λ ds. did_import ds c.place.result c.next_again.new.self) c.as_slice.ensures.value)

pub returns-in_ok-post-in-Some : goal.returns-in_ok-post-in-Some
returns-in_ok-post-in-Some g c =
    let k = c.in_ok-look_ahead.ensures in
    goes_on g.D.Disk c.args.sitting.now k.knows.0 k.knows.1 c.requires.asked c.requires.usable k.looks c.place-from.result
    c.place-from.ensures c.next_again.new.self c.next_again.result c.next_again.ensures.event c.next_again.ensures.sitting
    c.in-Some.event c.in-Some.is c.post.new.self c.post.new.store tt _ c.place-in-Some.result c.place-in-Some.ensures
    c.in_ok-post-in-Some.ensures.comes c.in_ok-post-in-Some.ensures.past c.did_again.ensures

pub returns-in_err-post-in-Some : goal.returns-in_err-post-in-Some
returns-in_err-post-in-Some g c =
    let k = c.in_ok-look_ahead.ensures in
    let p = err_from_is_err_and c.from_residual-in_err-post-in-Some.result c.from_residual-in_err-post-in-Some.ensures.1 in
    goes_wrong g.D.Disk c.args.sitting.now k.knows.0 k.knows.1 c.requires.asked c.requires.usable k.looks c.place-from.result
    c.place-from.ensures c.next_again.new.self c.next_again.result c.next_again.ensures.event c.next_again.ensures.sitting
    c.in-Some.event c.in-Some.is c.post.new.self c.post.new.store c.from_residual-in_err-post-in-Some.result
    c.in_err-post-in-Some.field-0.0 (p.1 ∙ ap (λ e. Err e) p.2) c.in_err-post-in-Some.ensures.comes
    c.in_err-post-in-Some.ensures.past
