use Rattle.std.proofs.lemmas.Result.{err_from_is_err_and}
use Rattle.store_slots.proofs.TakingBack.{not_closed, not_none}
use Rattle.store_slots.proofs.loaded.event_under.Goals as goal

pub returns-in_err-event-clause-damaged : goal.returns-in_err-event-clause-damaged
returns-in_err-event-clause-damaged g c =
    let p = err_from_is_err_and c.from_residual.result c.from_residual.ensures.1 in
    λ n is honest end all low has.
    not_none has c.args.k low (c.in_err-event.ensures.damaged n (cc (p.1, p.2, is)) honest).2

pub returns-in-None-clause-damaged : goal.returns-in-None-clause-damaged
returns-in-None-clause-damaged g c = λ n is honest end all low has.
    not_closed has c.args.k low ((rw c.in-None.is at c.in_ok-event.ensures.none) honest)
