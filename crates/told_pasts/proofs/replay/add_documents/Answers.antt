use Rattle.std.proofs.Common.{◌≡◌}
use Rattle.std.specs.Prelude.{Err}
use Rattle.std.proofs.lemmas.Result.{err_from_is_err_and}
use Rattle.past_pages.proofs.Failing.{none_failed}
use Rattle.desk_past.proofs.InMemory.{whatever}
use Rattle.told_pasts.proofs.Replayed.{told_there}
use Rattle.told_pasts.proofs.Stops.{doing_then, ok_then, stops_doing, stops_first}
use Rattle.told_pasts.proofs.replay.add_documents.Goals as goal

pub returns-in_err-turn_if_due-clause-stops : goal.returns-in_err-turn_if_due-clause-stops
returns-in_err-turn_if_due-clause-stops g c =
    let p = err_from_is_err_and c.from_residual.result c.from_residual.ensures.1 in
    let failed : c.turn_if_due.result ≡ Err p.0 = cc (p.2, c.in_err-turn_if_due.was) in
    stops_first g.D.Disk c.turn_if_due.ensures.stops (λ a. a) failed p.1

pub returns-clause-told : goal.returns-clause-told
returns-clause-told g c = ok_then c.add_import.result c.in_memory.result c.in_memory.ensures c.add_import.ensures.told
    (λ on a. told_there _ c.in_ok-turn_if_due.ensures.done (c.in_ok-turn_if_due.ensures.shown a) tt on)

pub returns-clause-still : goal.returns-clause-still
returns-clause-still g c = whatever c.in_memory.result c.in_ok-turn_if_due.ensures.still

pub returns-clause-stops : goal.returns-clause-stops
returns-clause-stops g c = stops_doing g.D.Disk c.in_memory.result
    (doing_then c.add_import.result c.in_memory.result c.in_memory.ensures c.add_import.ensures.errors)
    (none_failed c.in_ok-turn_if_due.ensures.stops.faults)
