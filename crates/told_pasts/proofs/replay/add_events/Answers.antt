use Rattle.std.proofs.Common.{◌≡◌, ◌∙◌, refl, sym}
use Rattle.std.specs.Prelude.{Err}
use Rattle.std.proofs.lemmas.Bool.{eqb-true}
use Rattle.std.proofs.lemmas.Result.{err_from_is_err_and}
use Rattle.past_pages.proofs.Failing.{none_failed}
use Rattle.past_pages.proofs.StillReads.{still_none}
use Rattle.desk_past.proofs.InMemory.{whatever}
use Rattle.told_pasts.proofs.Replayed.{no_events_told, told_there}
use Rattle.told_pasts.proofs.Stops.{doing_then, ok_then, stops_doing, stops_first, stops_none}
use Rattle.told_pasts.proofs.replay.add_events.Goals as goal

pub returns-in_err-turn_if_due-clause-stops : goal.returns-in_err-turn_if_due-clause-stops
returns-in_err-turn_if_due-clause-stops g c =
    let p = err_from_is_err_and c.from_residual.result c.from_residual.ensures.1 in
    let failed : c.turn_if_due.result ≡ Err p.0 = cc (p.2, c.in_err-turn_if_due.was) in
    stops_first g.D.Disk c.turn_if_due.ensures.stops (λ a. a) failed p.1

pub returns-clause-told : goal.returns-clause-told
returns-clause-told g c = ok_then c.add_lines.result c.in_memory.result c.in_memory.ensures c.add_lines.ensures.told
    (λ on a. told_there _ c.in_ok-turn_if_due.ensures.done (c.in_ok-turn_if_due.ensures.shown a) tt on)

pub returns-clause-still : goal.returns-clause-still
returns-clause-still g c = whatever c.in_memory.result c.in_ok-turn_if_due.ensures.still

pub returns-clause-stops : goal.returns-clause-stops
returns-clause-stops g c = stops_doing g.D.Disk c.in_memory.result
    (doing_then c.add_lines.result c.in_memory.result c.in_memory.ensures c.add_lines.ensures.errors)
    (none_failed c.in_ok-turn_if_due.ensures.stops.faults)

pub returns-then-is_empty-clause-told : goal.returns-then-is_empty-clause-told
returns-then-is_empty-clause-told g c = λ a. no_events_told c.args.events.now c.args.lines.now.items
    (eqb-true _ _ (sym c.is_empty.ensures ∙ c.if-is_empty.true)) a.shows

pub returns-then-is_empty-clause-still : goal.returns-then-is_empty-clause-still
returns-then-is_empty-clause-still g c = still_none g.D.Disk c.args.store.now c.requires

pub returns-then-is_empty-clause-stops : goal.returns-then-is_empty-clause-stops
returns-then-is_empty-clause-stops g c = stops_none g.D.Disk refl
