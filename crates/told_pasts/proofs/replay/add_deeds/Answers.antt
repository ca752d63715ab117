use Rattle.std.proofs.Common.{◌∙◌, refl}
use Rattle.std.proofs.lemmas.Result.{err_from_is_err_and, on_ok_weaker}
use Rattle.past_pages.proofs.StillReads.{still_none}
use Rattle.told_pasts.proofs.Replayed.{events_page, far_there, far_told, import_page, mark_page, turn_page}
use Rattle.told_pasts.proofs.Stops.{stops_memory, stops_none, stops_on}
use Rattle.told_pasts.proofs.replay.add_deeds.Goals as goal

pub returns-in_err-add_turn-in-Turn-clause-stops : goal.returns-in_err-add_turn-in-Turn-clause-stops
returns-in_err-add_turn-in-Turn-clause-stops g c =
    let p = err_from_is_err_and c.from_residual.result c.from_residual.ensures.1 in
    stops_memory g.D.Disk p.2 refl p.1

pub returns-in_ok-add_turn-in-Turn-clause-told : goal.returns-in_ok-add_turn-in-Turn-clause-told
returns-in_ok-add_turn-in-Turn-clause-told g c = λ a. turn_page c.args.deeds.now a.page c.in-Turn.k
    (λ version all is. (rw c.in-Turn.is at is)) (λ version all is. (rw c.in-Turn.is at is))
    (λ version m to is. (rw c.in-Turn.is at is)) (λ version far sectors to is. (rw c.in-Turn.is at is)) a.is a.goes_back
    (c.in_ok-add_turn-in-Turn.ensures a.amid.past.start a.amid.past.deeds a.amid.here)

pub returns-in_ok-add_turn-in-Turn-clause-still : goal.returns-in_ok-add_turn-in-Turn-clause-still
returns-in_ok-add_turn-in-Turn-clause-still g c = still_none g.D.Disk c.args.store.now c.requires

pub returns-in_ok-add_turn-in-Turn-clause-stops : goal.returns-in_ok-add_turn-in-Turn-clause-stops
returns-in_ok-add_turn-in-Turn-clause-stops g c = stops_none g.D.Disk refl

pub returns-in-Events-clause-told : goal.returns-in-Events-clause-told
returns-in-Events-clause-told g c = on_ok_weaker c.add_events.result (λ told a.
    events_page c.args.deeds.now a.page c.as_slice.result.now
    (λ version all is. c.as_slice.ensures.value ∙ (rw c.in-Events.is at is))
    (λ version all is. (rw c.in-Events.is at is)) (λ version k to is. (rw c.in-Events.is at is))
    (λ version far sectors to is. (rw c.in-Events.is at is)) a.is (told a.amid)) c.add_events.ensures.told

pub returns-in-Events-clause-stops : goal.returns-in-Events-clause-stops
returns-in-Events-clause-stops g c = stops_on g.D.Disk c.add_events.result c.requires refl c.add_events.ensures.stops
    (λ a. a.amid)

pub returns-in-Import-clause-told : goal.returns-in-Import-clause-told
returns-in-Import-clause-told g c = on_ok_weaker c.add_documents.result (λ told a.
    import_page c.args.deeds.now a.page c.as_slice-in-Import.result.now
    (λ version all is. (rw c.in-Import.is at is))
    (λ version all is. c.as_slice-in-Import.ensures.value ∙ (rw c.in-Import.is at is))
    (λ version k to is. (rw c.in-Import.is at is)) (λ version far sectors to is. (rw c.in-Import.is at is)) a.is
    (told a.amid)) c.add_documents.ensures.told

pub returns-in-Import-clause-stops : goal.returns-in-Import-clause-stops
returns-in-Import-clause-stops g c = stops_on g.D.Disk c.add_documents.result c.requires refl
    c.add_documents.ensures.stops (λ a. a.amid)

pub returns-in-FarTurn-clause-told : goal.returns-in-FarTurn-clause-told
returns-in-FarTurn-clause-told g c = on_ok_weaker c.add_far_turn.result (λ told a.
    let turn = far_there g.D.Disk a c.in-FarTurn.is in
    far_told _ turn.1 (told turn.0 a.amid.past.start a.amid.past.deeds a.amid.here)) c.add_far_turn.ensures.told

pub returns-in-FarTurn-clause-stops : goal.returns-in-FarTurn-clause-stops
returns-in-FarTurn-clause-stops g c = stops_on g.D.Disk c.add_far_turn.result c.requires refl
    c.add_far_turn.ensures.stops (λ a. (far_there g.D.Disk a c.in-FarTurn.is).0)

pub returns-in-Mark-clause-told : goal.returns-in-Mark-clause-told
returns-in-Mark-clause-told g c = λ a. mark_page c.args.lines.now.items a.page (rw c.in-Mark.is at a.is) a.amid.shows

pub returns-in-Mark-clause-still : goal.returns-in-Mark-clause-still
returns-in-Mark-clause-still g c = still_none g.D.Disk c.args.store.now c.requires

pub returns-in-Mark-clause-stops : goal.returns-in-Mark-clause-stops
returns-in-Mark-clause-stops g c = stops_none g.D.Disk refl
