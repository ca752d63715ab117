use Rattle.std.proofs.Common.{◌≡◌, ◌∙◌, ◌-◌, ap, drop, length, subst}
use Rattle.std.specs.Prelude.{Err}
use Rattle.std.proofs.lemmas.Result.{err_from_is_err_and}
use Rattle.sector_disk.specs.Trail.{now}
use Rattle.past_pages.proofs.Failing.{none_failed}
use Rattle.desk_past.specs.Deeds.{all_posted}
use Rattle.told_pasts.specs.Telling.{IsToldOn}
use Rattle.told_pasts.proofs.Lines.{last_ones}
use Rattle.told_pasts.proofs.Stops.{doing_then, history_stops, ok_then, stops_doing, stops_first}
use Rattle.told_pasts.proofs.telling.add_journal.Goals as goal

pub returns-in_err-events-clause-stops : goal.returns-in_err-events-clause-stops
returns-in_err-events-clause-stops g c =
    let p = err_from_is_err_and c.from_residual.result c.from_residual.ensures.1 in
    let failed : c.history.result ≡ Err p.0 = cc (p.2, c.in_err-events.was) in
    stops_first g.D.Disk
    (history_stops g.D.Disk c.history.result c.history.ensures.faults c.history.ensures.reopen.only
    c.history.ensures.stops)
    (λ known. known) failed p.1

pub returns-clause-told : goal.returns-clause-told
returns-clause-told g c = ok_then c.add_lines.result c.in_memory.result c.in_memory.ensures c.add_lines.ensures.told
    (λ told honest s at many.
    let events = c.as_slice.ensures.value in
    let own = last_ones (now (g.D.Disk.trail c.args.store.now.disk)).reads s c.in_ok-events.events.items c.args.journal
    (c.in_ok-events.ensures.events honest s at) many in
    subst (λ l. IsToldOn g.E.Disk (all_posted l) c.args.lines.now.items c.add_lines.new.lines.items c.args.shown.now
    c.add_lines.new.shown)
    (c.last_of-last.ensures ∙ ap (λ l. drop (length l - c.args.journal) l) events ∙ own.1) told)

pub returns-clause-stops : goal.returns-clause-stops
returns-clause-stops g c = stops_doing g.D.Disk c.in_memory.result
    (doing_then c.add_lines.result c.in_memory.result c.in_memory.ensures c.add_lines.ensures.errors)
    (none_failed c.in_ok-events.ensures.faults)
