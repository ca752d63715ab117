use Rattle.std.proofs.Common.{◌≡◌, ◌∙◌, ap, sym, subst, Err, IfErr}
use Rattle.std.proofs.lemmas.Result.{err_from_is_err_and, IfErr-at_err}
use Rattle.store_slots.specs.Errors.{OfDesktop, OfOpen, OfReplay}
use Rattle.store_slots.proofs.Staying.{apart_nowhere, live_stays}
use Rattle.store_slots.proofs.TakingBack.{events_after, is_earlier, stops_there, stops_behind}
use Rattle.store_slots.proofs.former.load_within.Goals as goal

pub returns-clause-shown : goal.returns-clause-shown
returns-clause-shown g c = λ honest s at epoch.
    let run = c.load_front.ensures.kept in
    is_earlier g.D.Disk at run honest c.in_ok-desktop.desktop c.requires.some epoch (c.in_ok-desktop.ensures.shown honest)
    c.read_events.ensures.kept
    (c.in_ok-events.ensures.others (run.still honest) s.events (events_after g.D.Disk at run honest))

pub returns-in_err-desktop-clause-stops : goal.returns-in_err-desktop-clause-stops
returns-in_err-desktop-clause-stops g c = λ honest s at.
    let p = err_from_is_err_and c.from_residual.result c.from_residual.ensures.1 in
    let was : c.load_front.result ≡ Err p.0 = cc (p.1, p.2, c.in_err-desktop.was) in
    subst (λ r. IfErr r OfDesktop) (sym p.1)
    (stops_there _ _ s c.finding_law.ensures at.settled.stands p.0
    (IfErr-at_err OfOpen was c.load_front.ensures.faults.errors)
    (λ is. c.load_front.ensures.foreign (was ∙ ap (λ e. Err e) is) honest)
    (λ n is. c.load_front.ensures.damaged n (was ∙ ap (λ e. Err e) is) honest))

pub returns-in_err-events-clause-stops : goal.returns-in_err-events-clause-stops
returns-in_err-events-clause-stops g c = λ honest s at.
    let run = c.load_front.ensures.kept in
    let p = err_from_is_err_and c.from_residual-in_err-events.result c.from_residual-in_err-events.ensures.1 in
    let was : c.read_events.result ≡ Err p.0 = cc (p.1, p.2, c.in_err-events.was) in
    subst (λ r. IfErr r OfDesktop) (sym p.1)
    (stops_behind p.0 (IfErr-at_err OfReplay was c.read_events.ensures.faults.errors)
    (λ n is. c.read_events.ensures.damaged n (was ∙ ap (λ e. Err e) is) (run.still honest) s.events
    (events_after g.D.Disk at run honest)))

pub returns-clause-left : goal.returns-clause-left
returns-clause-left g c = record {
  live = c.in_ok-desktop.ensures.left.live;
  told = live_stays g.D.Disk c.in_ok-desktop.desktop c.read_events.ensures.kept
      (apart_nowhere c.in_ok-desktop.desktop.pages) c.in_ok-desktop.ensures.left.told;
}
