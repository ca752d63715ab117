use Rattle.std.proofs.Common.{◌-◌, refl, subst, sym}
use Rattle.std.proofs.lemmas.Result.{IfOk-weaker}
use Rattle.sector_disk.specs.Trail.{now}
use Rattle.sector_disk.proofs.Touching.{still_all}
use Rattle.store_slots.specs.Beside.{HasEvents, HasFormer, alone, behind}
use Rattle.store_slots.proofs.Formers.{came_before, former_events, only_stops}
use Rattle.store_slots.proofs.Passed.{nothing_before}
use Rattle.store_slots.proofs.TakingBack.{events_after}
use Rattle.store_slots.proofs.former.read_history.Goals as goal

pub returns-in-None-clause-events : goal.returns-in-None-clause-events
returns-in-None-clause-events g c = IfOk-weaker c.read_events.result _ _ (λ events others honest s at epoch.
    let run = c.find_former.ensures.kept in
    alone (nothing_before at epoch ((rw c.in-None.is at c.in_ok-find_former.ensures.none) refl honest))
    (sym (others (run.still honest) s.events (events_after g.D.Disk at run honest)))) c.read_events.ensures.others

pub returns-in-None-clause-stops : goal.returns-in-None-clause-stops
returns-in-None-clause-stops g c = λ honest s at epoch.
    let run = c.find_former.ensures.kept in
    only_stops c.read_events.result c.read_events.ensures.faults.errors (λ n bad.
    c.read_events.ensures.damaged n bad (run.still honest) s.events (events_after g.D.Disk at run honest))

pub returns-in-Some-clause-events : goal.returns-in-Some-clause-events
returns-in-Some-clause-events g c = IfOk-weaker c.read_across.result _ _ (λ events others honest s at epoch.
    let run = c.find_former.ensures.kept in
    let same = sym (still_all _ _ (run.moments honest)) in
    let has = subst (λ n. HasFormer (now (g.D.Disk.trail c.args.disk.now)).reads c.args.slot n c.in-Some.former.head
    c.in-Some.former.events) (sym epoch) ((rw c.in-Some.is at c.in_ok-find_former.ensures.found) honest) in
    behind has.former (came_before at c.standing_law.ensures has)
    (sym (others (run.still honest) has.former.events s.events
    (subst (λ r. HasEvents r (1 - c.args.slot) c.in-Some.former.events has.former.events) same
    (former_events at c.standing_law.ensures has)) (events_after g.D.Disk at run honest)))) c.read_across.ensures.others

pub returns-in-Some-clause-stops : goal.returns-in-Some-clause-stops
returns-in-Some-clause-stops g c = λ honest s at epoch.
    let run = c.find_former.ensures.kept in
    let same = sym (still_all _ _ (run.moments honest)) in
    let has = subst (λ n. HasFormer (now (g.D.Disk.trail c.args.disk.now)).reads c.args.slot n c.in-Some.former.head
    c.in-Some.former.events) (sym epoch) ((rw c.in-Some.is at c.in_ok-find_former.ensures.found) honest) in
    only_stops c.read_across.result c.read_across.ensures.faults.errors (λ n bad.
    c.read_across.ensures.damaged n bad (run.still honest) has.former.events s.events
    (subst (λ r. HasEvents r (1 - c.args.slot) c.in-Some.former.events has.former.events) same
    (former_events at c.standing_law.ensures has)) (events_after g.D.Disk at run honest))
