use Rattle.std.proofs.Common.{arith, subst, sym}
use Rattle.std.proofs.lemmas.Bool.{lt-ltb, ltb-true}
use Rattle.std.proofs.lemmas.Result.{IfOk-weaker}
use Rattle.sector_disk.specs.Trail.{now}
use Rattle.sector_disk.proofs.Touching.{still_all}
use Rattle.store_slots.specs.Beside.{HasFormer}
use Rattle.store_slots.proofs.Formers.{counted_across, only_stops}
use Rattle.store_slots.proofs.Passed.{nothing_before}
use Rattle.store_slots.proofs.TakingBack.{still_up_to}
use Rattle.store_slots.proofs.former.load_earlier.Goals as goal

pub returns-in-None-clause-shown : goal.returns-in-None-clause-shown
returns-in-None-clause-shown g c = IfOk-weaker c.load_within.result _ _ (λ x shown honest s at epoch.
    let run = c.find_former.ensures.kept in
    shown (run.still honest) s (still_up_to g.D.Disk at run honest) epoch) c.load_within.ensures.shown

pub returns-in-None-clause-stops : goal.returns-in-None-clause-stops
returns-in-None-clause-stops g c = λ honest s at epoch.
    let run = c.find_former.ensures.kept in
    c.load_within.ensures.stops (run.still honest) s (still_up_to g.D.Disk at run honest)

pub returns-in-Some-clause-count : goal.returns-in-Some-clause-count
returns-in-Some-clause-count g c =
    let some = rw c.in-Some.is at c.in_ok-find_former.ensures.some in
    let wanted = rw c.in-Some.is at c.in_ok-find_former.ensures.wanted in
    IfOk-weaker c.load_across.result _ _ (λ x count.
    counted_across c.requires.at.two (ltb-true c.args.end c.args.count wanted) some.1 some.2 some.3 c.saturating_sub-k.ensures
    count.0 count.1 count.2 count.3) c.load_across.ensures.count

pub returns-in-Some-clause-shown : goal.returns-in-Some-clause-shown
returns-in-Some-clause-shown g c = IfOk-weaker c.load_across.result _ _ (λ x shown honest s at epoch.
    let run = c.find_former.ensures.kept in
    let has = (rw c.in-Some.is at c.in_ok-find_former.ensures.found) honest in
    shown (run.still honest) s (still_up_to g.D.Disk at run honest)
    (subst (λ r. HasFormer r c.args.slot s.epoch c.in-Some.former.head c.in-Some.former.events)
    (sym (still_all _ _ (run.moments honest)))
    (subst (λ n. HasFormer (now (g.D.Disk.trail c.args.disk.now)).reads c.args.slot n c.in-Some.former.head
    c.in-Some.former.events) (sym epoch) has))) c.load_across.ensures.shown

pub returns-in-Some-clause-stops : goal.returns-in-Some-clause-stops
returns-in-Some-clause-stops g c = λ honest s at epoch.
    let run = c.find_former.ensures.kept in
    let has = (rw c.in-Some.is at c.in_ok-find_former.ensures.found) honest in
    only_stops c.load_across.result c.load_across.ensures.faults.errors (λ n bad.
    c.load_across.ensures.damaged n bad (run.still honest) s (still_up_to g.D.Disk at run honest)
    (subst (λ r. HasFormer r c.args.slot s.epoch c.in-Some.former.head c.in-Some.former.events)
    (sym (still_all _ _ (run.moments honest)))
    (subst (λ n. HasFormer (now (g.D.Disk.trail c.args.disk.now)).reads c.args.slot n c.in-Some.former.head
    c.in-Some.former.events) (sym epoch) has)))

pub returns-in-None-clause-crosses : goal.returns-in-None-clause-crosses
returns-in-None-clause-crosses g c = IfOk-weaker c.load_within.result _ _ (λ x count honest s at epoch less same.
    nothing_before at epoch
    ((rw c.in-None.is at c.in_ok-find_former.ensures.none) (lt-ltb c.args.end c.args.count less) honest))
    c.load_within.ensures.count

pub returns-in-Some-clause-crosses : goal.returns-in-Some-clause-crosses
returns-in-Some-clause-crosses g c =
    let some = rw c.in-Some.is at c.in_ok-find_former.ensures.some in
    IfOk-weaker c.load_across.result _ _ (λ x count honest s at epoch less same.
    absurd (omega (arith, some.3, count.1, same))) c.load_across.ensures.count
