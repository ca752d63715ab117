use Rattle.std.proofs.Common.{◌≡◌, ◌+◌, ◌-◌, ◌∙◌, ap, arith, length, refl, subst, sym}
use Rattle.std.specs.Prelude.{Err}
use Rattle.past_pages.proofs.Failing.{none_failed}
use Rattle.past_pages.proofs.StillReads.{still_both}
use Rattle.desk_past.specs.Chain.{WasInSpans}
use Rattle.desk_past.proofs.Over.{lies_still, spans_still}
use Rattle.desk_past.specs.Past.{moment}
use Rattle.desk_past.proofs.Opened.{if_some_always, some_then}
use Rattle.desk_past.proofs.Stepping.{deeds_up_to}
use Rattle.std.proofs.lemmas.Result.{IfOk-weaker, err_from_is_err_and, on_ok_weaker}
use Rattle.told_pasts.proofs.Reached.{has_before}
use Rattle.told_pasts.proofs.Stops.{any_stops, stops_first, stops_none, stops_on}
use Rattle.told_pasts.proofs.back.shown_before.Goals as goal

pub returns-in_default-clause-comes_back : goal.returns-in_default-clause-comes_back
returns-in_default-clause-comes_back g c = λ honest start deeds desktop keeps lies low few.
    absurd ((rw c.in_default.is at c.in_ok-reach.ensures.told) honest start deeds desktop keeps lies)

pub returns-then-count-now-clause-comes_back : goal.returns-then-count-now-clause-comes_back
returns-then-count-now-clause-comes_back g c = λ honest start deeds desktop keeps lies low few.
    let told = (rw c.in-Some.is at c.in_ok-reach.ensures.told) honest start deeds desktop keeps lies in
    let up = deeds_up_to keeps.remembers in
    let all = c.now-now.ensures.sum (omega (arith, told.before, told.journal, up, few)) in
    absurd (omega (arith, all, told.before, told.journal, up, low, c.if-count-now.true))

pub returns-clause-comes_back : goal.returns-clause-comes_back
returns-clause-comes_back g c = IfOk-weaker c.any_moment.result _ _
    (λ found fact honest start deeds desktop keeps lies low few.
    let d = g.D.Disk in
    let told = (rw c.in-Some.is at c.in_ok-reach.ensures.told) honest start deeds desktop keeps lies in
    let up = deeds_up_to keeps.remembers in
    let all = c.now-now.ensures.sum (omega (arith, told.before, told.journal, up, few)) in
    let k : c.now-now.result - c.args.count ≡ start.before + length deeds - c.args.count =
    omega (arith, all, told.before, told.journal, up) in
    let still = c.in_ok-reach.ensures.still in
    let quiet = c.shows_what_crashes_leave.ensures.quiet keeps.usable honest in
    lies_still d keeps honest quiet c.reach_of.new.store still.left.disk still.usable lies
    (λ after same there. some_then found
    ((fact (still.left.disk.device.still honest) start deeds desktop after there).is_one
    (has_before start deeds c.args.count _ k low))
    (λ shown eq. eq ∙ ap (moment start deeds) k))) c.any_moment.ensures.comes_back

pub returns-in_default-clause-over_parts : goal.returns-in_default-clause-over_parts
returns-in_default-clause-over_parts g c = λ past lies spans are few was there low.
    absurd ((rw c.in_default.is at c.in_ok-reach.ensures.told) past.honest past.start past.deeds past.desktop past.keeps
    lies)

pub returns-then-count-now-clause-over_parts : goal.returns-then-count-now-clause-over_parts
returns-then-count-now-clause-over_parts g c = λ past lies spans are few was there low.
    let told = (rw c.in-Some.is at c.in_ok-reach.ensures.told) past.honest past.start past.deeds past.desktop past.keeps
    lies in
    let up = deeds_up_to past.keeps.remembers in
    let all = c.now-now.ensures.sum (omega (arith, told.before, told.journal, up, few)) in
    absurd (omega (arith, all, told.before, told.journal, up, low, c.if-count-now.true))

pub returns-clause-over_parts : goal.returns-clause-over_parts
returns-clause-over_parts g c = IfOk-weaker c.any_moment.result _ _ (λ found fact past lies spans are few was there low.
    let d = g.D.Disk in
    let told = (rw c.in-Some.is at c.in_ok-reach.ensures.told) past.honest past.start past.deeds past.desktop past.keeps
    lies in
    let up = deeds_up_to past.keeps.remembers in
    let all = c.now-now.ensures.sum (omega (arith, told.before, told.journal, up, few)) in
    let k : past.start.before + length past.deeds - c.args.count ≡ c.now-now.result - c.args.count =
    omega (arith, all, told.before, told.journal, up) in
    let still = c.in_ok-reach.ensures.still in
    let quiet = c.shows_what_crashes_leave.ensures.quiet past.keeps.usable past.honest in
    spans_still d past.keeps past.honest quiet c.reach_of.new.store still.left.disk still.usable spans are
    (c.now-now.result - c.args.count) was (subst (λ n. WasInSpans d past.keeps spans are n was) k there)
    (λ after are' there'. fact (still.left.disk.device.still past.honest) past.start past.deeds past.desktop was after
    spans are'
    there')) c.any_moment.ensures.over_parts

pub returns-clause-still : goal.returns-clause-still
returns-clause-still g c = on_ok_weaker c.any_moment.result
    (λ still. still_both g.D.Disk c.in_ok-reach.ensures.still still)
    c.any_moment.ensures.still

pub returns-clause-there : goal.returns-clause-there
returns-clause-there g c = IfOk-weaker c.any_moment.result _ _ (λ found fact. if_some_always found (λ shown past lies.
    let told = (rw c.in-Some.is at c.in_ok-reach.ensures.told) past.honest past.start past.deeds past.desktop past.keeps
    lies in
    let up = deeds_up_to past.keeps.remembers in
    let most = c.now-now.ensures.most in
    omega (arith, up, told.before, told.journal, most, c.if-count-now.false))) c.any_moment.ensures.comes_back

pub returns-in_err-reach-clause-stops : goal.returns-in_err-reach-clause-stops
returns-in_err-reach-clause-stops g c =
    let p = err_from_is_err_and c.from_residual.result c.from_residual.ensures.1 in
    let failed : c.reach_of.result ≡ Err p.0 = cc (p.2, c.in_err-reach.was) in
    stops_first g.D.Disk c.reach_of.ensures.stops (λ known. known.0.keeps.usable) failed p.1

pub returns-in_default-clause-stops : goal.returns-in_default-clause-stops
returns-in_default-clause-stops g c = stops_none g.D.Disk (none_failed c.in_ok-reach.ensures.stops.faults)

pub returns-then-count-now-clause-stops : goal.returns-then-count-now-clause-stops
returns-then-count-now-clause-stops g c = stops_none g.D.Disk (none_failed c.in_ok-reach.ensures.stops.faults)

pub returns-clause-stops : goal.returns-clause-stops
returns-clause-stops g c =
    let d = g.D.Disk in
    let still = c.in_ok-reach.ensures.still in
    stops_on d c.any_moment.result still.usable (none_failed c.in_ok-reach.ensures.stops.faults)
    (any_stops d c.any_moment.result c.any_moment.ensures.faults c.any_moment.ensures.open c.any_moment.ensures.stops)
    (λ known.
    let past = known.0 in
    let told = (rw c.in-Some.is at c.in_ok-reach.ensures.told) past.honest past.start past.deeds past.desktop past.keeps
    known.1 in
    let up = deeds_up_to past.keeps.remembers in
    let low = known.2 in
    let few = known.3 in
    let all = c.now-now.ensures.sum (omega (arith, told.before, told.journal, up, few)) in
    let quiet = c.shows_what_crashes_leave.ensures.quiet past.keeps.usable past.honest in
    lies_still d past.keeps past.honest quiet c.reach_of.new.store still.left.disk still.usable known.1
    (λ after same there. (
      record {
        start = past.start;
        deeds = past.deeds;
        desktop = past.desktop;
        keeps = after;
        honest = still.left.disk.device.still past.honest;
      },
      there,
      omega (arith, all, told.before, told.journal, up, low),
    )))
