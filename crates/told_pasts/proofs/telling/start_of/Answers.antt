use Rattle.std.proofs.Common.{◌≡◌, ◌-◌, ◌∙◌, ap, arith, sym, take}
use Rattle.std.specs.Prelude.{Err}
use Rattle.std.proofs.lemmas.Result.{IfOk-weaker, err_from_is_err_and, on_ok_weaker}
use Rattle.past_pages.proofs.Failing.{none_failed}
use Rattle.past_pages.proofs.StillReads.{still_both}
use Rattle.desk_past.specs.Deeds.{after_deeds}
use Rattle.desk_past.proofs.Opened.{some_then}
use Rattle.desk_past.proofs.Remembering.{read_keeps}
use Rattle.desk_past.proofs.TurnedBack.{past_behind}
use Rattle.told_pasts.proofs.Reached.{its_count}
use Rattle.told_pasts.proofs.Stops.{moment_stops, stops_first, stops_none, stops_on}
use Rattle.told_pasts.proofs.telling.start_of.Goals as goal

pub returns-in_err-count-clause-stops : goal.returns-in_err-count-clause-stops
returns-in_err-count-clause-stops g c =
    let p = err_from_is_err_and c.from_residual.result c.from_residual.ensures.1 in
    let failed : c.count_of.result ≡ Err p.0 = cc (p.2, c.in_err-count.was) in
    stops_first g.D.Disk c.count_of.ensures.stops
    (λ known. its_count g.D.Disk known.0 c.args.before known.1 c.ranges.before.fits) failed p.1

pub returns-then-count-before-clause-is : goal.returns-then-count-before-clause-is
returns-then-count-before-clause-is g c = λ h before.
    let some = its_count g.D.Disk h c.args.before before c.ranges.before.fits in
    let count = c.in_ok-count.ensures.whole some.honest some.pages some.written some.good some.up_to some.room
    some.few in
    let counted = h.past.keeps.remembers.past.counted in
    let told = h.numbers.before in
    absurd (omega (arith, count, counted, told, before, c.if-count-before.true))

pub returns-then-count-before-clause-stops : goal.returns-then-count-before-clause-stops
returns-then-count-before-clause-stops g c = stops_none g.D.Disk (none_failed c.in_ok-count.ensures.stops.faults)

pub returns-clause-is : goal.returns-clause-is
returns-clause-is g c = IfOk-weaker c.moment.result _ _
    (λ found fact h before.
    let d = g.D.Disk in
    let past = h.past in
    let some = its_count d h c.args.before before c.ranges.before.fits in
    let count = c.in_ok-count.ensures.whole some.honest some.pages some.written some.good some.up_to some.room
    some.few in
    let counted = past.keeps.remembers.past.counted in
    let told = h.numbers.before in
    let k : c.args.before - c.in_ok-count.count ≡ past.start.before = omega (arith, count, counted, told, before) in
    let none : c.args.before - c.in_ok-count.count - past.start.before ≡ 0 = omega (arith, k) in
    let still = c.in_ok-count.ensures.still in
    let quiet = c.shows_what_crashes_leave.ensures.quiet past.keeps.usable past.honest in
    some_then found
    (fact (still.left.disk.device.still past.honest) past.start past.deeds past.desktop
    (read_keeps d past.keeps past.honest quiet {new = c.count_of.new.store} still.left.disk still.usable)
    (sym h.numbers.base) (record { low = omega (arith, k); high = omega (arith, k) }))
    (λ shown eq. eq ∙ ap (λ n. after_deeds past.start.desktop (take n past.deeds)) none)) c.moment.ensures.comes_back

pub returns-clause-still : goal.returns-clause-still
returns-clause-still g c = on_ok_weaker c.moment.result (λ still. still_both g.D.Disk c.in_ok-count.ensures.still still)
    c.moment.ensures.still

pub returns-clause-stops : goal.returns-clause-stops
returns-clause-stops g c =
    let still = c.in_ok-count.ensures.still in
    stops_on g.D.Disk c.moment.result still.usable (none_failed c.in_ok-count.ensures.stops.faults)
    (moment_stops g.D.Disk c.moment.result c.moment.ensures.faults c.moment.ensures.open c.moment.ensures.stops)
    (λ known. (
      past_behind g.D.Disk still c.shows_what_crashes_leave.ensures.quiet known.0.past,
      sym known.0.numbers.base,
    ))
