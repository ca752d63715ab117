use Rattle.std.proofs.Common.{◌≡◌, ◌+◌, ◌<◌, ◌∙◌, arith, length, refl, subst, sym, ◌≤◌}
use Rattle.std.specs.Prelude.{Err}
use Rattle.std.proofs.lemmas.Bool.{false≢true}
use Rattle.std.proofs.lemmas.Result.{err_from_is_err_and, IfErr-weaker, IfOk-weaker}
use Rattle.past_pages.specs.Laying.{StandsFrom}
use Rattle.past_pages.proofs.Failing.{error_from, failing_on, none_failed}
use Rattle.past_pages.proofs.StillReads.{still_both, still_reads}
use Rattle.past_pages.specs.Marks.{ShowsCopy}
use Rattle.desk_past.specs.Past.{HasStart, all_deeds, moment}
use Rattle.desk_past.proofs.Gone.{start_stands, told_end, told_pages, told_room, way_gone, way_there}
use Rattle.desk_past.proofs.InMemory.{fails_none, laying_of_reads, steps_of_reads, stop_from}
use Rattle.desk_past.proofs.Opened.{if_some_at, if_some_then, some_at, some_then}
use Rattle.desk_past.proofs.reading.in_pages.Goals.{then-told-sectors-via-then-told-sectors, then-told-sectors-via-else-told-sectors+then-told-lt-STORE_SECTORS, then-told-sectors-via-else-told-sectors+else-told-lt-STORE_SECTORS+then-base-told}
use Rattle.desk_past.proofs.reading.in_pages.Goals as goal

pub returns-then-told-sectors-clause-is_one : goal.returns-then-told-sectors-clause-is_one
returns-then-told-sectors-clause-is_one g c = λ honest other start pages has is low high.
    let room = told_room has c.args.base is in
    let end = has.room in
    elim c.then-told-sectors.branch [
      | then-told-sectors-via-then-told-sectors w ↦ omega (arith, room, end, w.if-told-sectors.true, c.sectors.ensures)
      | then-told-sectors-via-else-told-sectors+then-told-lt-STORE_SECTORS w ↦
          omega (arith, room, end, w.if-told-lt-STORE_SECTORS.true)
      | then-told-sectors-via-else-told-sectors+else-told-lt-STORE_SECTORS+then-base-told w ↦
          omega (arith, room, end, w.if-base-told.true)
    ]

pub returns-in_default-clause-is_one : goal.returns-in_default-clause-is_one
returns-in_default-clause-is_one g c = λ honest other start pages has is low high.
    (rw c.in_default.is at c.in_ok-first.ensures.before) honest pages (told_pages has c.args.base is) has.good
    (told_end has c.args.base is) start.before has.counted

pub returns-in_default-clause-ahead : goal.returns-in_default-clause-ahead
returns-in_default-clause-ahead g c = λ honest other start pages has is low asked high.
    (rw c.in_default.is at c.in_ok-first.ensures.before) honest pages (told_pages has c.args.base is) has.good
    (told_end has c.args.base is) start.before has.counted

-- ---- before the start

pub returns-then-told-sectors-clause-ahead : goal.returns-then-told-sectors-clause-ahead
returns-then-told-sectors-clause-ahead g c = λ honest other start pages has is low asked high.
    let room = told_room has c.args.base is in
    let end = has.room in
    elim c.then-told-sectors.branch [
      | then-told-sectors-via-then-told-sectors w ↦ omega (arith, room, end, w.if-told-sectors.true, c.sectors.ensures)
      | then-told-sectors-via-else-told-sectors+then-told-lt-STORE_SECTORS w ↦
          omega (arith, room, end, w.if-told-lt-STORE_SECTORS.true)
      | then-told-sectors-via-else-told-sectors+else-told-lt-STORE_SECTORS+then-base-told w ↦
          omega (arith, room, end, w.if-base-told.true)
    ]

pub returns-then-k-first-clause-is_one : goal.returns-then-k-first-clause-is_one
returns-then-k-first-clause-is_one g c = IfOk-weaker c.before_start.result _ _
    (λ found fact honest other start pages has is low high.
    let first = (rw c.in-Some.is at c.in_ok-first.ensures.before) honest pages (told_pages has c.args.base is) has.good
    (told_end has c.args.base is) start.before has.counted in
    absurd (omega (arith, first, low, c.if-k-first.true))) c.before_start.ensures.is_one

pub returns-then-k-first-clause-ahead : goal.returns-then-k-first-clause-ahead
returns-then-k-first-clause-ahead g c = IfOk-weaker c.before_start.result _ _
    (λ found fact honest other start pages has is low asked high.
    let t = has.written.0 in
    let still = c.before_pages.ensures.still in
    let reads = still_reads g.D.Disk still (c.shows_what_crashes_leave.ensures.quiet c.requires.usable honest) honest in
    fact (still.left.disk.device.still honest) other t.standing
    (subst (λ x. StandsFrom x c.args.base t.standing) (sym reads) (start_stands t c.args.base is)) asked high
    (omega (arith, low, t.counted))) c.before_start.ensures.is_one

pub returns-then-k-first-clause-there : goal.returns-then-k-first-clause-there
returns-then-k-first-clause-there g c = IfOk-weaker c.before_start.result _ _ (λ found fact. if_some_then found fact
    (λ back asked honest other unasked start pages has is high. absurd (false≢true (sym unasked ∙ asked))))
    c.before_start.ensures.there

pub returns-then-k-first-clause-still : goal.returns-then-k-first-clause-still
returns-then-k-first-clause-still g c = still_both g.D.Disk c.before_pages.ensures.still c.before_start.ensures.still

pub returns-then-k-first-clause-faults : goal.returns-then-k-first-clause-faults
returns-then-k-first-clause-faults g c = failing_on c.before_start.ensures.faults (λ e named. named)
    (none_failed c.in_ok-first.ensures.faults)

pub returns-then-k-first-clause-stops : goal.returns-then-k-first-clause-stops
returns-then-k-first-clause-stops g c = IfErr-weaker c.before_start.result _ _ (λ e stops honest other start has is.
    let still = c.before_pages.ensures.still in
    let reads = still_reads g.D.Disk still (c.shows_what_crashes_leave.ensures.quiet c.requires.usable honest) honest in
    stops (still.left.disk.device.still honest) other has.standing
    (subst (λ x. StandsFrom x c.args.base has.standing) (sym reads) (start_stands has c.args.base is)))
    c.before_start.ensures.stops

-- it isn't before the start

pub returns-in_default-2-clause-ahead : goal.returns-in_default-2-clause-ahead
returns-in_default-2-clause-ahead g c = λ honest other start pages has is low asked high.
    let first = (rw c.in-Some.is at c.in_ok-first.ensures.before) honest pages (told_pages has c.args.base is) has.good
    (told_end has c.args.base is) start.before has.counted in
    absurd (omega (arith, first, low, c.if-k-first.false))

pub returns-clause-ahead : goal.returns-clause-ahead
returns-clause-ahead g c = IfOk-weaker c.gone.result _ _ (λ found led honest other start pages has is low asked high.
    let first = (rw c.in-Some.is at c.in_ok-first.ensures.before) honest pages (told_pages has c.args.base is) has.good
    (told_end has c.args.base is) start.before has.counted in
    absurd (omega (arith, first, low, c.if-k-first.false))) c.gone.ensures.led

pub returns-in_err-way-clause-still : goal.returns-in_err-way-clause-still
returns-in_err-way-clause-still g c = still_both g.D.Disk c.before_pages.ensures.still c.way_to.ensures.still

pub returns-in_default-2-clause-still : goal.returns-in_default-2-clause-still
returns-in_default-2-clause-still g c = still_both g.D.Disk c.before_pages.ensures.still c.way_to.ensures.still

pub returns-clause-still : goal.returns-clause-still
returns-clause-still g c = still_both g.D.Disk
    (still_both g.D.Disk c.before_pages.ensures.still c.way_to.ensures.still) c.gone.ensures.still

pub returns-in_default-2-clause-is_one : goal.returns-in_default-2-clause-is_one
returns-in_default-2-clause-is_one g c = λ honest other start pages has is low high.
    let first = (rw c.in-Some.is at c.in_ok-first.ensures.before) honest pages (told_pages has c.args.base is) has.good
    (told_end has c.args.base is) start.before has.counted in
    way_there g.D.Disk has c.args.base is honest (c.shows_what_crashes_leave.ensures.quiet c.requires.usable honest)
    c.before_pages.ensures.still c.in-Some.first c.args.k first high (λ s p. ⊥)
    (rw c.in_default-2.is at c.in_ok-way.ensures.ways)

pub returns-clause-is_one : goal.returns-clause-is_one
returns-clause-is_one g c = IfOk-weaker c.gone.result _ _ (λ found led honest other start pages has is low high.
    let first = (rw c.in-Some.is at c.in_ok-first.ensures.before) honest pages (told_pages has c.args.base is) has.good
    (told_end has c.args.base is) start.before has.counted in
    some_then found
    (way_gone g.D.Disk has c.args.base is honest (c.shows_what_crashes_leave.ensures.quiet c.requires.usable honest)
    c.before_pages.ensures.still c.in-Some.first c.args.k first high g.E.Disk c.way_to.ensures.still
    c.in-Some-2.way.legs.items c.in-Some-2.way.from found (rw c.in-Some-2.is at c.in_ok-way.ensures.ways)
    (λ h. led h other))
    (λ shown to. to.desktop)) c.gone.ensures.led

pub returns-clause-there : goal.returns-clause-there
returns-clause-there g c = IfOk-weaker c.gone.result _ _ (λ found led. if_some_at found
    (λ shown at honest other unasked start pages has is high.
    let first = (rw c.in-Some.is at c.in_ok-first.ensures.before) honest pages (told_pages has c.args.base is) has.good
    (told_end has c.args.base is) start.before has.counted in
    let low : start.before ≤ c.args.k = omega (arith, first, c.if-k-first.false) in (
      low,
      (some_at (ShowsCopy g.E.Disk (moment start (all_deeds pages) c.args.k))
          (way_gone g.D.Disk has c.args.base is honest
          (c.shows_what_crashes_leave.ensures.quiet c.requires.usable honest)
          c.before_pages.ensures.still c.in-Some.first c.args.k first high g.E.Disk c.way_to.ensures.still
          c.in-Some-2.way.legs.items c.in-Some-2.way.from found (rw c.in-Some-2.is at c.in_ok-way.ensures.ways)
          (λ h. led h other)) at).honest,
    ))) c.gone.ensures.led

pub returns-in_err-first-clause-faults : goal.returns-in_err-first-clause-faults
returns-in_err-first-clause-faults g c =
    let p = err_from_is_err_and c.from_residual.result c.from_residual.ensures.1 in
    let failed : c.before_pages.result ≡ Err p.0 = cc (p.1, p.2, c.in_err-first.was) in
    error_from c.before_pages.ensures.faults laying_of_reads refl failed p.1

pub returns-in_err-first-clause-stops : goal.returns-in_err-first-clause-stops
returns-in_err-first-clause-stops g c =
    let p = err_from_is_err_and c.from_residual.result c.from_residual.ensures.1 in
    let failed : c.before_pages.result ≡ Err p.0 = cc (p.1, p.2, c.in_err-first.was) in
    stop_from c.before_pages.ensures.faults.errors (λ e named honest other start has is. steps_of_reads e named) failed
    p.1

pub returns-in_err-way-clause-faults : goal.returns-in_err-way-clause-faults
returns-in_err-way-clause-faults g c =
    let p = err_from_is_err_and c.from_residual-in_err-way.result c.from_residual-in_err-way.ensures.1 in
    let failed : c.way_to.result ≡ Err p.0 = cc (p.1, p.2, c.in_err-way.was) in
    error_from c.way_to.ensures.faults laying_of_reads (none_failed c.in_ok-first.ensures.faults) failed p.1

pub returns-in_err-way-clause-stops : goal.returns-in_err-way-clause-stops
returns-in_err-way-clause-stops g c =
    let p = err_from_is_err_and c.from_residual-in_err-way.result c.from_residual-in_err-way.ensures.1 in
    let failed : c.way_to.result ≡ Err p.0 = cc (p.1, p.2, c.in_err-way.was) in
    stop_from c.way_to.ensures.faults.errors (λ e named honest other start has is. steps_of_reads e named) failed p.1

pub returns-clause-stops : goal.returns-clause-stops
returns-clause-stops g c = IfErr-weaker c.gone.result _ _ (λ e stops honest other start has is.
    let still = still_both g.D.Disk c.before_pages.ensures.still c.way_to.ensures.still in
    let reads = still_reads g.D.Disk still (c.shows_what_crashes_leave.ensures.quiet c.requires.usable honest) honest in
    stops (still.left.disk.device.still honest) other start (subst (λ x. HasStart x start) (sym reads) has) is)
    c.gone.ensures.stops

pub returns-in_default-2-clause-faults : goal.returns-in_default-2-clause-faults
returns-in_default-2-clause-faults g c = fails_none
    (none_failed c.in_ok-way.ensures.faults ∙ none_failed c.in_ok-first.ensures.faults)

pub returns-clause-faults : goal.returns-clause-faults
returns-clause-faults g c = failing_on c.gone.ensures.faults (λ e named. named)
    (none_failed c.in_ok-way.ensures.faults ∙ none_failed c.in_ok-first.ensures.faults)
