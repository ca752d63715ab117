use Rattle.std.proofs.Common.{◌≡◌, ◌∙◌, refl, subst, sym}
use Rattle.std.specs.Prelude.{Err}
use Rattle.std.proofs.lemmas.Result.{err_from_is_err_and}
use Rattle.past_pages.proofs.Failing.{error_from, none_failed}
use Rattle.past_pages.proofs.StillReads.{still_both, still_reads}
use Rattle.desk_past.specs.Routes.{AreLegs}
use Rattle.desk_past.proofs.Gone.{led_to}
use Rattle.desk_past.proofs.InMemory.{fails_none, laying_of_steps, stop_from}
use Rattle.desk_past.proofs.reading.gone.Goals as goal

pub returns-in_err-shown-clause-faults : goal.returns-in_err-shown-clause-faults
returns-in_err-shown-clause-faults g c =
    let p = err_from_is_err_and c.from_residual.result c.from_residual.ensures.1 in
    let failed : c.shown_from.result ≡ Err p.0 = cc (p.1, p.2, c.in_err-shown.was) in
    error_from c.shown_from.ensures.faults (λ e named. named) refl failed p.1

pub returns-in_err-shown-clause-stops : goal.returns-in_err-shown-clause-stops
returns-in_err-shown-clause-stops g c =
    let p = err_from_is_err_and c.from_residual.result c.from_residual.ensures.1 in
    let failed : c.shown_from.result ≡ Err p.0 = cc (p.1, p.2, c.in_err-shown.was) in
    stop_from c.shown_from.ensures.stops (λ e stops. stops) failed p.1

pub returns-in_default-clause-led : goal.returns-in_default-clause-led
returns-in_default-clause-led g c = λ honest other start has is deeds k way.
    (rw c.in_default.is at c.in_ok-shown.ensures.shown) honest other start has is way.was way.begins

pub returns-in_err-go_legs-clause-still : goal.returns-in_err-go_legs-clause-still
returns-in_err-go_legs-clause-still g c = still_both g.D.Disk c.shown_from.ensures.still c.go_legs.ensures.still

pub returns-in_err-go_legs-clause-faults : goal.returns-in_err-go_legs-clause-faults
returns-in_err-go_legs-clause-faults g c =
    let p = err_from_is_err_and c.from_residual-in_err-go_legs.result c.from_residual-in_err-go_legs.ensures.1 in
    let failed : c.go_legs.result ≡ Err p.0 = cc (p.1, p.2, c.in_err-go_legs.was) in
    error_from c.go_legs.ensures.faults laying_of_steps (none_failed c.in_ok-shown.ensures.faults) failed p.1

pub returns-in_err-go_legs-clause-stops : goal.returns-in_err-go_legs-clause-stops
returns-in_err-go_legs-clause-stops g c =
    let p = err_from_is_err_and c.from_residual-in_err-go_legs.result c.from_residual-in_err-go_legs.ensures.1 in
    let failed : c.go_legs.result ≡ Err p.0 = cc (p.1, p.2, c.in_err-go_legs.was) in
    stop_from c.go_legs.ensures.faults.errors (λ e named honest other start has is. named) failed p.1

pub returns-then-not-branch-clause-still : goal.returns-then-not-branch-clause-still
returns-then-not-branch-clause-still g c = still_both g.D.Disk c.shown_from.ensures.still c.go_legs.ensures.still

pub returns-then-not-branch-clause-led : goal.returns-then-not-branch-clause-led
returns-then-not-branch-clause-led g c = λ honest other start has is deeds k way.
    let still = c.shown_from.ensures.still in
    let reads = still_reads g.D.Disk still (c.shows_what_crashes_leave.ensures.quiet c.requires.usable honest) honest in
    let led = c.in_ok-go_legs.ensures.led (still.left.disk.device.still honest) way.done
    (subst (λ x. AreLegs x c.args.end c.args.way.legs.items way.done) (sym reads) way.are) in
    absurd (let wrong : ⊥ = cc (led.0, c.if-not-branch.true) in wrong)

pub returns-then-not-branch-clause-faults : goal.returns-then-not-branch-clause-faults
returns-then-not-branch-clause-faults g c = fails_none
    (none_failed c.in_ok-go_legs.ensures.faults ∙ none_failed c.in_ok-shown.ensures.faults)

pub returns-clause-still : goal.returns-clause-still
returns-clause-still g c = still_both g.D.Disk c.shown_from.ensures.still c.go_legs.ensures.still

pub returns-clause-led : goal.returns-clause-led
returns-clause-led g c = λ honest other start has is deeds k way.
    let still = c.shown_from.ensures.still in
    let reads = still_reads g.D.Disk still (c.shows_what_crashes_leave.ensures.quiet c.requires.usable honest) honest in
    let led = c.in_ok-go_legs.ensures.led (still.left.disk.device.still honest) way.done
    (subst (λ x. AreLegs x c.args.end c.args.way.legs.items way.done) (sym reads) way.are) in
    led_to g.E.Disk way
    ((rw c.in-Some.is at c.in_ok-shown.ensures.shown) honest other start has is way.was way.begins) led.1

pub returns-clause-faults : goal.returns-clause-faults
returns-clause-faults g c = fails_none
    (none_failed c.in_ok-go_legs.ensures.faults ∙ none_failed c.in_ok-shown.ensures.faults)
