use Rattle.std.proofs.Common.{Err, ap, false, ◌≡◌, ◌∙◌}
use Rattle.std.proofs.lemmas.Result.{IfErr-at_err, IfOk-at_ok, err_from_is_err_and}
use Rattle.store_slots.specs.Errors.{OfLook}
use Rattle.desk_journal.specs.Undoing.{IsLeft}
use Rattle.past_pages.proofs.StillReads.{still_both}
use Rattle.desk_past.proofs.InMemory.{stop_at}
use Rattle.desk_past.proofs.Looks.{looks_then, only_read}
use Rattle.desk_past.proofs.Sparing.{device_used}
use Rattle.past_steps.specs.Steps.{BreaksOff, step_deeds}
use Rattle.past_steps.proofs.Turned.{look_broken, look_fails, looks_end, then_done, then_fails, turn_broken, turn_made}
use Rattle.past_steps.proofs.back.turned_back.Goals as goal

-- ---- the past tells of no step

pub returns-in_err-last-clause-breaks : goal.returns-in_err-last-clause-breaks
returns-in_err-last-clause-breaks g c =
    let p = err_from_is_err_and c.from_residual.result c.from_residual.ensures.1 in
    stop_at (λ error. BreaksOff g.D.Disk c.args.count error c.args.store.now c.last_step.new.store)
    (look_broken g.D.Disk c.args.count c.in_err-last.field-0.0 c.requires c.in_err-last.ensures.looks)
    (p.1 ∙ ap (λ e. Err e) p.2)

pub returns-in_err-last-clause-device : goal.returns-in_err-last-clause-device
returns-in_err-last-clause-device g c =
    let p = err_from_is_err_and c.from_residual.result c.from_residual.ensures.1 in
    look_fails g.D.Disk (p.1 ∙ ap (λ e. Err e) p.2) c.in_err-last.ensures.looks

pub returns-in_default-clause-none : goal.returns-in_default-clause-none
returns-in_default-clause-none g c =
    only_read g.D.Disk _ c.args.store.now c.last_step.new.store c.requires c.in_ok-last.ensures.looks

pub returns-in_default-clause-device : goal.returns-in_default-clause-device
returns-in_default-clause-device g c = looks_end g.D.Disk _ c.in_ok-last.ensures.looks

-- ---- they don't lead to what the store shows

pub returns-in_err-to-clause-breaks : goal.returns-in_err-to-clause-breaks
returns-in_err-to-clause-breaks g c =
    let p = err_from_is_err_and c.from_residual-in_err-to.result c.from_residual-in_err-to.ensures.1 in
    stop_at (λ error. BreaksOff g.D.Disk c.args.count error c.args.store.now c.desktop_before.new.store)
    (look_broken g.D.Disk c.args.count c.in_err-to.field-0.0 c.requires
    (looks_then g.D.Disk _ _ c.args.store.now c.last_step.new.store c.desktop_before.new.store
    c.in_ok-last.ensures.looks c.in_err-to.ensures.looks)) (p.1 ∙ ap (λ e. Err e) p.2)

pub returns-in_err-to-clause-device : goal.returns-in_err-to-clause-device
returns-in_err-to-clause-device g c =
    let p = err_from_is_err_and c.from_residual-in_err-to.result c.from_residual-in_err-to.ensures.1 in
    look_fails g.D.Disk (p.1 ∙ ap (λ e. Err e) p.2)
    (looks_then g.D.Disk _ _ c.args.store.now c.last_step.new.store c.desktop_before.new.store
    c.in_ok-last.ensures.looks c.in_err-to.ensures.looks)

pub returns-in_default-2-clause-none : goal.returns-in_default-2-clause-none
returns-in_default-2-clause-none g c = only_read g.D.Disk _ c.args.store.now c.desktop_before.new.store c.requires
    (looks_then g.D.Disk _ _ c.args.store.now c.last_step.new.store c.desktop_before.new.store
    c.in_ok-last.ensures.looks c.in_ok-to.ensures.looks)

pub returns-in_default-2-clause-device : goal.returns-in_default-2-clause-device
returns-in_default-2-clause-device g c = looks_end g.D.Disk _
    (looks_then g.D.Disk _ _ c.args.store.now c.last_step.new.store c.desktop_before.new.store
    c.in_ok-last.ensures.looks c.in_ok-to.ensures.looks)

-- ---- the store is turned

pub returns-in_err-turn_to-clause-breaks : goal.returns-in_err-turn_to-clause-breaks
returns-in_err-turn_to-clause-breaks g c =
    let d = g.D.Disk in
    let old = c.args.store.now in
    let first = only_read d _ old c.last_step.new.store c.requires c.in_ok-last.ensures.looks in
    let second = only_read d _ c.last_step.new.store c.desktop_before.new.store first.usable c.in_ok-to.ensures.looks in
    let p = err_from_is_err_and c.from_residual-in_err-turn_to.result c.from_residual-in_err-turn_to.ensures.1 in
    let failed : c.turn_to.result ≡ Err p.0 = cc (p.2, c.in_err-turn_to.was) in
    stop_at (λ error. BreaksOff d c.args.count error old c.turn_to.new.store)
    (turn_broken d c.requires first second c.shows_what_crashes_leave.ensures.quiet
    c.shows_what_crashes_leave-2.ensures.quiet c.in-Some.last.base c.in-Some.last.k (step_deeds c.in-Some.last.step)
    c.in-Some-2.to (rw c.in-Some.is at c.in_ok-last.ensures.part) (rw c.in-Some-2.is at c.in_ok-to.ensures.was)
    (rw c.in-Some-2.is at c.in_ok-to.ensures.leads) c.args.count (rw c.in-Some.is at c.in_ok-last.ensures.few)
    c.turn_to.ensures.any_store c.turn_to.ensures.any_moment
    p.0 (λ is. c.turn_to.ensures.memory (failed ∙ ap (λ e. Err e) is))
    (IfErr-at_err (λ _. c.turn_to.new.store.must_reopen ≡ false → IsLeft d c.desktop_before.new.store c.turn_to.new.store)
    failed c.turn_to.ensures.left) (λ is. c.turn_to.ensures.reopen.only (failed ∙ ap (λ e. Err e) is))
    (IfErr-at_err OfLook failed c.turn_to.ensures.device.faults.errors)) p.1

pub returns-in_err-turn_to-clause-device : goal.returns-in_err-turn_to-clause-device
returns-in_err-turn_to-clause-device g c =
    let p = err_from_is_err_and c.from_residual-in_err-turn_to.result c.from_residual-in_err-turn_to.ensures.1 in
    let failed : c.turn_to.result ≡ Err p.0 = cc (p.2, c.in_err-turn_to.was) in
    then_fails g.D.Disk c.turn_to.result
    (looks_then g.D.Disk _ _ c.args.store.now c.last_step.new.store c.desktop_before.new.store
    c.in_ok-last.ensures.looks c.in_ok-to.ensures.looks) (device_used g.D.Disk c.turn_to.ensures.device) failed p.1

pub returns-then-branch-clause-turned : goal.returns-then-branch-clause-turned
returns-then-branch-clause-turned g c =
    let d = g.D.Disk in
    let old = c.args.store.now in
    let first = only_read d _ old c.last_step.new.store c.requires c.in_ok-last.ensures.looks in
    let second = only_read d _ c.last_step.new.store c.desktop_before.new.store first.usable c.in_ok-to.ensures.looks in
    turn_made d c.requires first second c.shows_what_crashes_leave.ensures.quiet
    c.shows_what_crashes_leave-2.ensures.quiet c.in-Some.last.base c.in-Some.last.k (step_deeds c.in-Some.last.step)
    c.in-Some-2.to (rw c.in-Some.is at c.in_ok-last.ensures.part) (rw c.in-Some-2.is at c.in_ok-to.ensures.was)
    (rw c.in-Some-2.is at c.in_ok-to.ensures.leads) c.args.count (rw c.in-Some.is at c.in_ok-last.ensures.few)
    c.turn_to.ensures.any_store c.turn_to.ensures.any_moment
    (rw c.in-Some.is at c.in_ok-last.ensures.some)
    (c.in_ok-turn_to.ensures.done c.if-branch.true)

pub returns-then-branch-clause-device : goal.returns-then-branch-clause-device
returns-then-branch-clause-device g c = then_done g.D.Disk c.turn_to.result
    (looks_then g.D.Disk _ _ c.args.store.now c.last_step.new.store c.desktop_before.new.store
    c.in_ok-last.ensures.looks c.in_ok-to.ensures.looks) (device_used g.D.Disk c.turn_to.ensures.device) _ c.in_ok-turn_to.was

pub returns-else-branch-clause-none : goal.returns-else-branch-clause-none
returns-else-branch-clause-none g c = still_both g.D.Disk
    (only_read g.D.Disk _ c.args.store.now c.desktop_before.new.store c.requires
    (looks_then g.D.Disk _ _ c.args.store.now c.last_step.new.store c.desktop_before.new.store
    c.in_ok-last.ensures.looks c.in_ok-to.ensures.looks)) (c.in_ok-turn_to.ensures.not_done c.if-branch.false).still

pub returns-else-branch-clause-device : goal.returns-else-branch-clause-device
returns-else-branch-clause-device g c = then_done g.D.Disk c.turn_to.result
    (looks_then g.D.Disk _ _ c.args.store.now c.last_step.new.store c.desktop_before.new.store
    c.in_ok-last.ensures.looks c.in_ok-to.ensures.looks) (device_used g.D.Disk c.turn_to.ensures.device) _ c.in_ok-turn_to.was
