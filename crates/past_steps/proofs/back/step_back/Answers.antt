use Rattle.std.proofs.Common.{Err, Ok, ap, false, inl, refl, rules, sym, ◌≡◌, ◌≢◌, ◌∙◌}
use Rattle.std.proofs.lemmas.Bool.{false≢true}
use Rattle.std.proofs.lemmas.Result.{IfErr-at_err, IfOk-weaker, err_from_is_err_and}
use Rattle.store_slots.specs.Errors.{OfLook}
use Rattle.desk_journal.specs.Errors.{Fault, MustReopen}
use Rattle.past_pages.proofs.Failing.{closed_of, error_from, failing_on, none_failed, read_none}
use Rattle.desk_past.proofs.Begun.{same_both}
use Rattle.desk_past.proofs.InMemory.{fails_none, stop_at}
use Rattle.desk_past.proofs.Looks.{left_twice}
use Rattle.past_steps.specs.Steps.{step_deeds, only_read as nothing_done}
use Rattle.past_steps.proofs.Turned.{closed_device, closed_reopen, leaves_after, leaves_stepped, no_reopen, taken_after}
use Rattle.past_steps.proofs.back.step_back.Goals as goal

-- ---- the store must be opened again

pub returns-then-is_err-clause-any_moment : goal.returns-then-is_err-clause-any_moment
returns-then-is_err-clause-any_moment g c = nothing_done (read_none g.D.Disk c.args.store.now.disk)

pub returns-then-is_err-clause-left : goal.returns-then-is_err-clause-left
returns-then-is_err-clause-left g c = λ err usable.
    let must = closed_of c.args.store.now.must_reopen c.info.result c.info.ensures.value
    (sym c.is_err.ensures.value ∙ c.if-is_err.true) in absurd (false≢true (sym usable ∙ must))

pub returns-then-is_err-clause-reopen : goal.returns-then-is_err-clause-reopen
returns-then-is_err-clause-reopen g c = closed_reopen c.args.store.now
    (closed_of c.args.store.now.must_reopen c.info.result c.info.ensures.value
    (sym c.is_err.ensures.value ∙ c.if-is_err.true))

pub returns-then-is_err-clause-device : goal.returns-then-is_err-clause-device
returns-then-is_err-clause-device g c = closed_device g.D.Disk c.args.store.now
    (closed_of c.args.store.now.must_reopen c.info.result c.info.ensures.value
    (sym c.is_err.ensures.value ∙ c.if-is_err.true))

-- ---- a turn was tried in vain

pub returns-in_err-step-clause-any_moment : goal.returns-in_err-step-clause-any_moment
returns-in_err-step-clause-any_moment g c = c.in_err-step.ensures.breaks.any_moment

pub returns-in_err-step-clause-left : goal.returns-in_err-step-clause-left
returns-in_err-step-clause-left g c = λ err usable. c.in_err-step.ensures.breaks.left

pub returns-in_err-step-clause-in_use : goal.returns-in_err-step-clause-in_use
returns-in_err-step-clause-in_use g c =
    let p = err_from_is_err_and c.from_residual.result c.from_residual.ensures.1 in
    stop_at (λ e. e ≢ Fault → e ≢ MustReopen → c.turned_back.new.store.must_reopen ≡ false)
    (λ no_fault no_reopen. c.in_err-step.ensures.breaks.in_use no_fault) (p.1 ∙ ap (λ e. Err e) p.2)

pub returns-in_err-step-clause-stops : goal.returns-in_err-step-clause-stops
returns-in_err-step-clause-stops g c = λ honest.
    let p = err_from_is_err_and c.from_residual.result c.from_residual.ensures.1 in
    stop_at OfLook c.in_err-step.ensures.breaks.named (p.1 ∙ ap (λ e. Err e) p.2)

pub returns-in_err-step-clause-reopen : goal.returns-in_err-step-clause-reopen
returns-in_err-step-clause-reopen g c =
    let usable : c.args.store.now.must_reopen ≡ false = search rules in
    let p = err_from_is_err_and c.from_residual.result c.from_residual.ensures.1 in
    no_reopen c.turned_back.new.store c.from_residual.result usable (λ is.
    c.in_err-step.ensures.breaks.other (cc (p.1, p.2, is)))

pub returns-in_err-step-clause-device : goal.returns-in_err-step-clause-device
returns-in_err-step-clause-device g c =
    let p = err_from_is_err_and c.from_residual.result c.from_residual.ensures.1 in record {
      same = c.in_err-step.ensures.device.same;
      faults = error_from c.in_err-step.ensures.device.faults (λ e look. inl look) refl refl
          (p.1 ∙ ap (λ e. Err e) p.2);
    }

-- ---- the store was turned

pub returns-in-Some-clause-any_moment : goal.returns-in-Some-clause-any_moment
returns-in-Some-clause-any_moment g c = leaves_stepped g.D.Disk c.args.count (step_deeds c.in-Some.step)
    (rw c.in-Some.is at c.in_ok-step.ensures.turned)

pub returns-in-Some-clause-ok : goal.returns-in-Some-clause-ok
returns-in-Some-clause-ok g c = rw c.in-Some.is at c.in_ok-step.ensures.turned

pub returns-in-Some-clause-reopen : goal.returns-in-Some-clause-reopen
returns-in-Some-clause-reopen g c =
    let usable : c.args.store.now.must_reopen ≡ false = search rules in
    no_reopen c.turned_back.new.store (Ok c.in-Some.step) usable (λ is. let wrong : ⊥ = cc is in wrong)

pub returns-in-Some-clause-device : goal.returns-in-Some-clause-device
returns-in-Some-clause-device g c = record {
  same = c.in_ok-step.ensures.device.same;
  faults = fails_none (none_failed c.in_ok-step.ensures.device.faults);
}

-- ---- the store takes them back itself

pub returns-in-None-clause-any_moment : goal.returns-in-None-clause-any_moment
returns-in-None-clause-any_moment g c = leaves_after g.D.Disk c.args.count
    (rw c.in-None.is at c.in_ok-step.ensures.none) c.undone.ensures.any_moment

pub returns-in-None-clause-ok : goal.returns-in-None-clause-ok
returns-in-None-clause-ok g c = IfOk-weaker c.undone.result _ _ (λ step taken.
    taken_after g.D.Disk c.args.count (step_deeds step) (rw c.in-None.is at c.in_ok-step.ensures.none) taken)
    c.undone.ensures.ok

pub returns-in-None-clause-left : goal.returns-in-None-clause-left
returns-in-None-clause-left g c = λ err usable in_use.
    let still = (rw c.in-None.is at c.in_ok-step.ensures.none) in
    left_twice g.D.Disk still.left (c.undone.ensures.left err still.usable in_use)

pub returns-in-None-clause-stops : goal.returns-in-None-clause-stops
returns-in-None-clause-stops g c = λ honest.
    let still = (rw c.in-None.is at c.in_ok-step.ensures.none) in
    c.undone.ensures.stops (still.left.disk.device.still honest)

pub returns-in-None-clause-reopen : goal.returns-in-None-clause-reopen
returns-in-None-clause-reopen g c =
    let usable : c.args.store.now.must_reopen ≡ false = search rules in
    let still = (rw c.in-None.is at c.in_ok-step.ensures.none) in
    no_reopen c.undone.new.store c.undone.result usable (λ is.
    false≢true (sym still.usable ∙ c.undone.ensures.reopen.only is))

pub returns-in-None-clause-device : goal.returns-in-None-clause-device
returns-in-None-clause-device g c = record {
  same = same_both g.D.Disk c.in_ok-step.ensures.device.same c.undone.ensures.device.same;
  faults = failing_on c.undone.ensures.device.faults (λ e named. named)
      (none_failed c.in_ok-step.ensures.device.faults);
}
