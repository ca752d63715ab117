use Rattle.std.proofs.Common.{◌∙◌, Err, ap, refl}
use Rattle.std.proofs.lemmas.Result.{err_from_is_err_and}
use Rattle.terminal_sittings.specs.Serving.{turn_state_of}
use Rattle.terminal_sittings.proofs.Between.{between, broken_off}
use Rattle.terminal_sittings.proofs.Turning.{store_no_keyboard, store_no_output}
use Rattle.terminal_sittings.proofs.serving.go.Goals as goal

pub returns-clause-between : goal.returns-clause-between
returns-clause-between g c = λ parser known out.
    between g.D.Disk (turn_state_of parser c.args.sitting.now c.args.store.now known out)
    (turn_state_of parser c.travel.new.sitting c.travel.new.store known out)
    (record { parser = refl; out = refl; known = refl }) tt tt c.in_ok-travel.ensures

pub returns-in_err-travel-clause-between : goal.returns-in_err-travel-clause-between
returns-in_err-travel-clause-between g c =
    let p = err_from_is_err_and c.from_residual.result c.from_residual.ensures.1 in
    λ parser known out.
    broken_off g.D.Disk (turn_state_of parser c.args.sitting.now c.args.store.now known out)
    (turn_state_of parser c.travel.new.sitting c.travel.new.store known out)
    (record { parser = refl; out = refl; known = refl }) c.from_residual.result
    c.in_err-travel.field-0.0 (p.1 ∙ ap (λ e. Err e) p.2) c.in_err-travel.ensures

pub returns-in_err-travel-clause-cause : goal.returns-in_err-travel-clause-cause
returns-in_err-travel-clause-cause g c =
    let p = err_from_is_err_and c.from_residual.result c.from_residual.ensures.1 in
    rw (p.1, p.2) (store_no_keyboard c.in_err-travel.field-0.0)

pub returns-in_err-travel-clause-unsent : goal.returns-in_err-travel-clause-unsent
returns-in_err-travel-clause-unsent g c =
    let p = err_from_is_err_and c.from_residual.result c.from_residual.ensures.1 in
    rw (p.1, p.2) (store_no_output c.in_err-travel.field-0.0)
