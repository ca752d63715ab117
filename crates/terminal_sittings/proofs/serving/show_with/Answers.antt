use Rattle.std.proofs.Common.{refl}
use Rattle.std.proofs.lemmas.Result.{err_from_is_err_and}
use Rattle.desk_sitting.proofs.Looked.{looked_at}
use Rattle.terminal_sittings.proofs.Turning.{cut_behind, output_calm, output_rose, output_sent, store_no_output}
use Rattle.terminal_sittings.proofs.serving.show_with.Goals as goal

pub returns-in_err-screen-clause-looks : goal.returns-in_err-screen-clause-looks
returns-in_err-screen-clause-looks g c = looked_at g.D.Disk c.screen.result _ _ c.requires c.screen.ensures.looks

pub returns-in_err-paint-clause-looks : goal.returns-in_err-paint-clause-looks
returns-in_err-paint-clause-looks g c = looked_at g.D.Disk c.screen.result _ _ c.requires c.screen.ensures.looks

pub returns-clause-looks : goal.returns-clause-looks
returns-clause-looks g c = looked_at g.D.Disk c.screen.result _ _ c.requires c.screen.ensures.looks

pub returns-clause-unshown : goal.returns-clause-unshown
returns-clause-unshown g c = cut_behind _ _ _ _ _ _ _ _ _ _ c.follow.result c.look.ensures
    c.in_ok-screen.ensures.shown c.in_ok-paint.ensures.painted c.follow.ensures.sent.front c.follow.ensures.end

pub returns-in_err-screen-clause-output : goal.returns-in_err-screen-clause-output
returns-in_err-screen-clause-output g c =
    let p = err_from_is_err_and c.from_residual.result c.from_residual.ensures.1 in
    rw (p.1, p.2) (output_calm _ _ _ (store_no_output c.in_err-screen.field-0.0) refl)

pub returns-in_err-paint-clause-output : goal.returns-in_err-paint-clause-output
returns-in_err-paint-clause-output g c =
    let p = err_from_is_err_and c.from_residual-in_err-paint.result c.from_residual-in_err-paint.ensures.1 in
    rw (p.1, p.2) (output_rose _ _ _ c.in_err-paint.ensures.end c.in_err-paint.ensures.cause)

pub returns-clause-output : goal.returns-clause-output
returns-clause-output g c = output_sent c.follow.result _ _ _ c.in_ok-paint.ensures.cause c.follow.ensures.cause
    c.follow.ensures.end
