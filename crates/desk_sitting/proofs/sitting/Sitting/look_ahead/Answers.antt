use Rattle.std.proofs.Common.{refl}
use Rattle.std.specs.Prelude.{None}
use Rattle.std.proofs.lemmas.Result.{err_from_is_err_and}
use Rattle.desk_sitting.proofs.Marks.{looks_no_more, looks_none, looks_so, looks_starved}
use Rattle.desk_sitting.proofs.Travelling.{foreseen_at}
use Rattle.desk_sitting.proofs.sitting.Sitting.look_ahead.Goals as goal

pub returns-then-has_again-clause-knows : goal.returns-then-has_again-clause-knows
returns-then-has_again-clause-knows g c = (None, refl)

pub returns-then-has_again-clause-looks : goal.returns-then-has_again-clause-looks
returns-then-has_again-clause-looks g c = looks_none g.D.Disk tt c.args.store.now c.requires

pub returns-in_err-found-clause-looks : goal.returns-in_err-found-clause-looks
returns-in_err-found-clause-looks g c =
    let p = err_from_is_err_and c.from_residual.result c.from_residual.ensures.1 in
    rw (p.1, p.2) (looks_no_more g.D.Disk _ _ _ c.in_err-found.ensures.looks)

pub returns-in_err-foresee-clause-looks : goal.returns-in_err-foresee-clause-looks
returns-in_err-foresee-clause-looks g c =
    let p = err_from_is_err_and c.from_residual-in_err-foresee.result c.from_residual-in_err-foresee.ensures.1 in
    rw (p.1, p.2) (looks_starved g.D.Disk _ _ _ c.in_ok-found.ensures.looks)

pub returns-clause-knows : goal.returns-clause-knows
returns-clause-knows g c = foreseen_at _ _ _ _ _ c.place-here.ensures c.in_ok-foresee.ensures

pub returns-clause-looks : goal.returns-clause-looks
returns-clause-looks g c = looks_so g.D.Disk _ tt _ _ c.in_ok-found.ensures.looks
