use Rattle.std.proofs.Common.{refl}
use Rattle.std.specs.Prelude.{None}
use Rattle.std.proofs.lemmas.Result.{err_from_is_err_and}
use Rattle.desk_sitting.proofs.Marks.{looks_no_more, looks_none, looks_so}
use Rattle.desk_sitting.proofs.sitting.Sitting.look_behind.Goals as goal

pub returns-then-not-is_empty-clause-knows : goal.returns-then-not-is_empty-clause-knows
returns-then-not-is_empty-clause-knows g c = (None, refl)

pub returns-then-not-is_empty-clause-looks : goal.returns-then-not-is_empty-clause-looks
returns-then-not-is_empty-clause-looks g c = looks_none g.D.Disk tt c.args.store.now c.requires

pub returns-in_err-found-clause-looks : goal.returns-in_err-found-clause-looks
returns-in_err-found-clause-looks g c =
    let p = err_from_is_err_and c.from_residual.result c.from_residual.ensures.1 in
    rw (p.1, p.2) (looks_no_more g.D.Disk _ _ _ c.in_err-found.ensures.looks)

pub returns-clause-knows : goal.returns-clause-knows
returns-clause-knows g c = (_, c.recall.ensures)

pub returns-clause-looks : goal.returns-clause-looks
returns-clause-looks g c = looks_so g.D.Disk _ tt _ _ c.in_ok-found.ensures.looks
