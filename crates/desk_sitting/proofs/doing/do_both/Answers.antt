use Rattle.std.proofs.Common.{[], ◌∷◌}
use Rattle.std.proofs.lemmas.Result.{err_from_is_err_and}
use Rattle.desk_sitting.proofs.Done.{one_taken, both_taken, rest_left}
use Rattle.desk_sitting.proofs.doing.do_both.Goals as goal

pub returns-in_err-press : goal.returns-in_err-press
returns-in_err-press g c =
    let p = err_from_is_err_and c.from_residual.result c.from_residual.ensures.1 in
    rw (p.1, p.2) (rest_left g.D.Disk (c.args.second ∷ [])
    (one_taken g.D.Disk c.args.first _ _ _ _ _ c.in_err-press.ensures))

pub returns : goal.returns
returns g c = both_taken g.D.Disk (one_taken g.D.Disk c.args.first _ _ _ _ _ c.in_ok-press.ensures)
    (one_taken g.D.Disk c.args.second _ _ _ _ _ c.press-2.ensures)
