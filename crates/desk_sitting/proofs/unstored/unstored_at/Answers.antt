use Rattle.std.proofs.lemmas.Result.{err_from_is_err_and}
use Rattle.desk_sitting.proofs.Marks.{looks_no_more, looks_so, looks_then, so_unstored}
use Rattle.desk_sitting.proofs.unstored.unstored_at.Goals as goal

pub returns-in_err-found-clause-looks : goal.returns-in_err-found-clause-looks
returns-in_err-found-clause-looks g c =
    let p = err_from_is_err_and c.from_residual-in_err-found.result c.from_residual-in_err-found.ensures.1 in
    rw (p.1, p.2) (looks_then g.D.Disk tt _ _ _ _ c.in_ok-screen.ensures.looks
    (looks_no_more g.D.Disk _ _ _ c.in_err-found.ensures.looks))

pub returns-clause-told : goal.returns-clause-told
returns-clause-told g c = λ honest. so_unstored c.args.place c.menu_begin-cell.result c.in_ok-found.found c.screen.new.screen
    c.screen.new.self.desktop c.args.store.now.desktop c.cell_if.result c.cell_if.ensures c.menu_begin-cell.ensures
    (c.in_ok-found.ensures.told (c.in_ok-screen.ensures.looks.disk.device.still honest))
    (c.in_ok-screen.ensures.shown honest) (c.in_ok-screen.ensures.looks.desktop honest)

pub returns-clause-looks : goal.returns-clause-looks
returns-clause-looks g c = looks_so g.D.Disk _ c.cell_if.result _ _ (looks_then g.D.Disk tt _ _ _ _
    c.in_ok-screen.ensures.looks c.in_ok-found.ensures.looks)
