use Rattle.desk_core.specs.Kept.{kept_desktop}
use Rattle.caret_moves.specs.Leading.{cell_from, character_cell}
use Rattle.caret_moves.proofs.ReadsThen.{tells_so}
use Rattle.caret_moves.proofs.StretchTold.{cell_own}
use Rattle.caret_moves.proofs.leading.character_cell.Goals as goal

pub returns : goal.returns
returns g c = tells_so g.S.CharSource _ _ (kept_desktop c.args.desk.now)
    (λ d. cell_from d c.args.id c.main_frame-frame.result.org c.args.pos) (λ d. character_cell d c.args.id c.args.pos)
    c.cell_from.result
    (cell_own (g.S.CharSource.characters c.args.source.now) (kept_desktop c.args.desk.now) c.args.id
    c.main_frame-frame.result.org c.args.pos c.main_frame-frame.ensures) c.cell_from.ensures
