use Rattle.std.proofs.Common.{arith}
use Rattle.screen_drawing.proofs.Seeing.{kept_same}
use Rattle.screen_drawing.proofs.seen_row.SeenRow.is_of.Goals as goal

pub returns : goal.returns
returns c same = kept_same _ _ _ _ c.args.self.now c.self.view_is c.args.left c.args.columns c.args.cells.now
    (omega arith) (omega arith) (c.are_same.ensures same)
