use Rattle.std.proofs.Common.{ap}
use Rattle.screen_drawing.specs.Seen.{cells_seen}
use Rattle.screen_drawing.proofs.Seeing.{kept_wide}
use Rattle.screen_drawing.proofs.seen_row.SeenRow.take.Goals as goal

pub returns : goal.returns
returns c = ap (λ n. cells_seen c.args.left c.args.columns n c.args.cells.now)
    (kept_wide _ _ _ _ c.args.self.now c.self.view_is)
