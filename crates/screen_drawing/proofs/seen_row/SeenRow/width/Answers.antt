use Rattle.screen_drawing.proofs.Seeing.{kept_wide}
use Rattle.screen_drawing.proofs.seen_row.SeenRow.width.Goals as goal

pub returns : goal.returns
returns c = kept_wide _ _ _ _ c.args.self.now c.self.view_is
