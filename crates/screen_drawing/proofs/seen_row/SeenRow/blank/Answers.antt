use Rattle.std.proofs.Common.{sym}
use Rattle.screen_drawing.proofs.Seeing.{none_seen}
use Rattle.screen_drawing.proofs.seen_row.SeenRow.blank.Goals as goal

pub returns : goal.returns
returns c = sym (none_seen c.args.width 0 c.blank_cells.result)
