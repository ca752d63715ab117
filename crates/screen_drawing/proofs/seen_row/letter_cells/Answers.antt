use Rattle.std.proofs.Common.{rules}
use Rattle.screen_pictures.specs.Picture.{filler}
use Rattle.screen_drawing.specs.Seen.{letter_cell}
use Rattle.screen_drawing.proofs.Seeing.{values_is}
use Rattle.screen_drawing.proofs.seen_row.letter_cells.Goals as goal

pub returns : goal.returns
returns c = values_is 80 (letter_cell c.args.text.now) c.loop-x.cells filler c.loop-x.invariant.long (search rules)
