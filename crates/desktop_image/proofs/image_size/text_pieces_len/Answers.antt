use Rattle.std.proofs.Common.{sym}
use Rattle.desktop_image.proofs.image_size.text_pieces_len.Goals as goal

pub returns-clause-value : goal.returns-clause-value
returns-clause-value c = c.pieces_len.ensures.value c.args.text.now (sym c.pieces.ensures)
