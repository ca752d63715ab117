use Rattle.std.proofs.Common.{[]}
use Rattle.desktop_definitions.proofs.LookedLaws.{looks_of_seen}
use Rattle.desktop_image.proofs.imaging.put_left.Goals as goal

pub put_pieces-requires-clause-looks : goal.put_pieces-requires-clause-looks
put_pieces-requires-clause-looks g c = looks_of_seen [] c.args.left.left c.requires.looks
