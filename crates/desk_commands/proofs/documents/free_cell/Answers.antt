use Rattle.std.proofs.Common.{[]}
use Rattle.desktop_definitions.specs.Seen.{seen}
use Rattle.desk_commands.proofs.documents.free_cell.Goals as goal

pub allocate-requires : goal.allocate-requires
unfolding seen
allocate-requires c = (c.requires.sound []).shaped.marker
