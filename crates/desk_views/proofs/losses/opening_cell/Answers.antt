use Rattle.std.proofs.Common.{[]}
use Rattle.desktop_definitions.specs.Seen.{seen}
use Rattle.desk_views.proofs.losses.opening_cell.Goals as goal

pub allocate-requires : goal.allocate-requires
unfolding seen
allocate-requires c = (c.requires.sound []).shaped.marker

pub allocate-requires-in-SystemOpen : goal.allocate-requires-in-SystemOpen
unfolding seen
allocate-requires-in-SystemOpen c = (c.requires.sound []).shaped.marker

pub allocate-requires-in-SystemOpenLog : goal.allocate-requires-in-SystemOpenLog
unfolding seen
allocate-requires-in-SystemOpenLog c = (c.requires.sound []).shaped.marker
