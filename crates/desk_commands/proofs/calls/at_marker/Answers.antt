use Rattle.desktop_definitions.specs.Seen.{seen}
use Rattle.std.proofs.Common.{[]}
use Rattle.desk_commands.proofs.calls.at_marker.Goals as goal

pub at-requires-clause-column_in_display : goal.at-requires-clause-column_in_display
unfolding seen
at-requires-clause-column_in_display c =
    ((c.requires.sound []).shaped.marker (c.in_ok-x.x, c.in_ok-x.y) c.in_ok-x.was).0

pub at-requires-clause-row_in_display : goal.at-requires-clause-row_in_display
unfolding seen
at-requires-clause-row_in_display c =
    ((c.requires.sound []).shaped.marker (c.in_ok-x.x, c.in_ok-x.y) c.in_ok-x.was).1
