use Rattle.std.proofs.Common.{map}
use Rattle.viewer_tracks.specs.Columns.{stack_of}
use Rattle.desktop_definitions.specs.Unread.{without_name}
use Rattle.desk_core.specs.Kept.{kept_desktop}
use Rattle.desk_views.proofs.Listed.{HasListed, lowest_entries}
use Rattle.desk_views.proofs.views.list_column.Given as goal

-- the entries of the lowest tracks
abbrev pub invariant-loop-below : goal.invariant-loop-below
invariant-loop-below g l =
    HasListed g.S.CharSource l.fn.source l.source (kept_desktop l.desk) l.fn.entries.items l.entries.items
    (λ x. lowest_entries x l.track (stack_of l.desk.tracks l.track) l.below)
    (λ x. map without_name (lowest_entries x l.track (stack_of l.desk.tracks l.track) l.below))
