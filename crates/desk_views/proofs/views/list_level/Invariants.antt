use Rattle.viewer_tracks.specs.Columns.{stack_of, track_on}
use Rattle.desktop_definitions.specs.Listing.{viewer_entry}
use Rattle.desktop_definitions.specs.Unread.{without_name}
use Rattle.desktop_definitions.proofs.ViewLaws.{entries_to}
use Rattle.desk_core.specs.Kept.{kept_desktop}
use Rattle.desk_views.proofs.Listed.{HasListed}
use Rattle.desk_views.proofs.views.list_level.Given as goal

-- the entries of the lowest viewers
abbrev pub invariant-loop-index : goal.invariant-loop-index
invariant-loop-index g l =
    let standing = track_on (stack_of l.desk.tracks l.track) l.level in
    HasListed g.S.CharSource l.fn.source l.source (kept_desktop l.desk) l.fn.entries.items l.entries.items
    (λ x. entries_to (viewer_entry x l.track) l.index standing)
    (λ x. entries_to (λ v. without_name (viewer_entry x l.track v)) l.index standing)
