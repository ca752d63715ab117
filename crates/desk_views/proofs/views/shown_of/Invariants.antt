use Rattle.std.proofs.Common.{◌≡◌, map, take}
use Rattle.desk_core.specs.Kept.{kept_desktop}
use Rattle.desk_views.specs.Views.{view_in, kept_view}
use Rattle.desk_views.proofs.views.shown_of.Given as goal

-- the viewers so far, with their texts
abbrev pub invariant-loop-entry : goal.invariant-loop-entry
invariant-loop-entry l =
    map kept_view l.shown.items ≡ map (view_in (kept_desktop l.desk)) (take l.entry-index l.viewers)
