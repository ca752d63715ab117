use Rattle.std.proofs.Common.{◌≡◌, ◌<◌, ℕ, slice_get}
use Rattle.viewer_tracks.specs.Columns.{stack_of, track_on}
use Rattle.seen_desktops.proofs.shape.is_same_track.Given as goal

-- the viewers so far are the same
abbrev pub invariant-loop-index : goal.invariant-loop-index
invariant-loop-index l = (i : ℕ) → i < l.index
    → slice_get (track_on (stack_of l.one l.column) l.level) i ≡ slice_get (track_on (stack_of l.other l.column) l.level) i
