use Rattle.std.proofs.Common.{◌≡◌, ◌<◌, ◌≤◌, ℕ}
use Rattle.viewer_tracks.specs.Columns.{stack_of, track_on}
use Rattle.seen_desktops.proofs.shape.is_same_column.Given as goal

-- the tracks so far are the same
abbrev pub invariant-loop-below : goal.invariant-loop-below
invariant-loop-below l = (level : ℕ) → 0 < level → level ≤ l.below
    → track_on (stack_of l.one l.column) level ≡ track_on (stack_of l.other l.column) level
