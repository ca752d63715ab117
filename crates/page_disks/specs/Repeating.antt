-- A medium on which the calls of a disk are repeated, in order.
use Rattle.std.specs.Prelude.{◌≡◌, ◌≤◌, ℕ, length, take}
use Rattle.sector_disk.specs.Trail.{now}
use Rattle.sector_disk.specs.Memory.{replayed}
use Rattle.page_disks.specs.Recording.{Recording, first_moment, forgotten, trail_since}

-- The first k of the calls that it still has to tell, repeated on a medium as the disk was when it was last told to
-- forget, give the k-th moment of its trail.
abbrev pub RepeatsMoments : Type 0
RepeatsMoments = (d : Recording) (k : ℕ) → k ≤ length d.since
    → replayed (take k d.since) (first_moment d) ≡ (trail_since d).at k

-- all of them give its present moment
abbrev pub RepeatsAll : Type 0
RepeatsAll = (d : Recording) → replayed d.since (first_moment d) ≡ now (trail_since d)

-- which is the first one once it was told to forget
abbrev pub BeginsAnew : Type 0
BeginsAnew = (d : Recording) → first_moment (forgotten d) ≡ now (trail_since d)
