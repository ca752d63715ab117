-- A disk in memory whose calls are spelled.
use Rattle.std.specs.Prelude.{◌≡◌, ◌-◌, ℕ, List, [], ◌∷◌, ◌++◌, length, take}
use Rattle.sector_disk.specs.declared.call.DiskCall.{DiskCall}
use Rattle.sector_disk.specs.Memory.{replayed, zero_moment}
use Rattle.sector_disk.specs.Trail.{Moment, Trail}

-- its size, the calls that it was told to forget, those since then, and how many calls failed
pub record Recording : Type 0 where
  pub size : ℕ
  pub told : List DiskCall
  pub since : List DiskCall
  pub failures : ℕ

-- the first is the second after some others
abbrev pub EndsWith : List DiskCall → List DiskCall → Type 0
EndsWith calls since = (before : List DiskCall) × (calls ≡ before ++ since)

-- those before the last ones
abbrev pub told_before : List DiskCall → List DiskCall → List DiskCall
told_before calls since = take (length calls - length since) calls

-- what it held when it was last told to forget
abbrev pub first_moment : Recording → Moment
first_moment d = replayed d.told zero_moment

-- Its trail begins there: what came before is passed over.
abbrev pub trail_since : Recording → Trail
trail_since d = record {
  clock = length d.since;
  at = λ t. replayed (take t d.since) (first_moment d);
}

abbrev pub blank_recording : ℕ → Recording
blank_recording sectors = record { size = sectors; told = []; since = []; failures = 0 }

-- one call more
abbrev pub recorded : DiskCall → Recording → Recording
recorded call d = record d { since = d.since ++ call ∷ [] }

-- its calls are forgotten, and the disk is as it was: its trail begins anew
abbrev pub forgotten : Recording → Recording
forgotten d = record d { told = d.told ++ d.since; since = [] }
