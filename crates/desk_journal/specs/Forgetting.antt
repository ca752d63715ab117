-- A disk that forgets what it took down of its calls. `d` is what is known of a disk.
use Rattle.std.specs.Prelude.{◌≡◌}
use Rattle.sector_disk.specs.declared.disk.Disk.{Ghosts}
use Rattle.sector_disk.specs.Trail.{now}

-- The one disk holds at present what the other holds. Their trails may differ in what came before.
pub record HoldsTheSame {D : Type 0} (d : Ghosts D) (old new : D) : Type 0 where
  pub as_large : d.size new ≡ d.size old
  pub moment : now (d.trail new) ≡ now (d.trail old)
  pub already : d.honest new → d.honest old
