-- What is the same of a sink and of a source over sectors of a disk, as long as they are joined to it.
use Rattle.std.specs.Prelude.{◌≡◌, ℕ}
use Rattle.std.specs.Borrow.{GName}
use Rattle.sector_disk.specs.declared.disk.Disk.{Ghosts}
use Rattle.sector_disk.specs.Confined.{IsConfined}

-- Two states over the same disk, and over the same stretch of its sectors: where it begins, and how long it is. Between
-- them no sector was written but those that may be for such a stretch.
pub record OnSameStretch {D : Type 0} (d : Ghosts D) (Area : ℕ → ℕ → ℕ → Type 0) (old new : D)
    (from from' many many' : ℕ)
    (disk disk' bytes bytes' : GName) : Type 0 where
  pub confined : IsConfined d.size d.honest d.trail (Area from many) old new
  pub same_from : from' ≡ from
  pub same_many : many' ≡ many
  -- the borrows are the same
  pub same_disk : disk' ≡ disk
  pub same_bytes : bytes' ≡ bytes
