-- What is shown of the crash images of a disk holds of those of the file that it is in.
use Rattle.sector_disk.specs.Trail.{Content, Leaves, LeavesOnly}
use Rattle.sector_disk.specs.FileTrail.{FileMoment, FileTrail}
use Rattle.sector_disk.specs.FileSectors.{sectors_at, sectors_of}
use Rattle.sector_disk.specs.FileImages.{FileLeaves, FileLeavesOnly}
use Rattle.sector_disk.proofs.FileViews.{image_of_file}

pub file_leaves : (m : FileMoment) (P : Content → Type 0) → Leaves (sectors_at m) P → FileLeaves m P
file_leaves m P leaves image is = leaves _ (image_of_file m image is)

pub file_leaves_only : (old new : FileTrail) (P : Content → Type 0) → LeavesOnly (sectors_of old) (sectors_of new) P
    → FileLeavesOnly old new P
file_leaves_only old new P run = record {
  later = run.later;
  kept = run.kept;
  each = λ t above below. file_leaves (new.at t) P (run.each t above below);
}
