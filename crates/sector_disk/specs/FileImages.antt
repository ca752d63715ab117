-- What a crash may leave of the bytes of a file, said of the sectors that these bytes are.
use Rattle.std.specs.Prelude.{◌≡◌, ◌≤◌, ℕ}
use Rattle.sector_disk.specs.declared.file.FileDisk.{FileDisk}
use Rattle.sector_disk.specs.declared.host_file.HostFile.{Ghosts}
use Rattle.sector_disk.specs.Trail.{Content}
use Rattle.sector_disk.specs.FileTrail.{FileMoment, FileTrail, IsFileImage}
use Rattle.sector_disk.specs.FileSectors.{sectors_in, sectors_at}

-- the file that a disk is in
abbrev pub file_under : {F : Type 0} {f : Ghosts F} → FileDisk F f → F
file_under d = d.file

-- how many sectors it has of that file
abbrev pub sectors_under : {F : Type 0} {f : Ghosts F} → FileDisk F f → ℕ
sectors_under d = d.sectors

-- the sectors of every image that a crash at this moment may leave of the bytes have P
abbrev pub FileLeaves : FileMoment → (Content → Type 0) → Type 0
FileLeaves m P = (image : ℕ → ℕ) → IsFileImage m image → P (sectors_in image)

-- the past of the sectors stayed as it was, and at every moment from old to new a crash leaves bytes whose sectors have P
pub record FileLeavesOnly (old new : FileTrail) (P : Content → Type 0) : Type 0 where
  pub later : old.clock ≤ new.clock
  pub kept : (t : ℕ) → t ≤ old.clock → sectors_at (new.at t) ≡ sectors_at (old.at t)
  pub each : (t : ℕ) → old.clock ≤ t → t ≤ new.clock → FileLeaves (new.at t) P
