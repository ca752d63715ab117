-- Sittings over stores in files of the host, down to the bytes of the file. `f` is what is known of a file, and `d` of
-- the disk in it.
use Rattle.std.specs.Prelude.{List, ◌++◌}
use Rattle.sector_disk.specs.declared.disk.Disk.{Ghosts as DiskGhosts}
use Rattle.sector_disk.specs.declared.file.FileDisk.{FileDisk}
use Rattle.sector_disk.specs.declared.host_file.HostFile.{Ghosts}
use Rattle.event_bytes.specs.declared.event.Event.{Event}
use Rattle.desk_journal.specs.Files.{FileKeeps}
use Rattle.desk_journal.specs.View.{StoreView}
use Rattle.terminal_sittings.specs.declared.ending.SittingEnd.{SittingEnd}
use Rattle.terminal_sittings.specs.Surviving.{SurvivesEnd}

-- However a sitting ends: at each moment each image that a crash may leave of the file's bytes means the desktop that
-- was shown, after a prefix of the events accepted since, and at the end one that holds every acknowledged event.
abbrev pub FileSittingsSurvive : {F : Type 0} (f : Ghosts F) → DiskGhosts (FileDisk F f) → Type 0
FileSittingsSurvive {F = F} f d = (end : SittingEnd) (acknowledged begun : List Event)
    (old new : StoreView (FileDisk F f)) → SurvivesEnd d end acknowledged begun old new
    → FileKeeps f old.desktop acknowledged (acknowledged ++ begun) old new
