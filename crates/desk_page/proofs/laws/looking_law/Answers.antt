use Rattle.page_disks.specs.contracts.disk.RecordedDiskDisk.TheImpl.{ghosts}
use Rattle.desk_page.proofs.Known.{stays_known}
use Rattle.desk_page.proofs.laws.looking_law.Goals as goal

pub returns : goal.returns
returns c = stays_known ghosts
