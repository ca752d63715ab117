use Rattle.sector_disk.proofs.FileViews.{image_of_file}
use Rattle.sector_disk.proofs.file_laws.file_crash_law.Goals as goal

pub returns : goal.returns
returns c = image_of_file
