-- The status of the program where two files aren't one disk.
use Rattle.std.specs.Prelude.{ℕ}
use Rattle.cli_stores.specs.Statuses.{trouble_status}
use Rattle.twin_files.specs.declared.trouble.PairTrouble.{PairTrouble}
use Rattle.twin_files.specs.declared.trouble.PairTrouble.TheVariants.{One}

abbrev pub pair_status : PairTrouble → ℕ
pair_status (One which trouble) = trouble_status trouble
pair_status _ = 4
