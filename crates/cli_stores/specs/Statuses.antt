-- The status of the program where something goes wrong with a store.
use Rattle.std.specs.Prelude.{ℕ}
use Rattle.desk_journal.specs.Errors.{Error}
use Rattle.desk_journal.specs.Errors.{NotAStore, Damaged, NoMemory as NoMemoryThere}
use Rattle.host_files.specs.declared.HostFault.{HostFault}
use Rattle.host_files.specs.declared.HostFault.TheVariants.{NoMemory}
use Rattle.cli_stores.specs.declared.trouble.Trouble.{Trouble}
use Rattle.cli_stores.specs.declared.trouble.Trouble.TheVariants.{Memory, Host, Making, JustMade, Unsynced, Store, Name, Output}

-- where the host refuses a file
abbrev pub host_status : HostFault → ℕ
host_status NoMemory = 5
host_status _ = 4

-- where the store refuses
abbrev pub store_status : Error → ℕ
store_status NotAStore = 3
store_status (Damaged sector) = 3
store_status NoMemoryThere = 5
store_status _ = 4

abbrev pub trouble_status : Trouble → ℕ
trouble_status Memory = 5
trouble_status (Host fault) = host_status fault
trouble_status (Making fault) = host_status fault
trouble_status JustMade = 4
trouble_status Unsynced = 4
trouble_status (Store error) = store_status error
trouble_status Name = 1
trouble_status Output = 4
