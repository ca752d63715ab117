-- What the program says where the host, or its arguments, name no store.
use Rattle.std.specs.Prelude.{ℕ}
use Rattle.desk_journal.specs.Errors.{Error}
use Rattle.desk_journal.specs.Errors.{Fault, NoMemory as NoMemoryThere}
use Rattle.host_files.specs.declared.HostFault.{HostFault}
use Rattle.host_files.specs.declared.HostFault.TheVariants.{NoMemory}
use Rattle.program_arguments.specs.declared.refusal.Refusal.{Refusal}
use Rattle.program_arguments.specs.declared.refusal.Refusal.TheVariants.{Usage, Memory}

-- what the host refuses, as the store's refusals have it
abbrev pub error_of_host : HostFault → Error
error_of_host NoMemory = NoMemoryThere
error_of_host _ = Fault

-- the status where the arguments name no order
abbrev pub declined_status : Refusal → ℕ
declined_status Usage = 2
declined_status Memory = 5
