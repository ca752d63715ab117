-- Why an order about documents was not done.
use Rattle.std.specs.Prelude.{◌≡◌, ◌⊎◌, ℕ}
use Rattle.host_files.specs.declared.HostFault.{HostFault}
use Rattle.host_files.specs.declared.HostFault.TheVariants.{NoMemory}
use Rattle.store_documents.specs.declared.exporting.ExportFault.{ExportFault}
use Rattle.store_documents.specs.declared.exporting.ExportFault.TheVariants.{Store, Output}
use Rattle.cli_stores.specs.declared.trouble.Trouble.TheVariants.{Memory, Store as StoreThere, Output as OutputThere}
use Rattle.desk_journal.specs.Errors.{Damaged}
use Rattle.cli_copies.specs.declared.sentences.Stop.{Stop}
use Rattle.cli_copies.specs.declared.sentences.Stop.TheVariants.{Trouble, Refused, Host}

-- where the host does not do with a file or a folder what it is asked
abbrev pub host_stop : HostFault → Stop
host_stop NoMemory = Trouble Memory
host_stop _ = Host

-- where a document does not come out
abbrev pub export_stop : ExportFault → Stop
export_stop (Store error) = Trouble (StoreThere error)
export_stop Output = Trouble OutputThere

-- where neither a past nor what can be taken back reaches so far, or a page of the past is missing
abbrev pub IsOutOfReach : Stop → Type 0
IsOutOfReach stop = (stop ≡ Refused) ⊎ ((at : ℕ) × (stop ≡ Trouble (StoreThere (Damaged at))))
