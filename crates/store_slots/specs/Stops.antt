-- A step that stopped, as the store says it.
use Rattle.desk_core.specs.declared.stop.Stop.{Stop}
use Rattle.desk_core.specs.declared.stop.Stop.TheVariants.{NoMemory as Refused, Fault as Failed}
use Rattle.store_slots.specs.declared.error.Error.{Error}
use Rattle.store_slots.specs.declared.error.Error.TheVariants.{NoMemory, Fault}

abbrev pub error_of : Stop → Error
error_of Refused = NoMemory
error_of Failed = Fault
