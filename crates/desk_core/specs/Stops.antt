-- Why a call on a desktop gives up.
use Rattle.std.specs.Prelude.{[], ◌∷◌}
use Rattle.sector_disk.specs.Faults.{OneOf}
use Rattle.desk_core.specs.declared.stop.Stop.{Stop}
use Rattle.desk_core.specs.declared.stop.Stop.TheVariants.{NoMemory, Fault}

-- the errors that there are
abbrev pub IsStop : Stop → Type 0
IsStop stop = OneOf (NoMemory ∷ (Fault ∷ [])) stop
