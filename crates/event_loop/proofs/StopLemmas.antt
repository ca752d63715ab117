-- What a call says of failures that doesn't read.
use Rattle.std.proofs.Common.{◌≡◌, ℕ, Result, Ok, Err, rules}
use Rattle.std.specs.Prelude.{IfErr, IsErrOf}
use Rattle.sector_disk.specs.Faults.{FailsAs}
use Rattle.desk_core.specs.declared.stop.Stop.{Stop}
use Rattle.desk_core.specs.declared.stop.Stop.TheVariants as stops
use Rattle.desk_core.specs.Stops.{IsStop}

is_stop : (stop : Stop) → IsStop stop
is_stop stops.NoMemory = search rules
is_stop stops.Fault = search rules

named : {T : Type 0} (result : Result T Stop) → IfErr result IsStop
named (Ok x) = search rules
named (Err stop) = let is = is_stop stop in search rules

pub never_fails : {T : Type 0} (result : Result T Stop) (old new : ℕ) → ¬ IsErrOf result stops.Fault → new ≡ old
    → FailsAs stops.Fault IsStop result old new
never_fails result old new never same = record {
  rose = λ fault. absurd (never fault);
  calm = λ not. same;
  errors = named result;
}
