use Rattle.std.proofs.Common.{◌≡◌, ◌∙◌, ap, arith}
use Rattle.sector_disk.specs.Memory.{trail_of}
use Rattle.sector_disk.specs.Trail.{now}
use Rattle.desk_past.proofs.InMemory.{zeros_are}
use Rattle.desk_past.proofs.again.empty_disk.Goals as goal

pub returns-clause-zeros : goal.returns-clause-zeros
returns-clause-zeros c = λ n. ap (λ d. (now (trail_of d.calls)).reads n) c.in_ok-disk.ensures ∙ zeros_are
