use Rattle.std.proofs.Common.{◌≡◌, fold, take}
use Rattle.host_names.specs.HostNames.{longer_line}
use Rattle.host_names.proofs.host_name.HostName.number.Given as goal

-- the number by the digits so far
abbrev pub invariant-loop-byte : goal.invariant-loop-byte
invariant-loop-byte l = l.number ≡ fold longer_line 0 (take l.byte-index l.fn.self)
