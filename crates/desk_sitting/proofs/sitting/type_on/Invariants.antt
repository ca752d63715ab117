use Rattle.std.proofs.Common.{◌≡◌, take}
use Rattle.desk_sitting.specs.Sittings.{hand_typed}
use Rattle.desk_sitting.proofs.sitting.type_on.Given as goal

-- what was typed so far
abbrev pub invariant-loop-byte : goal.invariant-loop-byte
invariant-loop-byte l = l.hand ≡ hand_typed l.fn.sight l.fn.hand (take l.byte-index l.fn.bytes)
