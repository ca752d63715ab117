use Rattle.std.proofs.Common.{◌≡◌, ◌++◌, length, take}
use Rattle.sector_disk.specs.declared.disk.TheConstants.{SECTOR_BYTES}
use Rattle.image_format.specs.Passing.{OnlyGets}
use Rattle.store_slots.proofs.characters.read_tail.Given as goal

-- the bytes before byte i have been taken into the sector
abbrev pub invariant-loop-i : goal.invariant-loop-i
invariant-loop-i g l =
    let s = g.S.ByteSource in
    record {
      only : OnlyGets s.honest s.same_ground l.fn.source l.source;
      calm : s.failures l.source ≡ s.failures l.fn.source;
      wide : length l.tail ≡ SECTOR_BYTES;
      taken : s.honest l.fn.source → s.remaining l.fn.source ≡ take l.i l.tail ++ s.remaining l.source;
    }
