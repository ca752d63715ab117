use Rattle.std.proofs.Common.{◌≡◌, ◌-◌, ◌+◌, length, take, drop}
use Rattle.piece_ring.specs.Flat.{flat}
use Rattle.readers_scanners.specs.Reading.{bytes_of_text}
use Rattle.readers_scanners.proofs.Walking.{IsAt}
use Rattle.desk_views.proofs.info.bytes_between.Given as goal

-- the bytes so far
abbrev pub invariant-loop-at : goal.invariant-loop-at
invariant-loop-at g l =
    let s = g.S.CharSource in
    record {
      way : IsAt s.characters s.failures s.honest s.same_ground l.fn.source l.source (flat l.text) l.reader l.at;
      count : l.start + length l.line.items ≡ l.at;
      exact : s.honest l.fn.source
          → l.line.items ≡ take (l.at - l.start) (drop l.start (bytes_of_text (s.characters l.fn.source) (flat l.text)));
    }
