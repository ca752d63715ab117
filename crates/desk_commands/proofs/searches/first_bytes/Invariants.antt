use Rattle.std.proofs.Common.{◌≡◌, ◌+◌, length}
use Rattle.piece_ring.specs.Flat.{flat}
use Rattle.readers_scanners.specs.Reading.{bytes_of_text}
use Rattle.readers_scanners.proofs.Walking.{IsAt}
use Rattle.desktop_definitions.proofs.SearchLaws.{AreRead}
use Rattle.desk_commands.proofs.searches.first_bytes.Given as goal

abbrev pub invariant-loop : goal.invariant-loop
invariant-loop g l =
    let s = g.S.CharSource in
    record {
      way : IsAt s.characters s.failures s.honest s.same_ground l.fn.source l.source (flat l.text) l.reader
          (l.fn.selection.beg + length l.pattern.items);
      long : length l.pattern.items ≡ l.counter;
      read : s.honest l.fn.source
          → AreRead (bytes_of_text (s.characters l.fn.source) (flat l.text)) l.fn.selection.beg l.pattern.items;
    }
