use Rattle.std.proofs.Common.{◌≡◌, ◌+◌, ◌<◌, length}
use Rattle.piece_ring.specs.Flat.{flat}
use Rattle.readers_scanners.specs.Reading.{bytes_of_text}
use Rattle.readers_scanners.proofs.Walking.{IsAt}
use Rattle.desktop_definitions.proofs.SearchLaws.{IsSought}
use Rattle.desk_commands.proofs.searches.found_at.Given as goal

abbrev pub invariant-loop : goal.invariant-loop
invariant-loop g l =
    let s = g.S.CharSource in
    record {
      way : IsAt s.characters s.failures s.honest s.same_ground l.fn.source l.source (flat l.text) l.reader
          (l.place + length l.window.items);
      count : l.place + length l.window.items ≡ l.counter;
      short : length l.window.items < length l.pattern;
      sought : s.honest l.fn.source → IsSought (bytes_of_text (s.characters l.fn.source) (flat l.text)) l.pattern l.pos l.place
          l.window.items;
    }
