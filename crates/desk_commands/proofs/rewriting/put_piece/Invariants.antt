use Rattle.std.proofs.Common.{◌≡◌, ◌+◌, ◌++◌, length}
use Rattle.char_file.specs.Source.{OnlyReads}
use Rattle.piece_ring.specs.Flat.{run}
use Rattle.readers_scanners.specs.Reading.{bytes_of_text}
use Rattle.desk_commands.proofs.rewriting.put_piece.Given as goal

-- the first i characters were put, and nothing failed
abbrev pub invariant-loop-i : goal.invariant-loop-i
invariant-loop-i g l =
    let s = g.S.CharSource in
    record {
      read : s.honest l.fn.source → l.made.items
          ≡ l.fn.made.items ++ bytes_of_text (s.characters l.fn.source) (run l.piece.off l.i l.piece.look);
      longer : length l.made.items ≡ length l.fn.made.items + l.i;
      reads : OnlyReads s.characters s.failures s.honest s.same_ground l.fn.source l.source;
      calm : s.failures l.source ≡ s.failures l.fn.source;
    }
