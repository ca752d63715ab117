use Rattle.std.proofs.Common.{◌≡◌, ◌-◌}
use Rattle.char_file.specs.Source.{OnlyReads}
use Rattle.piece_ring.specs.Flat.{flat}
use Rattle.readers_scanners.specs.Reading.{bytes_of_text}
use Rattle.caret_moves.specs.Calling.{first_where, is_called}
use Rattle.caret_moves.proofs.calling.first_called.Given as goal

-- the positions to come decide
abbrev pub invariant-loop-at : goal.invariant-loop-at
invariant-loop-at g l =
    let s = g.S.CharSource in
    let bs = bytes_of_text (s.characters l.fn.source) (flat l.text) in
    record {
      reads : OnlyReads s.characters s.failures s.honest s.same_ground l.fn.source l.source;
      calm : s.failures l.source ≡ s.failures l.fn.source;
      so_far : s.honest l.fn.source
          → first_where (is_called bs) l.start (l.upto - l.start) ≡ first_where (is_called bs) l.at (l.upto - l.at);
    }
