use Rattle.std.proofs.Common.{◌≡◌, ◌+◌, ◌++◌, length}
use Rattle.char_file.specs.Source.{OnlyReads}
use Rattle.piece_ring.specs.Flat.{flat}
use Rattle.piece_ring.specs.Text.{AreWithin}
use Rattle.readers_scanners.specs.Reading.{bytes_of_text}
use Rattle.desktop_definitions.specs.Rewriting.{laid}
use Rattle.desk_commands.proofs.rewriting.put_pieces.Given as goal

-- the pieces so far were put, those that are left come behind them, and nothing failed
abbrev pub invariant-loop-piece : goal.invariant-loop-piece
invariant-loop-piece g l =
    let s = g.S.CharSource in
    record {
      laid_on : flat l.buffer ++ laid (length l.made.items) (flat l.left.left)
          ≡ laid (length l.fn.made.items) (flat l.fn.left.left);
      read : s.honest l.fn.source → l.made.items ++ bytes_of_text (s.characters l.fn.source) (flat l.left.left)
          ≡ l.fn.made.items ++ bytes_of_text (s.characters l.fn.source) (flat l.fn.left.left);
      longer : length l.made.items + length (flat l.left.left)
          ≡ length l.fn.made.items + length (flat l.fn.left.left);
      counted : length (flat l.buffer) + length (flat l.left.left) ≡ length (flat l.fn.left.left);
      inside : AreWithin (length (s.characters l.source)) (flat l.left.left);
      reads : OnlyReads s.characters s.failures s.honest s.same_ground l.fn.source l.source;
      calm : s.failures l.source ≡ s.failures l.fn.source;
    }

abbrev pub decreases-loop-piece : goal.decreases-loop-piece
decreases-loop-piece g l = length l.left.left
