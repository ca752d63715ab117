use Rattle.std.proofs.Common.{◌≡◌, ◌++◌, length}
use Rattle.char_file.specs.Source.{OnlyReads}
use Rattle.piece_ring.specs.Flat.{flat}
use Rattle.piece_ring.specs.Text.{AreWithin}
use Rattle.readers_scanners.specs.Reading.{contents}
use Rattle.seen_desktops.proofs.characters.add_left.Given as goal

-- the characters so far were added, those that are left come behind them, and nothing failed
abbrev pub invariant-loop-next : goal.invariant-loop-next
invariant-loop-next g l =
    let s = g.S.CharSource in
    record {
      read : s.honest l.fn.source → l.all.items ++ contents (s.characters l.fn.source) (flat l.left.left)
          ≡ l.fn.all.items ++ contents (s.characters l.fn.source) (flat l.fn.left.left);
      inside : AreWithin (length (s.characters l.source)) (flat l.left.left);
      reads : OnlyReads s.characters s.failures s.honest s.same_ground l.fn.source l.source;
      calm : s.failures l.source ≡ s.failures l.fn.source;
    }

abbrev pub decreases-loop-next : goal.decreases-loop-next
decreases-loop-next g l = length (flat l.left.left)
