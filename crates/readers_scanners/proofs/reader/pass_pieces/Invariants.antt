use Rattle.std.proofs.Common.{◌≡◌, ◌-◌, ◌<◌, ◌≤◌, ◌==◌, length, drop, count_by, slice_range}
use Rattle.piece_ring.specs.Flat.{flat}
use Rattle.readers_scanners.specs.Reading.{bytes_of_text}
use Rattle.readers_scanners.proofs.reader.pass_pieces.Given as goal

abbrev pub invariant-loop-next : goal.invariant-loop-next
invariant-loop-next g l =
    let s = g.S.CharSource in let text = flat l.fn.behind.left in
    record {
      rest : drop (l.most - l.ahead) text ≡ flat l.cursor.left;
      ahead : l.ahead ≤ l.most;
      within : l.most - l.ahead ≤ length text;
      few : l.found ≤ l.most - l.ahead;
      below : l.found < l.fewer;
      so_far : s.honest l.source → l.found ≡ count_by (λ b. b == l.wanted)
          (slice_range (bytes_of_text (s.characters l.source) text) 0 (l.most - l.ahead));
    }

abbrev pub decreases-loop-next : goal.decreases-loop-next
decreases-loop-next g l = l.ahead
