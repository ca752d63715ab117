use Rattle.std.proofs.Common.{◌≡◌, ◌+◌, ◌-◌, ◌<◌, ◌≤◌}
use Rattle.piece_ring.specs.Flat.{flat}
use Rattle.readers_scanners.specs.Reading.{bytes_of_text}
use Rattle.readers_scanners.proofs.Walking.{IsAt}
use Rattle.text_frames.specs.Lines.{ends_between}
use Rattle.text_frames.proofs.lines.stretch_within.Given as goal

abbrev pub invariant-loop-left : goal.invariant-loop-left
invariant-loop-left g l =
    let s = g.S.CharSource in
    record {
      way : IsAt s.characters s.failures s.honest s.same_ground l.fn.source l.source (flat l.text) l.reader
          (l.len - l.left);
      low : l.left ≤ l.len - l.from;
      few : l.ends + l.left ≤ l.len - l.from;
      above : l.ends < l.rows;
      so_far : s.honest l.fn.source
          → l.ends ≡ ends_between (bytes_of_text (s.characters l.fn.source) (flat l.text)) l.from (l.len - l.left);
    }

abbrev pub decreases-loop-left : goal.decreases-loop-left
decreases-loop-left g l = l.left
