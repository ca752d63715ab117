use Rattle.std.proofs.Common.{◌≡◌, ◌+◌, ◌<◌, ◌≤◌}
use Rattle.piece_ring.specs.Flat.{flat}
use Rattle.readers_scanners.specs.Reading.{bytes_of_text}
use Rattle.readers_scanners.proofs.Walking.{IsAt}
use Rattle.text_frames.specs.Lines.{ends_between}
use Rattle.text_frames.proofs.lines.row_within.Given as goal

abbrev pub invariant-loop-at : goal.invariant-loop-at
invariant-loop-at g l =
    let s = g.S.CharSource in
    record {
      way : IsAt s.characters s.failures s.honest s.same_ground l.fn.source l.source (flat l.text) l.reader l.at;
      some : 0 < l.left;
      few : l.from + l.rows ≤ l.at + l.left;
      so_far : s.honest l.fn.source
          → ends_between (bytes_of_text (s.characters l.fn.source) (flat l.text)) l.from l.at + l.left ≡ l.rows;
    }
