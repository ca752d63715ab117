use Rattle.std.proofs.Common.{◌≡◌}
use Rattle.piece_ring.specs.Flat.{flat}
use Rattle.readers_scanners.specs.Reading.{bytes_of_text}
use Rattle.readers_scanners.proofs.Walking.{IsAt}
use Rattle.caret_moves.specs.Runs.{run_end}
use Rattle.caret_moves.proofs.runs.run_end.Given as goal

abbrev pub invariant-loop-at : goal.invariant-loop-at
invariant-loop-at g l =
    let s = g.S.CharSource in
    record {
      way : IsAt s.characters s.failures s.honest s.same_ground l.fn.source l.source (flat l.text) l.reader l.at;
      exact : s.honest l.fn.source
          → run_end l.gaps (bytes_of_text (s.characters l.fn.source) (flat l.text)) l.pos
          ≡ run_end l.gaps (bytes_of_text (s.characters l.fn.source) (flat l.text)) l.at;
    }
