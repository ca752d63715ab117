use Rattle.std.proofs.Common.{◌≡◌, ◌≤◌}
use Rattle.readers_scanners.specs.Reading.{bytes_of_text}
use Rattle.readers_scanners.proofs.Walking.{IsAt}
use Rattle.text_frames.specs.Lines.{line_start}
use Rattle.text_frames.proofs.lines.row_start.Given as goal

abbrev pub invariant-loop-at : goal.invariant-loop-at
invariant-loop-at g l =
    let s = g.S.CharSource in
    record {
      way : IsAt s.characters s.failures s.honest s.same_ground l.fn.source l.source l.fn.reader.text l.reader l.at;
      range : l.at ≤ l.fn.reader.position;
      floor : l.low ≤ l.at;
      exact : s.honest l.fn.source
          → line_start (bytes_of_text (s.characters l.fn.source) l.fn.reader.text) l.fn.reader.position
          ≡ line_start (bytes_of_text (s.characters l.fn.source) l.fn.reader.text) l.at;
    }
