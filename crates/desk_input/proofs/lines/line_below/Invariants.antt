use Rattle.std.proofs.Common.{◌≡◌, ◌≤◌, ◌-◌, length}
use Rattle.char_file.specs.Source.{OnlyReads}
use Rattle.piece_ring.specs.Flat.{flat}
use Rattle.readers_scanners.specs.Reading.{bytes_of_text}
use Rattle.desk_input.specs.Lines.{line_below}
use Rattle.desk_input.proofs.lines.line_below.Given as goal

abbrev pub invariant-loop-below : goal.invariant-loop-below
invariant-loop-below g l =
    let s = g.S.CharSource in
    record {
      reads : OnlyReads s.characters s.failures s.honest s.same_ground l.fn.source l.source;
      calm : s.failures l.source ≡ s.failures l.fn.source;
      within : l.at ≤ length (flat l.text);
      exact : s.honest l.fn.source
          → line_below (bytes_of_text (s.characters l.fn.source) (flat l.text)) l.lines l.pos
          ≡ line_below (bytes_of_text (s.characters l.fn.source) (flat l.text)) (l.lines - l.below) l.at;
    }
