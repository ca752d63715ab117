use Rattle.std.proofs.Common.{◌≡◌, ◌≤◌, ◌-◌, length}
use Rattle.char_file.specs.Source.{OnlyReads}
use Rattle.piece_ring.specs.Flat.{flat}
use Rattle.readers_scanners.specs.Reading.{bytes_of_text}
use Rattle.text_frames.specs.Lines.{line_above}
use Rattle.desk_input.proofs.lines.line_above.Given as goal

abbrev pub invariant-loop-above : goal.invariant-loop-above
invariant-loop-above g l =
    let s = g.S.CharSource in
    record {
      reads : OnlyReads s.characters s.failures s.honest s.same_ground l.fn.source l.source;
      calm : s.failures l.source ≡ s.failures l.fn.source;
      within : l.at ≤ length (flat l.text);
      exact : s.honest l.fn.source
          → line_above (bytes_of_text (s.characters l.fn.source) (flat l.text)) l.lines l.pos
          ≡ line_above (bytes_of_text (s.characters l.fn.source) (flat l.text)) (l.lines - l.above) l.at;
    }
