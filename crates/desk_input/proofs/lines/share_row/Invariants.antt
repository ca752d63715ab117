use Rattle.std.proofs.Common.{◌≡◌, ◌≤◌, ◌-◌, nat_le}
use Rattle.char_file.specs.Source.{OnlyReads}
use Rattle.piece_ring.specs.Flat.{flat}
use Rattle.readers_scanners.specs.Reading.{bytes_of_text}
use Rattle.text_frames.specs.Lines.{greatest_where}
use Rattle.desk_input.specs.Lines.{share_start, share_row}
use Rattle.desk_input.proofs.lines.share_row.Given as goal

abbrev pub invariant-loop-row : goal.invariant-loop-row
invariant-loop-row g l =
    let s = g.S.CharSource in
    let bs = bytes_of_text (s.characters l.fn.source) (flat l.text) in
    record {
      reads : OnlyReads s.characters s.failures s.honest s.same_ground l.fn.source l.source;
      calm : s.failures l.source ≡ s.failures l.fn.source;
      upto : l.row ≤ l.h;
      exact : s.honest l.fn.source
          → share_row bs l.h l.target ≡ greatest_where (λ row. nat_le (share_start bs l.h row) l.target) (l.row - 1);
    }
