use Rattle.std.proofs.Common.{◌≤◌}
use Rattle.piece_ring.specs.Flat.{flat}
use Rattle.text_frames.proofs.RowReading.{IsRowSoFar}
use Rattle.text_frames.proofs.row.rest_of_row.Given as goal

abbrev pub invariant-loop-at : goal.invariant-loop-at
invariant-loop-at g l =
    let s = g.S.CharSource in
    record {
      so_far : IsRowSoFar s.characters s.failures s.honest s.same_ground l.fn.source l.source (flat l.text) l.reader
          l.org l.w l.row l.at l.place.row l.place.column l.line.items;
      high : l.place.row ≤ l.row;
    }
