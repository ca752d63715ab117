use Rattle.piece_ring.specs.Flat.{flat}
use Rattle.text_frames.proofs.RowReading.{IsSkipped}
use Rattle.text_frames.proofs.row.pass_rows.Given as goal

abbrev pub invariant-loop-at : goal.invariant-loop-at
invariant-loop-at g l =
    let s = g.S.CharSource in
    IsSkipped s.characters s.failures s.honest s.same_ground l.fn.source l.source (flat l.text) l.reader l.org l.row
    l.at l.here.row l.here.column
