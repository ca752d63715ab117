use Rattle.std.proofs.Common.{rules}
use Rattle.text_frames.proofs.RowLaws.{rows_still}
use Rattle.text_frames.proofs.frame.Frame.read_line.Goals as goal

pub returns-then-row-rows-clause-read : goal.returns-then-row-rows-clause-read
returns-then-row-rows-clause-read g c =
    let reads = c.cells_of_row.ensures.source.reads in
    let still = rows_still _ _ _ _ _ _ _ reads.already reads.same c.requires.so_far in
    search rules
