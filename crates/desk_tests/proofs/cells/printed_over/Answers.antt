use Rattle.desk_tests.proofs.cells.printed_over.Goals as goal

pub over-source-requires-clause-told : goal.over-source-requires-clause-told
over-source-requires-clause-told g c = λ honest. c.in_ok-pages.ensures.told _
