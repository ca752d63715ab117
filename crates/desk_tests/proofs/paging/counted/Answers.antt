use Rattle.desk_tests.proofs.paging.counted.Goals as goal

pub count_over-counted-requires-clause-told : goal.count_over-counted-requires-clause-told
count_over-counted-requires-clause-told g c = λ honest. c.in_ok-pages.ensures.told _
