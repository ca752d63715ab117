use Rattle.desk_tests.proofs.paging.settled.Goals as goal

pub add_two-requires-clause-told : goal.add_two-requires-clause-told
add_two-requires-clause-told g c = λ honest. c.in_ok-pages.ensures.told _
