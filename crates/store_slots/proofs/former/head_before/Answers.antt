use Rattle.std.proofs.lemmas.Result.{err_from_is_err_and}
use Rattle.store_layout.proofs.Bits.{clash}
use Rattle.store_slots.proofs.Passed.{another_there, bad_there, closed_there}
use Rattle.store_slots.proofs.former.head_before.Goals as goal

pub returns-in_err-head-clause-damaged : goal.returns-in_err-head-clause-damaged
returns-in_err-head-clause-damaged g c =
    let p = err_from_is_err_and c.from_residual.result c.from_residual.ensures.1 in
    λ n bad honest. bad_there (c.in_err-head.ensures.damaged n (cc (p.1, p.2, bad)) honest).2

pub returns-in_default-clause-none : goal.returns-in_default-clause-none
returns-in_default-clause-none g c = λ honest. closed_there ((rw c.in_default.is at c.in_ok-head.ensures.none) honest)

pub returns-then-not-goes_before-clause-none : goal.returns-then-not-goes_before-clause-none
returns-then-not-goes_before-clause-none g c = λ honest.
    another_there ((rw c.in-Some.is at c.in_ok-head.ensures.some) honest).1
    (λ newest next. clash (c.goes_before.ensures.1 (next, newest)) c.if-not-goes_before.true)
