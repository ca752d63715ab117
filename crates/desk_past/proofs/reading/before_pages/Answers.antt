use Rattle.std.proofs.Common.{◌≡◌, ◌+◌, ◌<◌, ◌≤◌, ◌^◌, ◌-◌, arith, length, rules}
use Rattle.desk_past.proofs.Opened.{rest_is}
use Rattle.desk_past.proofs.reading.before_pages.Goals as goal

pub returns-in_default-clause-before : goal.returns-in_default-clause-before
returns-in_default-clause-before g c = λ honest pages held good ends before counted.
    let many = (rw c.in_default.is at c.in_ok-count.ensures.whole) honest pages held good ends in
    let fits : c.args.told.before < 2 ^ 64 = search rules in
    omega (arith, many, counted, fits)

pub returns-clause-before : goal.returns-clause-before
returns-clause-before g c = λ honest pages held good ends before counted.
    let many = (rw c.in-Some.is at c.in_ok-count.ensures.whole) honest pages held good ends in
    rest_is c.checked_sub.result c.args.told.before c.in-Some.count before c.checked_sub.ensures
    (omega (arith, many, counted))
