use Rattle.std.proofs.Common.{refl, subst, sym}
use Rattle.past_steps.specs.Steps.{IsMomentOf}
use Rattle.desk_past.proofs.Looks.{broken, looked, looked_on, looked_twice, starved}
use Rattle.past_steps.proofs.back.desktop_before.Goals as goal

-- ---- it only looks

pub returns-in_err-shown-clause-looks : goal.returns-in_err-shown-clause-looks
returns-in_err-shown-clause-looks g c = broken g.D.Disk c.in_err-shown.ensures.looks refl c.from_residual.ensures.1

pub returns-in_default-clause-looks : goal.returns-in_default-clause-looks
returns-in_default-clause-looks g c = looked g.D.Disk c.in_ok-shown.ensures.looks

pub returns-in_err-both-clause-looks : goal.returns-in_err-both-clause-looks
returns-in_err-both-clause-looks g c = starved g.D.Disk c.in_ok-shown.ensures.looks c.from_residual-in_err-both.ensures.1

pub returns-in_default-both-clause-looks : goal.returns-in_default-both-clause-looks
returns-in_default-both-clause-looks g c = looked g.D.Disk c.in_ok-shown.ensures.looks

pub returns-in_err-shows_same-clause-looks : goal.returns-in_err-shows_same-clause-looks
returns-in_err-shows_same-clause-looks g c = broken g.D.Disk
    (looked_on g.D.Disk c.in_ok-shown.ensures.looks c.in_err-shows_same.ensures.looks) refl
    c.from_residual-in_err-shows_same.ensures.1

pub returns-then-branch-clause-looks : goal.returns-then-branch-clause-looks
returns-then-branch-clause-looks g c =
    looked_twice g.D.Disk c.in_ok-shown.ensures.looks c.in_ok-shows_same.ensures.looks

pub returns-else-branch-clause-looks : goal.returns-else-branch-clause-looks
returns-else-branch-clause-looks g c = looked_twice g.D.Disk c.in_ok-shown.ensures.looks c.in_ok-shows_same.ensures.looks

-- ---- the events lead from that moment to what the store shows

pub returns-then-branch-clause-was : goal.returns-then-branch-clause-was
returns-then-branch-clause-was g c =
    let made = (rw c.in-Some-both.is at c.in_ok-both.ensures) in
    subst (λ x. IsMomentOf g.D.Disk c.args.last.now.base c.args.last.now.k x c.args.store.now)
    (sym (rw made at c.both_gathered.ensures).0) (rw c.in-Some.is at c.in_ok-shown.ensures.was)
