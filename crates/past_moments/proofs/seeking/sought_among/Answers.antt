use Rattle.std.proofs.Common.{rules, ◌≡◌, ◌∙◌, ◌-◌, ap, arith, length, sym, take}
use Rattle.std.proofs.lemmas.List.{take-take}
use Rattle.desktop_definitions.specs.Step.{steps}
use Rattle.past_moments.specs.Seeking.{stands}
use Rattle.past_moments.proofs.Gone.{sought_none, sought_some}
use Rattle.past_moments.proofs.seeking.sought_among.Goals as goal

pub returns-in-Some-clause-sought : goal.returns-in-Some-clause-sought
returns-in-Some-clause-sought c = λ at same.
    let first = c.args.first in
    let k = c.args.k in
    let here = c.args.shown.now.desktop in
    let word = c.args.word.now in
    let is : c.split_at.result.0.now ≡ take (k - first) c.args.events.now = c.split_at.ensures.front in
    let long : length c.split_at.result.0.now ≡ k - first = search rules in
    sought_some at (λ i. stands word (steps here (take i c.split_at.result.0.now))) first (length c.split_at.result.0.now)
    (λ i few. same i (omega (arith, few, long, c.if-k-first-2.false))
    ∙ ap (λ l. stands word (steps here l)) (sym (ap (take i) is ∙ take-take i (k - first) c.args.events.now (omega (arith, few, long)))))
    k c.in-Some.many (omega (arith, long, c.if-k-first.false)) (rw c.in-Some.is at c.in_ok-many.ensures)

pub returns-in-None-clause-sought : goal.returns-in-None-clause-sought
returns-in-None-clause-sought c = λ at same.
    let first = c.args.first in
    let k = c.args.k in
    let here = c.args.shown.now.desktop in
    let word = c.args.word.now in
    let is : c.split_at.result.0.now ≡ take (k - first) c.args.events.now = c.split_at.ensures.front in
    let long : length c.split_at.result.0.now ≡ k - first = search rules in
    sought_none at (λ i. stands word (steps here (take i c.split_at.result.0.now))) first (length c.split_at.result.0.now)
    (λ i few. same i (omega (arith, few, long, c.if-k-first-2.false))
    ∙ ap (λ l. stands word (steps here l)) (sym (ap (take i) is ∙ take-take i (k - first) c.args.events.now (omega (arith, few, long)))))
    k (omega (arith, long, c.if-k-first.false)) (rw c.in-None.is at c.in_ok-many.ensures)
