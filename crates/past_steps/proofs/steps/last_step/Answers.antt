use Rattle.std.proofs.Common.{◌∙◌, ap, length, subst, sym}
use Rattle.std.proofs.lemmas.Bool.{eqb-false}
use Rattle.std.proofs.lemmas.Result.{IfOk-weaker}
use Rattle.desk_past.proofs.Looks.{broken, looked_on, looked_twice, usable_after}
use Rattle.desk_past.proofs.Opened.{if_some_then}
use Rattle.past_steps.specs.Steps.{IsPartInUse}
use Rattle.past_steps.proofs.Turned.{few_posted, some_posted}
use Rattle.past_steps.proofs.steps.last_step.Goals as goal

pub run_before-requires : goal.run_before-requires
run_before-requires g c = usable_after g.D.Disk c.in_ok-index.ensures.looks

pub returns-in_err-events-clause-looks : goal.returns-in_err-events-clause-looks
returns-in_err-events-clause-looks g c = looked_on g.D.Disk c.in_ok-index.ensures.looks
    (broken g.D.Disk c.run_before.ensures.looks c.in_err-events.was c.from_residual-in_err-events.ensures.1)

-- an import

pub returns-then-is_empty-clause-part : goal.returns-then-is_empty-clause-part
returns-then-is_empty-clause-part g c =
    let here = rw c.in-Some.is at c.in_ok-index.ensures.part in
    IfOk-weaker c.import_at.result _ _ (λ found is. if_some_then found is (λ last same.
    subst (λ b. IsPartInUse g.D.Disk b c.args.store.now) (sym (same.0 ∙ c.run_before.ensures.base)) here))
    c.import_at.ensures.one

pub returns-then-is_empty-clause-looks : goal.returns-then-is_empty-clause-looks
returns-then-is_empty-clause-looks g c = looked_on g.D.Disk
    (looked_on g.D.Disk c.in_ok-index.ensures.looks c.in_ok-events.ensures.looks) c.import_at.ensures.looks

-- events

pub returns-clause-few : goal.returns-clause-few
returns-clause-few g c = few_posted c.in_ok-events.events.items c.args.most c.in_ok-events.ensures.few

pub returns-clause-some : goal.returns-clause-some
returns-clause-some g c = some_posted c.in_ok-events.events.items (λ none.
    eqb-false _ _ (sym c.is_empty.ensures ∙ c.if-is_empty.false) (ap length c.as_slice.ensures.value ∙ none))

pub returns-clause-looks : goal.returns-clause-looks
returns-clause-looks g c = looked_twice g.D.Disk c.in_ok-index.ensures.looks c.in_ok-events.ensures.looks

-- what is read afterwards leaves the index where it begins
pub returns-clause-part : goal.returns-clause-part
returns-clause-part g c = λ past lies.
    (rw c.in-Some.is at c.in_ok-index.ensures.part) past lies ∙ sym c.run_before.ensures.base
