use Rattle.std.proofs.Common.{◌∙◌, ap, subst, sym}
use Rattle.std.proofs.lemmas.Result.{IfOk-weaker}
use Rattle.desk_past.proofs.Opened.{if_some_then}
use Rattle.past_steps.specs.Steps.{IsPartInUse}
use Rattle.desk_past.proofs.Looks.{looked_on, usable_after}
use Rattle.past_steps.proofs.Looking.{part_used}
use Rattle.past_steps.proofs.index.Index.of.Goals as goal

pub behind-requires : goal.behind-requires
behind-requires g c = usable_after g.D.Disk c.in_ok-told.ensures.looks

pub returns-in-Some-clause-looks : goal.returns-in-Some-clause-looks
returns-in-Some-clause-looks g c = looked_on g.D.Disk c.in_ok-told.ensures.looks c.behind.ensures.looks

pub returns-in-Some-clause-part : goal.returns-in-Some-clause-part
returns-in-Some-clause-part g c =
    let d = g.D.Disk in
    let used = part_used d c.args.store.now c.part_at.result _ _ c.part_at.ensures.all
    (c.sectors.ensures ∙ c.in_ok-told.ensures.looks.disk.device.as_large)
    (λ honest s at. ap (λ p. p.next) (c.in_ok-told.ensures.told honest s at)) in
    let here = rw c.in-Some.is at used in
    IfOk-weaker c.behind.result _ _ (λ found is. if_some_then found is
    (λ index same. subst (λ b. IsPartInUse d b c.args.store.now) (sym same) here)) c.behind.ensures.base
