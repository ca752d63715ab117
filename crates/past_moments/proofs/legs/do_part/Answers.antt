use Rattle.std.proofs.Common.{◌≡◌, ◌≤◌, ◌∙◌, ap, arith, length, subst, take}
use Rattle.std.proofs.lemmas.Result.{IfOk-weaker}
use Rattle.desktop_definitions.specs.Step.{steps}
use Rattle.past_moments.proofs.Ways.{moment_late, moment_part, moment_same}
use Rattle.past_moments.proofs.legs.do_part.Goals as goal

pub returns-then-count-eq0-clause-done : goal.returns-then-count-eq0-clause-done
returns-then-count-eq0-clause-done g c = λ done reaches is was.
    let none : c.args.count ≡ 0 = omega (arith, c.if-count-eq0.true) in
    moment_same g.D.Disk c.args.place c.args.shown.now.desktop c.args.count was none

pub returns-then-is_present-clause-done : goal.returns-then-is_present-clause-done
returns-then-is_present-clause-done g c = IfOk-weaker c.post_front.result _ _ (λ done fact. λ yes reaches is was.
    moment_late g.D.Disk c.args.extent.now c.args.place c.args.shown.now.desktop c.post_front.new.shown.desktop
    c.args.count reaches is was (c.is_present.ensures.yes c.if-is_present.true)
    (subst (λ l. c.args.count ≤ length l) c.as_slice.ensures.value (fact yes).0)
    ((fact yes).1 ∙ ap (λ l. steps c.args.shown.now.desktop (take c.args.count l)) c.as_slice.ensures.value))
    c.post_front.ensures

pub returns-in-Some-clause-done : goal.returns-in-Some-clause-done
returns-in-Some-clause-done g c = IfOk-weaker c.do_front.result _ _ (λ done fact. λ yes reaches is was.
    moment_part g.D.Disk c.args.place c.in-Some._next c.in-Some.deeds c.args.shown.now.desktop c.do_front.new.shown.desktop
    c.args.count ((rw c.in-Some.is at c.in_ok-page_at.ensures.page) reaches is) was (fact yes))
    c.do_front.ensures
