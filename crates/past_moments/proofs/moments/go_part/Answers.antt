use Rattle.std.proofs.Common.{◌≡◌, ◌+◌, arith, subst}
use Rattle.std.proofs.lemmas.Result.{IfOk-weaker}
use Rattle.past_moments.specs.Moments.{IsDesktopAt}
use Rattle.past_moments.proofs.moments.go_part.Goals as goal

pub returns-clause-low : goal.returns-clause-low
returns-clause-low g c = IfOk-weaker c.do_part.result _ _ (λ done fact. λ yes. omega (arith, c.in-Some.ensures)) c.do_part.ensures.done

pub returns-clause-shown : goal.returns-clause-shown
returns-clause-shown g c = IfOk-weaker c.do_part.result _ _ (λ done fact. λ yes reaches is.
    let all : c.args.mark.now.place.k + c.in-Some.count ≡ c.args.k = omega (arith, c.in-Some.ensures) in
    subst (λ n. IsDesktopAt g.D.Disk n c.do_part.new.shown.desktop c.args.store.now) all
    (fact yes reaches is.place is.shown)) c.do_part.ensures.done
