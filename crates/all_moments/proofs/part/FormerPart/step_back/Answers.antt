use Rattle.std.proofs.Common.{◌≡◌, false, refl, rules}
use Rattle.std.proofs.lemmas.Result.{on_ok_weaker}
use Rattle.all_moments.proofs.AtHand.{part_moved}
use Rattle.all_moments.proofs.part.FormerPart.step_back.Goals as goal

pub returns-clause-stays : goal.returns-clause-stays
returns-clause-stays c =
    let usable : c.args.self.now.store.must_reopen ≡ false = search rules in
    on_ok_weaker c.step_back.result (λ are. part_moved c.args.self.now _ c.step_back.ensures.still usable
    (c.shows_what_crashes_leave.ensures.quiet usable) refl refl are) c.step_back.ensures.are
