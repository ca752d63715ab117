use Rattle.std.proofs.Common.{◌≡◌, false, refl, rules}
use Rattle.std.proofs.lemmas.Result.{on_ok_weaker}
use Rattle.all_moments.proofs.AtHand.{part_moved}
use Rattle.all_moments.proofs.part.FormerPart.seek_page.Goals as goal

pub returns-clause-stays : goal.returns-clause-stays
returns-clause-stays c =
    let usable : c.args.self.now.store.must_reopen ≡ false = search rules in
    on_ok_weaker c.seek_page.result (λ are. part_moved c.args.self.now _ c.seek_page.ensures.still usable
    (c.shows_what_crashes_leave.ensures.quiet usable) refl refl are) c.seek_page.ensures.are
