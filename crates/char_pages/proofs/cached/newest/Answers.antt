use Rattle.std.proofs.Common.{ap, get_or, sym, ◌∙◌}
use Rattle.char_pages.proofs.Caching.{first_entry}
use Rattle.char_pages.proofs.cached.newest.Goals as goal

pub returns-then-number-n : goal.returns-then-number-n
returns-then-number-n c = λ content true_of. ap (λ bytes. get_or bytes c.args.at 0)
    (true_of.is (c.in-Some.number.now, c.in-Some.sector.now) (first_entry _ _ (sym c.in-Some.ensures))
    ∙ ap content c.if-number-n.true)
