use Rattle.std.proofs.lemmas.Option.{IfSome_then}
use Rattle.char_pages.proofs.Caching.{promoting_none, still_true}
use Rattle.char_pages.proofs.cached.held.Goals as goal

pub returns-clause-value : goal.returns-clause-value
returns-clause-value c = IfSome_then c.newest.result c.newest.ensures
    (λ byte is content true_of. is content
    (still_true (promoting_none c.args.n c.promote.ensures.entries) true_of))

pub returns-clause-cached : goal.returns-clause-cached
returns-clause-cached c = promoting_none c.args.n c.promote.ensures.entries
