use Rattle.std.proofs.Common.{ap, ◌∙◌, ◌==◌, length, unwrap_or, rules, tests}
use Rattle.std.proofs.lemmas.Iterator.{YieldsList-from_slice}
use Rattle.std.proofs.lemmas.Iterator.Search.{position_from_yields_List}
use Rattle.desk_core.proofs.GoneLemmas.{place_or_length}
use Rattle.desk_core.proofs.tables.place_of.Goals as goal

pub returns : goal.returns
returns c =
    let viewers = c.args.viewers.now in
    let found = position_from_yields_List (λ e. e.0 == c.args.id) _ _ c.position.result c.position.ensures.ran
    (YieldsList-from_slice viewers cc) (λ x b q k. search (rules, tests)) in
    c.unwrap_or.ensures ∙ ap (λ o. unwrap_or o (length viewers)) found ∙ place_or_length _ viewers
