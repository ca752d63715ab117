use Rattle.std.proofs.Common.{◌==◌, not, length, unwrap_or, ap, ◌∙◌, arith, rules, tests}
use Rattle.std.specs.List.{list_any}
use Rattle.std.proofs.lemmas.Iterator.{YieldsList-from_range}
use Rattle.std.proofs.lemmas.Iterator.Search.{position_from_yields_List}
use Rattle.desk_core.proofs.GoneLemmas.{place_in_range, unused_by_id}
use Rattle.desk_core.proofs.tables.unused_id.Goals as goal

pub returns : goal.returns
returns c =
    let viewers = c.args.viewers.now in
    let found = position_from_yields_List (λ n. not (list_any (λ e. e.0 == n) viewers)) _ _ c.position.result
    c.position.ensures.ran (YieldsList-from_range 0 (length viewers) (length viewers) (cc) (omega arith))
    (λ x b q k. search (rules, tests)) in
    c.unwrap_or.ensures ∙ ap (λ o. unwrap_or o (length viewers)) found ∙ place_in_range _ (length viewers)
    ∙ unused_by_id viewers
