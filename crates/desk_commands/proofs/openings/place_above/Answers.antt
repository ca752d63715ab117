use Rattle.std.proofs.Common.{ap, sym, subst, ◌∙◌, ◌≤◌, length, unwrap_or, nat_lt, not, rules, tests}
use Rattle.std.proofs.lemmas.Iterator.{YieldsList-from_slice}
use Rattle.std.proofs.lemmas.Iterator.Search.{position_from_yields_List}
use Rattle.std.proofs.lemmas.List.Sums.{prefix_len-le-length}
use Rattle.desk_core.proofs.GoneLemmas.{place_or_length}
use Rattle.desk_commands.proofs.openings.place_above.Goals as goal

pub returns-clause-value : goal.returns-clause-value
returns-clause-value c =
    let viewers = c.args.viewers.now in
    let found = position_from_yields_List (λ e. nat_lt c.args.id e.0) _ _ c.position.result c.position.ensures.ran
    (YieldsList-from_slice viewers cc) (λ x b q k. search (rules, tests)) in
    c.unwrap_or.ensures ∙ ap (λ o. unwrap_or o (length viewers)) found ∙ place_or_length _ viewers

pub returns-clause-within : goal.returns-clause-within
returns-clause-within c =
    let viewers = c.args.viewers.now in
    let found = position_from_yields_List (λ e. nat_lt c.args.id e.0) _ _ c.position.result c.position.ensures.ran
    (YieldsList-from_slice viewers cc) (λ x b q k. search (rules, tests)) in
    let value = c.unwrap_or.ensures ∙ ap (λ o. unwrap_or o (length viewers)) found ∙ place_or_length _ viewers in
    subst (λ n. n ≤ length viewers) (sym value) (prefix_len-le-length (λ e. not (nat_lt c.args.id e.0)) viewers)
